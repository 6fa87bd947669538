-- The FH after the MD.
use Rattle.write_copies.specs.WroteLaws.{wrote_append}
use Rattle.writing.specs.FrontLaws.{history-room, past_md}
use Rattle.std.proofs.Common.{arith, rules}
use Rattle.writing.proofs.front.write_history.Goals as goal

pub write_md-a-requires : goal.write_md-a-requires
write_md-a-requires c =
    let r = history-room _ _ _ _ _ _ c.requires in (
      omega (arith, r.begins),
      omega (
        arith,
        r.next,
        r.ends,
      ),
    )

pub write_fh-requires : goal.write_fh-requires
write_fh-requires c =
    let r = history-room _ _ _ _ _ _ c.requires in (
      omega (
        arith,
        r.next,
        past_md _ _
            c.write_md-a.ensures,
      ),
      omega (arith, r.ends, c.write_md-a.auto.out),
    )

pub returns : goal.returns
returns c =
    wrote_append _ c.write_md-a.ensures c.write_fh.ensures
    c.requires
