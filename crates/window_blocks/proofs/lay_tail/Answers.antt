-- A window past the links sees the data only; one inside a link its end, and then what is left.
use Rattle.std.proofs.Common.{refl, ◌≡◌, ◌+◌, arith, ◌∙◌}
use Rattle.window_blocks.specs.TailLaws.{tail_past, tail_inside}
use Rattle.window_blocks.proofs.lay_tail.Goals as goal

pub returns-then-n-i : goal.returns-then-n-i
returns-then-n-i c = c.lay_dl_data.ensures ∙ tail_past _ _ _ _ _ c.if-n-i.true

pub returns : goal.returns
returns c =
    let e : c.args.payload + 24 ≡ 24 + c.args.payload = omega arith in
    tail_inside _ _ _ _ _ _ _ _ _ _ _ c.if-n-i.false (rw e refl) refl refl refl
    c.lay_u64.ensures c.put_tail.ensures
