-- Zeros, then the MD.
use Rattle.writing.specs.FrontLaws.{md_size_lem, wrote_md}
use Rattle.std.proofs.Common.{length, arith, rules}
use Rattle.writing.proofs.front.write_md.Goals as goal

pub overflow_add-result-2 : goal.overflow_add-result-2
overflow_add-result-2 c =
    omega (
      arith,
      c.requires.1,
      md_size_lem (length
          c.args.text.now),
    )

pub returns : goal.returns
returns c =
    wrote_md _ _ _ _ _ _ c.gap.ensures c.put_md.ensures
    (omega arith)
