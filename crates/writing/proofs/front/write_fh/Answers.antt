-- Zeros, then the FH.
use Rattle.writing.specs.FrontLaws.{wrote_fh}
use Rattle.std.proofs.Common.{arith, rules}
use Rattle.writing.proofs.front.write_fh.Goals as goal

pub returns : goal.returns
returns c =
    wrote_fh _ _ _ _ _ _ _ c.gap.ensures c.put_fh.ensures
    (omega arith)
