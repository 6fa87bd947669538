use Rattle.result.specs.FillLaws.{length-header}
use Rattle.windows.specs.LayLaws.{laid_from}
use native.Mathlib.Omega.{arith}
use Rattle.windows.proofs.lay_header.Goals as goal

pub returns : goal.returns
returns c = laid_from _ _ 24 _ _ _ c.lay.ensures c.header.ensures (length-header _ _ _) (omega arith)
