use Rattle.base.specs.FieldLaws.{length-le}
use Rattle.windows.specs.LayLaws.{laid_from}
use native.Mathlib.Omega.{arith}
use Rattle.windows.proofs.lay_u64.Goals as goal

pub returns : goal.returns
returns c = laid_from _ _ 8 _ _ _ c.lay.ensures c.put_u64.ensures (length-le 8 _) (omega arith)
