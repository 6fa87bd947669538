-- Within the image, or not.
use Rattle.std.proofs.Common.{arith}
use Rattle.ranges.specs.RangedLaws.{range-out, range-fine}
use Rattle.ranges.proofs.range.block_range.Goals.{then-n-b-via-then-n-b, then-n-b-via-else-n-b+then-n-b-2}
use Rattle.ranges.proofs.range.block_range.Goals as goal

pub returns-then-n-b : goal.returns-then-n-b
returns-then-n-b c = elim c.then-n-b.branch [
  | then-n-b-via-then-n-b w ↦ range-out _ _ _ _ (omega arith)
  | then-n-b-via-else-n-b+then-n-b-2 w ↦ range-out _ _ _ _ (omega arith)
]

pub returns : goal.returns
returns c = range-fine _ _ _ _ (omega arith)
