-- As many bytes as there are.
use Rattle.std.proofs.Common.{ap, ℕ, ◌+◌}
use Rattle.ranges.specs.ReadLaws.{part_clipped}
use Rattle.ranges.proofs.read.part_of.Goals as goal

pub returns : goal.returns
returns c = part_clipped _ _ _ _ _ c.min-from.ensures (ap (λ (j : ℕ). c.min-from.result + j) c.min.ensures)
