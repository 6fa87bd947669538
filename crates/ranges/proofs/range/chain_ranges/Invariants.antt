-- What is left of the chain gives what the whole chain gives.
use Rattle.std.proofs.Common.{◌-◌, ◌≡◌}
use Rattle.ranges.specs.Ranged.{chain_ranges}
use Rattle.ranges.proofs.range.chain_ranges.Given as goal

abbrev pub invariant-turns : goal.invariant-turns
invariant-turns l = chain_ranges l.image (258 - l._turn) l.at ≡ chain_ranges l.image 258 l.a
