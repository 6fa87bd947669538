-- Each answer adds at most 1 to what is counted.
use Rattle.std.proofs.Common.{◌+◌, ◌≤◌}
use Rattle.answers.proofs.all.Given as goal

abbrev pub invariant-loop-k : goal.invariant-loop-k
invariant-loop-k g l = l.accepted + l.refused ≤ l.k-counter
