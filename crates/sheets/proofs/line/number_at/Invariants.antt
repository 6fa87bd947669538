-- What is left of the columns gives what all give.
use Rattle.std.proofs.Common.{ℕ, ◌-◌, ◌≡◌, List}
use Rattle.ranges.specs.Open.{columns_of}
use Rattle.sheet.specs.Sheet.{number_at}
use Rattle.sheets.proofs.line.number_at.Given as goal

abbrev pub invariant-loop-k : goal.invariant-loop-k
invariant-loop-k l = (s : List ℕ) → number_at l.a l.k (columns_of s l.source (l.n - l.k) l.k) ≡ number_at l.a 0 (columns_of s l.source l.n 0)
