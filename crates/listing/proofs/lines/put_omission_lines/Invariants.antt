-- The lines of the first k omissions are laid.
use borrow.Author.Rules.{rules}
use native.Mathlib.Omega.{arith}
use Prim.Native.Nat.{◌*◌, ◌-◌, ◌≤◌}
use Rattle.texts.specs.Laid.{Laid}
use Rattle.texts.specs.LaidLaws.{laid-length}
use Rattle.listing.specs.Lines.{omissions_in}
use Rattle.listing.specs.LinesLaws.{omissions_begin, omissions_end, omissions_turn}
use Rattle.listing.proofs.lines.put_omission_lines.Given as goal

abbrev pub invariant-loop-k : goal.invariant-loop-k
invariant-loop-k l = (l.k ≤ l.n) × Laid l.at (omissions_in l.columns 4096 l.k) (42 * l.k) l.initial.lines l.lines l.p
