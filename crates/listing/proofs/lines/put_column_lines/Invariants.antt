-- The lines of the first k columns are laid.
use borrow.Author.Rules.{rules}
use native.Mathlib.Omega.{arith}
use Prim.Native.Nat.{◌*◌, ◌-◌, ◌≤◌}
use Rattle.texts.specs.Laid.{Laid}
use Rattle.texts.specs.LaidLaws.{laid-length}
use Rattle.listing.specs.Lines.{lines_in}
use Rattle.listing.specs.LinesLaws.{lines_begin, lines_end, lines_turn}
use Rattle.listing.proofs.lines.put_column_lines.Given as goal

abbrev pub invariant-loop-k : goal.invariant-loop-k
invariant-loop-k l = (l.k ≤ l.n) × Laid l.at (lines_in l.plan.image.now l.plan.size l.plan.columns.now l.plan.fragments.now 0 l.k) (149 * l.k) l.initial.lines
    l.lines l.p
