-- Each turn passes a column, whose DL alone may lie in the window; those that are left give what all give. It begins at the last column whose DG begins by the window.
use Rattle.std.proofs.Common.{ℕ, ◌≤◌, List, ◌≡◌, length}
use Rattle.plan.specs.Copies.{Copy, Attachment}
use Rattle.writing.specs.Structure.{on_table, Near}
use Rattle.window_structure.specs.Laying.{Laying}
use Rattle.window_structure.proofs.lay_passed.Given as goal

abbrev pub invariant-loop-k : goal.invariant-loop-k
invariant-loop-k l =
    (length l.w ≡ length l.initial.w) × ((m : List Copy) (ats : List Attachment) (g : List ℕ) → Near l.memo l.n → 4096 ≤ length l.columns → Laying l.photos (on_table l.table) l.image l.size l.columns l.memo l.n l.a m ats g 0 l.initial.w
    → Laying l.photos (on_table l.table) l.image l.size l.columns l.memo l.n l.a m ats g l.k l.w)
