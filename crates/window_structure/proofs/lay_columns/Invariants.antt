-- Each turn lays a column; those that are left give what all give.
use Rattle.std.proofs.Common.{ℕ, ◌≤◌, List, ◌≡◌, length}
use Rattle.copier.specs.Standing.{copies_in}
use Rattle.window_copies.specs.Attachments.{attachments_in}
use Rattle.writing.specs.Structure.{on_table, Near}
use Rattle.window_structure.specs.Laying.{Laying}
use Rattle.window_structure.proofs.lay_columns.Given as goal

abbrev pub invariant-loop-k : goal.invariant-loop-k
invariant-loop-k l =
    (length l.w ≡ length l.initial.w) × ((g : List ℕ) → Near l.copied.memo.now l.n → 4096 ≤ length l.columns → Laying l.photos (on_table l.table) l.image l.size l.columns l.copied.memo.now l.n l.a (copies_in l.copied.memo.now l.copied.used) (attachments_in l.copied.memo.now l.copied.metadata l.copied.attached) g l.first l.initial.w
    → Laying l.photos (on_table l.table) l.image l.size l.columns l.copied.memo.now l.n l.a (copies_in l.copied.memo.now l.copied.used) (attachments_in l.copied.memo.now l.copied.metadata l.copied.attached) g l.k l.w)
