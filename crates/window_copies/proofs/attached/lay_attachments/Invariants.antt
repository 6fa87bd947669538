-- Each turn lays an attachment; those that are left give what all give.
use Rattle.window_copies.specs.LayingAt.{LayingAt}
use Rattle.work_words.specs.CopyWords.{history_at}
use Rattle.base.specs.Blit.{part}
use Prim.Native.Nat.{ℕ, ◌≤◌}
use lib.ListN.{length}
use mathlib.Core.List.{List}
use mathlib.Core.Path.{◌≡◌}
use Rattle.window_copies.proofs.attached.lay_attachments.Given as goal

abbrev pub invariant-loop-i : goal.invariant-loop-i
invariant-loop-i l =
    (l.own ≤ 2050) × (length l.w ≡ length l.initial.w) × ((g : List ℕ) → LayingAt l.image l.memo (part history_at l.chain l.memo) l.used l.fh l.a l.count g 0 l.first l.initial.w
    → LayingAt l.image l.memo (part history_at l.chain l.memo) l.used l.fh l.a l.count g l.i l.own l.w)
