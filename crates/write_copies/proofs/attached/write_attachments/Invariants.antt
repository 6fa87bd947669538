-- Each turn writes an attachment; those that are left end what all are.
use Rattle.write_copies.specs.AttachmentsLaws.{AttachmentsLeft}
use Rattle.window_copies.specs.Attachments.{attachments_in}
use Rattle.copies_laws.specs.AttachLaws.{LaidAt, own_copies}
use Rattle.result.specs.Fill.{attachment_blocks}
use Rattle.copier.specs.Standing.{copies_in}
use Rattle.work_words.specs.CopyWords.{history_at}
use Rattle.base.specs.Blit.{part}
use Prim.Native.Nat.{◌+◌, ◌≤◌}
use mathlib.Core.Path.{◌≡◌}
use lib.ListN.{length}
use Rattle.write_copies.proofs.attached.write_attachments.Given as goal

abbrev pub invariant-loop-i : goal.invariant-loop-i
invariant-loop-i l =
    (l.own ≤ 2050) × (length l.out ≡ length l.initial.out) × (l.first + length (own_copies (attachments_in l.memo l.first l.count)) ≤ l.used → l.used ≤ 2050
    → LaidAt l.image l.at (attachments_in l.memo l.first l.count) (length l.initial.out)
    → AttachmentsLeft l.image l.memo (part history_at l.chain l.memo) l.used l.fh l.at
    (attachment_blocks l.image (part history_at l.chain l.memo) (copies_in l.memo l.used) l.fh (attachments_in l.memo l.first l.count)) l.initial.out l.count l.i l.own l.p l.out)
