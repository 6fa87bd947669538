-- What is left, laid over the slice as it is now, gives the result; past the end it is lost.
use mathlib.Core.Path.{◌≡◌}
use Prim.Native.Nat.{◌<◌}
use lib.ListN.{length}
use Rattle.base.specs.Blit.{blit}
use Rattle.window_copies.specs.Attachments.{attachments_in}
use Rattle.window_photos.specs.Photos.{photos_from}
use Rattle.window_photos.proofs.put_photos.Given as goal

abbrev pub invariant-loop-i : goal.invariant-loop-i
invariant-loop-i l =
    (l.p < length l.w) × (length l.w ≡ length l.initial.w)
    × (blit l.p (photos_from l.image (attachments_in l.memo l.metadata l.attached) l.c l.i l.n) l.w ≡ blit l.at (photos_from l.image (attachments_in l.memo l.metadata l.attached) l.c l.from l.n) l.initial.w)
