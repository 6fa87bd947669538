-- References that begin in the window are put there; else by where the window begins in them.
use Rattle.window_photos.specs.PhotosLaws.{before_window, inside_window, after_window}
use native.Mathlib.Omega.{arith}
use Rattle.window_photos.proofs.lay_known.Goals as goal

pub returns-then-a-at : goal.returns-then-a-at
returns-then-a-at c = after_window _ _ _ _ _ _ _ _ (omega arith) c.put_photos.ensures

pub returns-then-n-i : goal.returns-then-n-i
returns-then-n-i c = before_window _ _ _ _ _ _ _ (omega arith) (omega arith)

pub returns : goal.returns
returns c = inside_window _ _ _ _ _ _ _ _ _ _ _ (omega arith) c.if-n-i.false c.link_at-x.ensures (c.moved_to-to.ensures c.requires.1 c.requires.2) c.lay_u64.ensures c.put_photos-2.ensures
