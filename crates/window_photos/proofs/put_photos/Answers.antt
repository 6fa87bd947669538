-- What is left, laid over the slice as it is now, gives the result; past the end it is lost.
use mathlib.Core.Path.{sym}
use Rattle.base.specs.Blit.{blit}
use Rattle.stores.specs.OverLaws.{blit-past}
use Rattle.window_photos.specs.PhotosLaws.{photos_turn, photos_end, no_photos}
use native.Mathlib.Omega.{arith}
use Rattle.window_photos.proofs.put_photos.Goals as goal

pub returns-then-w-at : goal.returns-then-w-at
returns-then-w-at c = sym (blit-past _ _ _ (omega arith))

pub returns-then-w-p-le8 : goal.returns-then-w-p-le8
returns-then-w-p-le8 c = photos_end _ _ _ _ _ _ _ _ _ _ _ c.loop-i-test.true c.link_at-a.ensures c.sought-to.ensures c.loop-i.invariant.2 c.put_u64.ensures (omega arith)

pub loop-i-preserved : goal.loop-i-preserved
loop-i-preserved c =
    (omega arith, omega arith, photos_turn _ _ _ _ _ _ _ _ _ _ _ c.loop-i-test.true c.link_at-a.ensures c.sought-to.ensures c.loop-i.invariant.2 c.put_u64.ensures)

pub returns : goal.returns
unfolding blit
returns c = rw (no_photos _ _ _ _ _ c.loop-i-test.false) at c.loop-i.invariant.2
