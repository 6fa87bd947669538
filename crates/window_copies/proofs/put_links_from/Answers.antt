-- The links that are left, laid over the slice as it is now, give the result; past the end they are lost.
use Rattle.window_copies.specs.LaidLaws.{numbered_turn, numbered_end, numbered_done}
use Rattle.copying.specs.CopyingLaws.{led_is}
use Rattle.puts.specs.PutLaws.{blit-past}
use mathlib.Core.Path.{refl, sym}
use native.Mathlib.Omega.{arith}
use Rattle.window_copies.proofs.put_links_from.Goals as goal

pub returns-then-d-at : goal.returns-then-d-at
returns-then-d-at c = λ t. sym (blit-past _ _ _ (omega arith))

pub loop-i-init : goal.loop-i-init
loop-i-init c = (omega arith, refl, λ t. refl)

pub returns-then-d-p-le8 : goal.returns-then-d-p-le8
returns-then-d-p-le8 c = λ t. numbered_end _ _ _ _ _ _ _ c.loop-i-test.true (c.loop-i.invariant.2 t) c.link_at-old.ensures
    (led_is _ _ (c.link_by-new.ensures t)) c.put_u64.ensures (omega arith)

pub loop-i-preserved : goal.loop-i-preserved
loop-i-preserved c = (
  omega arith,
  omega arith,
  λ t. numbered_turn _ _ _ _ _ _ _ c.loop-i-test.true (c.loop-i.invariant.2 t) c.link_at-old.ensures (led_is _ _ (c.link_by-new.ensures t))
      c.put_u64.ensures,
)

pub returns : goal.returns
returns c = λ t. numbered_done _ _ _ _ _ _ (c.loop-i.invariant.2 t) (omega arith)
