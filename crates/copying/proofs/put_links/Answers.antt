-- The links that are left, laid over the slice as it is now, give the result; past the end they are lost.
use Rattle.copying.specs.CopyingLaws.{led_is, links_begin, links_turn, links_end, links_done}
use Rattle.puts.specs.PutLaws.{blit-past}
use Prim.Native.Nat.{◌+◌, ◌*◌, ◌-◌}
use mathlib.Core.Path.{◌≡◌, refl, sym}
use native.Mathlib.Omega.{arith}
use Rattle.copying.proofs.put_links.Goals as goal

pub returns-then-d-at : goal.returns-then-d-at
returns-then-d-at c = λ t. sym (blit-past _ _ _ (omega arith))

pub loop-i-init : goal.loop-i-init
loop-i-init c =
    let k : c.args.k - 0 ≡ c.args.k = omega arith in
    let p : c.args.at + 0 ≡ c.args.at = omega arith in
    (omega arith, refl, λ t. rw (k, p) (links_begin _ _ _ _ _ _))

pub returns-then-d-p-le8 : goal.returns-then-d-p-le8
returns-then-d-p-le8 c = λ t. links_end _ _ _ (1 + c.loop-i.i) _ _ _ (omega arith) (c.loop-i.invariant.2 t) c.link_at-old.ensures
    (led_is _ _ (c.link_by-new.ensures t)) c.put_u64.ensures (omega arith)

pub loop-i-preserved : goal.loop-i-preserved
loop-i-preserved c =
    let i = c.loop-i.i in
    let k : c.args.k - (i + 1) ≡ c.args.k - i - 1 = omega arith in
    let p : c.args.at + 8 * (i + 1) ≡ c.args.at + 8 * i + 8 = omega arith in
    let n : 1 + (i + 1) ≡ 1 + i + 1 = omega arith in (
      omega arith,
      omega arith,
      λ t. rw (k, p, n) (links_turn _ _ _ (1 + i) _ _ _ (omega arith) (c.loop-i.invariant.2 t) c.link_at-old.ensures (led_is _ _ (c.link_by-new.ensures t)) c.put_u64.ensures),
    )

pub returns : goal.returns
returns c = λ t. links_done _ _ _ (1 + c.loop-i.i) _ _ (c.loop-i.invariant.2 t) (omega arith)
