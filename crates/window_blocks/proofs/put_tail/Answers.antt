-- What is left, laid over the slice as it is now, gives the result; past the end it is lost.
use Rattle.std.proofs.Common.{◌≡◌, ◌+◌, ◌-◌, refl, sym, ◌∙◌, arith}
use Rattle.stores.specs.OverLaws.{blit-past}
use Rattle.window_blocks.specs.TailLaws.{tail_turn, tail_end, tail_none}
use Rattle.window_blocks.proofs.put_tail.Goals as goal

pub returns-then-w-at : goal.returns-then-w-at
returns-then-w-at c = sym (blit-past _ _ _ (omega arith))

pub loop-i-init : goal.loop-i-init
loop-i-init c = let e : c.args.k - 0 ≡ c.args.k = omega arith in (omega arith, refl, rw e refl)

pub returns-then-w-p-le8 : goal.returns-then-w-p-le8
returns-then-w-p-le8 c = tail_end _ _ _ _ _ _ _ _ (omega (arith, c.loop-i-test.true)) c.loop-i.invariant.2 c.put_u64.ensures (omega arith)

pub loop-i-preserved : goal.loop-i-preserved
loop-i-preserved c =
    let e : c.args.k - (c.loop-i._i + 1) ≡ c.args.k - c.loop-i._i - 1 = omega arith in
    let f : c.args.payload + 24 ≡ 24 + c.args.payload = omega arith in (
      omega arith,
      omega arith,
      rw e (tail_turn _ _ _ _ _ _ _ _ _ _ (omega (arith, c.loop-i-test.true)) c.loop-i.invariant.2 c.put_u64.ensures (rw f refl) refl),
    )

pub returns : goal.returns
returns c =
    let e : c.args.k - c.loop-i._i ≡ 0 = omega arith in
    c.lay_dl_data.ensures ∙ sym (tail_none _ _ _ _ _) ∙ rw e at c.loop-i.invariant.2
