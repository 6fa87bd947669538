use Rattle.shares.specs.EightsLaws.{giving_begin, giving_turn, giving_end}
use Rattle.std.proofs.Common.{arith, refl, length-set, ℕ}
use Rattle.shares.proofs.give.Goals as goal

pub loop-i-init : goal.loop-i-init
loop-i-init c = record { given = giving_begin _ _ _ _ _; eight = refl }

pub loop-i-preserved : goal.loop-i-preserved
loop-i-preserved c =
    record {
      given = giving_turn _ _ _ _ _ _ _ _ c.loop-i.invariant.given _ _ _ _ c.loop-i-test.true c.least-base.ensures (rw c.min.ensures refl) c.min-more.ensures refl;
      eight = omega (arith, length-set {A = ℕ});
    }

pub returns : goal.returns
returns c = giving_end _ _ _ _ _ _ _ _ c.loop-i.invariant.given (omega arith)
