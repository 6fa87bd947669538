-- What is left of the chain, and the last that was met, give the copy.
use Prim.Native.Nat.{◌*◌, ◌-◌}
use mathlib.Core.Path.{◌≡◌, ◌∙◌, refl}
use lib.ListN.{get_or}
use Rattle.base.specs.Choice.{if_eq}
use Rattle.base.specs.ChoiceLaws.{eq_yes, eq_no}
use Rattle.copier.specs.IndexLaws.{chase_begin, chase_none, chase_hit, chase_next, chase_less, met_most}
use native.Mathlib.Omega.{arith}
use Rattle.copier.proofs.memo.find_in.Goals as goal
use Rattle.copier.proofs.memo.find_in.Goals.{then-memo-i, else-memo-i}

pub loop-i-init : goal.loop-i-init
loop-i-init c = (omega arith, refl, λ t. chase_begin _ _ _ _ t c.from-i.ensures)

pub returns-then-most-i : goal.returns-then-most-i
returns-then-most-i c = λ t. let k = (c.loop-i.invariant.2 t).within in absurd (omega arith)

pub returns-then-i-older : goal.returns-then-i-older
returns-then-i-older c = λ t. let k = chase_less (c.loop-i.invariant.2 t) c.loop-i-test.true _ t c.from-older.ensures in absurd (omega arith)

pub loop-i-preserved : goal.loop-i-preserved
loop-i-preserved c =
    let m : c.if-memo-i.hit ≡ if_eq (get_or c.args.memo.now (2 * (c.loop-i.i - 1)) 0) c.args.a c.loop-i.i c.loop-i.hit =
    elim c.if-memo-i.branch [
      | then-memo-i w ↦ w.hit-is ∙ eq_yes _ _ _ _ w.if-memo-i.true refl
      | else-memo-i w ↦ w.hit-is ∙ eq_no _ _ _ _ w.if-memo-i.false refl
    ] in (
      met_most _ _ _ _ _ m (omega arith) c.loop-i.invariant.0,
      c.loop-i.invariant.1,
      λ t. chase_next (c.loop-i.invariant.2 t) c.loop-i-test.true _ t c.from-older.ensures m,
    )

pub returns-then-hit-eq0 : goal.returns-then-hit-eq0
returns-then-hit-eq0 c = λ t. chase_none (c.loop-i.invariant.2 t) (omega arith) (omega arith)

pub returns : goal.returns
returns c = λ t. chase_hit (c.loop-i.invariant.2 t) (omega arith) (omega arith)
