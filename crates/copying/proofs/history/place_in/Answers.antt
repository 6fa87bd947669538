-- What is left of the chain, and the last that was met, give the first.
use Prim.Native.Nat.{◌+◌, ◌-◌}
use mathlib.Core.Path.{◌≡◌, ◌∙◌, refl}
use lib.ListN.{get_or}
use Rattle.base.specs.Choice.{if_eq}
use Rattle.base.specs.ChoiceLaws.{eq_yes, eq_no}
use Rattle.work_words.specs.CopyWords.{history_at}
use Rattle.copying.specs.ChainIndexLaws.{chase_begin, chase_end, chase_less, chase_next, met_most, met_word}
use native.Mathlib.Omega.{arith}
use Rattle.copying.proofs.history.place_in.Goals as goal
use Rattle.copying.proofs.history.place_in.Goals.{then-memo-i, else-memo-i}

pub loop-i-init : goal.loop-i-init
loop-i-init c = (omega arith, refl, λ t. chase_begin _ _ _ _ t c.from-i.ensures refl)

pub returns-then-most-i : goal.returns-then-most-i
returns-then-most-i c = record { within = omega arith; first = λ t. let u = c.loop-i.invariant.2 t in absurd (omega (arith, u.order, u.most)) }

pub returns-then-i-older : goal.returns-then-i-older
returns-then-i-older c = record {
  within = omega arith;
  first = λ t.
      let u = c.loop-i.invariant.2 t in
      let k = chase_less u c.loop-i-test.true _ t c.from-older.ensures in
      absurd (omega arith);
}

pub loop-i-preserved : goal.loop-i-preserved
loop-i-preserved c =
    let s = c.args in
    let l = c.loop-i in
    let m : c.if-memo-i.hit ≡ if_eq (get_or s.memo.now (history_at + (l.i - 1)) 0) s.a (l.i - 1) l.hit =
    elim c.if-memo-i.branch [
      | then-memo-i w ↦ w.hit-is ∙ eq_yes _ _ _ _ w.if-memo-i.true refl
      | else-memo-i w ↦ w.hit-is ∙ eq_no _ _ _ _ w.if-memo-i.false refl
    ] in (
      met_most _ _ _ _ _ m (omega arith) c.loop-i.invariant.0,
      c.loop-i.invariant.1,
      λ t. chase_next (l.invariant.2 t) c.loop-i-test.true _ t c.from-older.ensures (met_word s.memo.now s.a l.i l.hit m),
    )

pub returns : goal.returns
returns c = record { within = c.loop-i.invariant.0; first = λ t. chase_end (c.loop-i.invariant.2 t) (omega arith) }
