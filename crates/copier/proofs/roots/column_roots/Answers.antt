-- What is left of the nine links gives what all give.
use Prim.{tt}
use mathlib.Core.Path.{refl}
use Rattle.fields.specs.AnswerLaws.{passed_on}
use native.Mathlib.Omega.{arith}
use Rattle.copier.specs.TurnLaws.{indexed_at, held_begin, held_next, roots-next, roots_refused, roots_end}
use Rattle.copier.specs.Roots.{roots, roots_nine}
use Rattle.copier.proofs.roots.column_roots.Goals as goal

pub loop-i-init : goal.loop-i-init
loop-i-init c = (held_begin _ _ c.requires.room, c.requires.words, refl, c.requires.indexed)

pub returns-in_err-st : goal.returns-in_err-st
returns-in_err-st c =
    let a = c.args in
    let n = roots_nine a.image.now a.dg a.cg a.cn in
    rw (passed_on _ _ c.from_residual.ensures)
    (record {
      copied = roots_refused _ _ (roots a.image.now a.dg a.cg a.cn)
          c.loop-i.i _ _ _
          c.loop-i.invariant.2 (omega arith)
          c.copy_root.ensures.copied c.in_err-st.was
          c.root-link.ensures;
      after = tt;
      indexed = tt;
    })

pub loop-i-preserved : goal.loop-i-preserved
loop-i-preserved c =
    let a = c.args in
    let n = roots_nine a.image.now a.dg a.cg a.cn in (
      held_next c.loop-i.invariant.0
          c.copy_root.ensures.copied
          c.copy_root.ensures.after c.in_ok-st.was
          c.copy_root.auto.memo,
      omega (
        arith,
        c.copy_root.auto.memo,
        c.loop-i.invariant.1,
      ),
      roots-next _ _ (roots a.image.now a.dg a.cg a.cn)
          c.loop-i.i _ _ _
          c.loop-i.invariant.2 (omega arith)
          c.copy_root.ensures.copied c.in_ok-st.was
          c.root-link.ensures,
      indexed_at c.copy_root.ensures.indexed c.in_ok-st.was,
    )

pub returns : goal.returns
returns c =
    let a = c.args in
    let i = c.loop-i.invariant in
    let n = roots_nine a.image.now a.dg a.cg a.cn in record {
      copied = roots_end _ _ (roots a.image.now a.dg a.cg a.cn) c.loop-i.i _ _ i.2 (omega arith) i.0;
      after = i.0.after;
      indexed = i.3;
    }
