-- What is left of the links gives what all give; each is copied from outside.
use Prim.{tt}
use Prim.Native.Nat.{◌+◌, ◌*◌, ◌-◌}
use mathlib.Core.Path.{◌≡◌}
use native.Mathlib.Omega.{arith}
use Rattle.fields.specs.AnswerLaws.{passed_on}
use Rattle.copier.specs.TurnLaws.{indexed_at, held_begin, held_next, follow_next, follow_refused, follow_end}
use Rattle.copier.proofs.copies.follow.Goals as goal

pub loop-i-init : goal.loop-i-init
loop-i-init c =
    let k : c.args.count - 0 ≡ c.args.count = omega arith in
    let p : c.args.at + 0 ≡ c.args.at = omega arith in
    (held_begin _ _ c.requires.1.room, c.requires.1.words, rw (k, p), c.requires.1.indexed)

pub returns-in_err-st : goal.returns-in_err-st
returns-in_err-st c =
    rw (passed_on _ _ c.from_residual.ensures)
    (record {
      copied = follow_refused _ _ _ _ _ _ c.loop-i.invariant.2 (omega arith) c.copy_root.ensures.copied c.in_err-st.was c.field_at-link.ensures.is;
      after = tt;
      indexed = tt;
    })

pub loop-i-preserved : goal.loop-i-preserved
loop-i-preserved c =
    let i = c.loop-i.i in
    let k : c.args.count - (i + 1) ≡ c.args.count - i - 1 = omega arith in
    let p : c.args.at + 8 * (i + 1) ≡ c.args.at + 8 * i + 8 = omega arith in (
      held_next c.loop-i.invariant.0 c.copy_root.ensures.copied c.copy_root.ensures.after c.in_ok-st.was c.copy_root.auto.memo,
      omega (arith, c.copy_root.auto.memo, c.loop-i.invariant.1),
      rw (k, p) (follow_next _ _ _ _ _ _ c.loop-i.invariant.2 (omega arith) c.copy_root.ensures.copied c.in_ok-st.was c.field_at-link.ensures.is),
      indexed_at c.copy_root.ensures.indexed c.in_ok-st.was,
    )

pub returns : goal.returns
returns c =
    let i = c.loop-i.invariant in
    record { copied = follow_end _ _ _ _ _ _ i.2 (omega arith) i.0; after = i.0.after; indexed = i.3 }
