-- The checks at the link answer at once, or the links are walked: what is left of them gives what all give.
use Prim.Native.Nat.{◌+◌, ◌*◌, ◌-◌}
use mathlib.Core.Path.{◌≡◌, ap, ◌∙◌}
use Rattle.std.specs.Prelude.{Ok}
use Rattle.std.proofs.Common.{arith}
use Rattle.fields.specs.AnswerLaws.{passed_on}
use Rattle.copier.specs.TurnLaws.{indexed_at, turn_begin, turn_next, so_begun, copy-nothing, copy_refused, copy_stopped, copy_done, started}
use Rattle.copier.proofs.copies.+copy.Goals as goal

pub returns-in_err-follows-clause-copied : goal.returns-in_err-follows-clause-copied
returns-in_err-follows-clause-copied t c =
    rw (passed_on _ _ c.from_residual.ensures) (copy_refused _ _ _ _ _ _ _ (so_begun c.begin.ensures c.in_err-follows.was))

pub returns-then-not-follows-clause-copied : goal.returns-then-not-follows-clause-copied
returns-then-not-follows-clause-copied t c =
    copy-nothing _ _ _ _ _ _ _ (so_begun c.begin.ensures (c.in_ok-follows.was ∙ ap Ok c.if-not-follows.true))

pub overflow_sub-down : goal.overflow_sub-down
overflow_sub-down t c =
    let a = c.args in
    let h = c.requires in
    let u = started a.most a.left a.image.now a.way a.a a.memo.now a.state c.begin.ensures (c.in_ok-follows.was ∙ ap Ok c.if-not-follows.false) (omega arith) h.0 h.2.limit h.2.words h.2.room in
    omega arith

pub overflow_add-p : goal.overflow_add-p
overflow_add-p t c =
    let a = c.args in
    let h = c.requires in
    let u = started a.most a.left a.image.now a.way a.a a.memo.now a.state c.begin.ensures (c.in_ok-follows.was ∙ ap Ok c.if-not-follows.false) (omega arith) h.0 h.2.limit h.2.words h.2.room in
    omega arith

pub overflow_mul-p : goal.overflow_mul-p
overflow_mul-p t c =
    let a = c.args in
    let h = c.requires in
    let u = started a.most a.left a.image.now a.way a.a a.memo.now a.state c.begin.ensures (c.in_ok-follows.was ∙ ap Ok c.if-not-follows.false) (omega arith) h.0 h.2.limit h.2.words h.2.room in
    omega arith

pub overflow_add-p-2 : goal.overflow_add-p-2
overflow_add-p-2 t c =
    let a = c.args in
    let h = c.requires in
    let u = started a.most a.left a.image.now a.way a.a a.memo.now a.state c.begin.ensures (c.in_ok-follows.was ∙ ap Ok c.if-not-follows.false) (omega arith) h.0 h.2.limit h.2.words h.2.room in
    omega arith

pub loop-i-init : goal.loop-i-init
loop-i-init t c =
    let a = c.args in
    let h = c.requires in
    let u = started a.most a.left a.image.now a.way a.a a.memo.now a.state c.begin.ensures (c.in_ok-follows.was ∙ ap Ok c.if-not-follows.false) (omega arith) h.0 h.2.limit h.2.words h.2.room in
    let n = c.links_left-links.result in
    let q = a.a + 24 + 8 * c.lost_links.result in
    let k : n - 0 ≡ n = omega arith in
    let p : q + 0 ≡ q = omega arith in
    (rw (k, p) (turn_begin _ _ _ _ _ _ _ _ u.limit (omega arith) u.deep u.few u.room), h.2.indexed)

pub returns-in_err-st-clause-copied : goal.returns-in_err-st-clause-copied
returns-in_err-st-clause-copied t c =
    let a = c.args in
    let h = c.requires in
    let u = started a.most a.left a.image.now a.way a.a a.memo.now a.state c.begin.ensures (c.in_ok-follows.was ∙ ap Ok c.if-not-follows.false) (omega arith) h.0 h.2.limit h.2.words h.2.room in
    rw (passed_on _ _ c.from_residual-in_err-st.ensures)
    (copy_stopped _ _ c.loop-i.invariant.0 u.begins u.down c.links_left-links.ensures (omega (arith, c.lost_links.ensures))
    (omega arith) c.copy.ensures.copied c.in_err-st.was c.field_at-link.ensures.is)

pub loop-i-preserved : goal.loop-i-preserved
loop-i-preserved t c =
    let i = c.loop-i.i in
    let n = c.links_left-links.result in
    let q = c.args.a + 24 + 8 * c.lost_links.result in
    let k : n - (i + 1) ≡ n - i - 1 = omega arith in
    let p : q + 8 * (i + 1) ≡ q + 8 * i + 8 = omega arith in (
      rw (k, p) (turn_next c.loop-i.invariant.0 (omega arith) c.copy.ensures.copied c.in_ok-st.was c.field_at-link.ensures.is c.copy.auto.memo),
      indexed_at c.copy.ensures.indexed c.in_ok-st.was,
    )

pub place-requires : goal.place-requires
place-requires t c =
    let a = c.args in
    let h = c.requires in
    let u = started a.most a.left a.image.now a.way a.a a.memo.now a.state c.begin.ensures (c.in_ok-follows.was ∙ ap Ok c.if-not-follows.false) (omega arith) h.0 h.2.limit h.2.words h.2.room in
    let v = c.loop-i.invariant.0 in
    (omega arith, omega arith, v.room, omega (arith, c.size_at-size.ensures), c.loop-i.invariant.1)

pub returns-clause-copied : goal.returns-clause-copied
returns-clause-copied t c =
    let a = c.args in
    let h = c.requires in
    let u = started a.most a.left a.image.now a.way a.a a.memo.now a.state c.begin.ensures (c.in_ok-follows.was ∙ ap Ok c.if-not-follows.false) (omega arith) h.0 h.2.limit h.2.words h.2.room in
    copy_done _ _ c.loop-i.invariant.0 u.begins u.down c.links_left-links.ensures (omega (arith, c.lost_links.ensures)) (omega arith)
    c.size_at-size.ensures c.place.ensures.copied c.place.ensures.past

pub copy-requires : goal.copy-requires
copy-requires t c =
    let a = c.args in
    let h = c.requires in
    let u = started a.most a.left a.image.now a.way a.a a.memo.now a.state c.begin.ensures (c.in_ok-follows.was ∙ ap Ok c.if-not-follows.false) (omega arith) h.0 h.2.limit h.2.words h.2.room in
    let v = c.loop-i.invariant.0 in
    (omega arith, (omega arith, omega arith, record { words = omega (arith, v.same, u.words); limit = u.limit; room = v.room; indexed = c.loop-i.invariant.1 }))
