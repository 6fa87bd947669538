-- What is left of the chain gives what the whole gives.
use Prim.Native.Nat.{◌+◌}
use mathlib.Core.Path.{◌≡◌, ap, ◌∙◌}
use Rattle.std.specs.Prelude.{Ok}
use native.Mathlib.Omega.{arith}
use Rattle.fields.specs.AnswerLaws.{passed_on}
use Rattle.copier.specs.HistoryLaws.{copied_begin, copied_next, walk_begin, walk-out, walk_ends, walk_refused, walk_stopped, walk-next}
use Rattle.copier.specs.TurnLaws.{indexed_at, so_begun, after-at}
use Rattle.copier.specs.IndexLaws.{indexed_set}
use Rattle.copier.proofs.history.history_chain.Goals as goal

pub loop-count-init : goal.loop-count-init
loop-count-init c = (walk_begin _ _ _ _ _ c.requires.words c.requires.limit c.requires.room, c.requires.indexed, copied_begin _ _)

pub goes_on-requires : goal.goes_on-requires
goes_on-requires c = let u = c.loop-count.invariant.0 in (omega arith, u.words, u.after.room.few, c.loop-count.invariant.1, c.loop-count.invariant.2)

pub returns-in_err-goes : goal.returns-in_err-goes
returns-in_err-goes c =
    rw (passed_on _ _ c.from_residual.ensures) (walk_refused c.loop-count.invariant.0 (omega arith) (so_begun c.goes_on.ensures c.in_err-goes.was))

pub returns-then-not-goes : goal.returns-then-not-goes
returns-then-not-goes c = walk_ends c.loop-count.invariant.0 (omega arith) (so_begun c.goes_on.ensures (c.in_ok-goes.was ∙ ap Ok c.if-not-goes.true))

pub returns-in_err-st : goal.returns-in_err-st
returns-in_err-st c =
    rw (passed_on _ _ c.from_residual-in_err-st.ensures)
    (walk_stopped c.loop-count.invariant.0 (omega arith) (so_begun c.goes_on.ensures (c.in_ok-goes.was ∙ ap Ok c.if-not-goes.false)) c.copy_root.ensures.copied c.in_err-st.was)

pub loop-count-preserved : goal.loop-count-preserved
loop-count-preserved c = (
  walk-next c.loop-count.invariant.0 (omega arith) (so_begun c.goes_on.ensures (c.in_ok-goes.was ∙ ap Ok c.if-not-goes.false)) c.copy_root.ensures.copied c.copy_root.ensures.after c.in_ok-st.was
      c.copy_root.auto.memo c.first_link-at.ensures,
  indexed_set _ _ _ _ _ (let u = c.loop-count.invariant.0 in let k = after-at c.copy_root.ensures.after c.in_ok-st.was in omega arith)
      (indexed_at c.copy_root.ensures.indexed c.in_ok-st.was),
  copied_next c.loop-count.invariant.0 (omega arith) c.loop-count.invariant.2 (so_begun c.goes_on.ensures (c.in_ok-goes.was ∙ ap Ok c.if-not-goes.false))
      c.copy_root.ensures.copied c.copy_root.ensures.after c.in_ok-st.was c.copy_root.auto.memo,
)

pub returns : goal.returns
returns c = let e : c.args.most + 1 ≡ c.loop-count.count = omega arith in rw e (walk-out c.loop-count.invariant.0 (omega arith))
