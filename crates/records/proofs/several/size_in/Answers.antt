-- The sum so far and what is left give the whole.
use Rattle.fields.specs.AnswerLaws.{passed_on}
use Rattle.records.specs.SeveralLaws.{size-start, size-next, size_end, size-over, size_fits}
use Rattle.records.specs.CountLaws.{sum_over, sum_is}
use Rattle.std.proofs.Common.{zero-add, ◌∙◌, ◌+◌}
use native.Mathlib.Omega.{arith}
use Rattle.records.proofs.several.size_in.Goals as goal

pub loop-i-init : goal.loop-i-init
loop-i-init c = (omega arith, omega arith, zero-add _ ∙ size-start c.args.fragments.now)

pub returns-in_err-sum : goal.returns-in_err-sum
returns-in_err-sum c =
    let o = sum_over c.args.d (c.loop-i.sum + c.word_at.result) c.sum_within.ensures c.in_err-sum.was in
    let m = size-next c.args.fragments.now c.loop-i.i c.loop-i.sum c.loop-i.invariant.2 (omega arith) in
    let e = c.word_at.ensures in
    let f = o.over in
    rw (passed_on _ _ c.from_residual.ensures) (rw (o.number, o.place) (size-over _ _ (omega arith)))

pub loop-i-preserved : goal.loop-i-preserved
loop-i-preserved c =
    let s = sum_is c.args.d (c.loop-i.sum + c.word_at.result) c.sum_within.ensures c.in_ok-sum.was in (
      omega arith,
      omega arith,
      rw (← s.1, c.word_at.ensures)
          (size-next c.args.fragments.now c.loop-i.i c.loop-i.sum c.loop-i.invariant.2 (omega arith)),
    )

pub returns : goal.returns
returns c =
    let e = size_end c.args.fragments.now c.loop-i.i c.loop-i.sum c.loop-i.invariant.2 (omega arith) in
    size_fits _ _ (omega arith)
