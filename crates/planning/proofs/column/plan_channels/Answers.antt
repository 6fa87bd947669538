-- What is left of the channels gives what all of them give.
use Rattle.planning.specs.ChannelLaws.{channels_begin, channels_last, channels_stop, channels_pass, channels_refused, channels_on}
use mathlib.Core.Path.{refl}
use native.Mathlib.Omega.{arith}
use Rattle.fields.specs.AnswerLaws.{passed_on}
use borrow.Author.Rules.{rules as needs}
use Rattle.planning.proofs.column.plan_channels.Goals.{then-c-own+in_ok-planned, else-c-own}
use Rattle.planning.proofs.column.plan_channels.Goals as goal

pub loop-k-init : goal.loop-k-init
loop-k-init c = (refl, refl, channels_begin (omega arith) (omega arith))

pub returns-then-word-ne0 : goal.returns-then-word-ne0
returns-then-word-ne0 c = channels_stop c.loop-k.invariant.2 (omega arith)
    c.word.ensures (omega arith) c.if-word-ne0.true

pub returns-in_err-planned : goal.returns-in_err-planned
returns-in_err-planned c = rw (passed_on _ _ c.from_residual.ensures) (channels_refused
    c.loop-k.invariant.2
    (omega arith)
    c.word.ensures
    c.if-word-ne0.false
    c.word-c.ensures
    c.if-c-own.true
    c.plan_channel.ensures c.in_err-planned.was)

pub loop-k-preserved : goal.loop-k-preserved
loop-k-preserved c =
    elim c.if-c-own.branch [
      | then-c-own+in_ok-planned w ↦ rw (w.columns-is, w.fragments-is, w.planned-is) (
        search needs,
        search needs,
        channels_on c.loop-k.invariant.2 (omega arith) c.word.ensures c.if-word-ne0.false c.word-c.ensures w.if-c-own.true w.plan_channel.ensures w.in_ok-planned.was,
      )
      | else-c-own w ↦ rw (w.columns-is, w.fragments-is, w.planned-is) (
        search needs,
        search needs,
        channels_pass c.loop-k.invariant.2 (omega arith) c.word.ensures c.if-word-ne0.false c.word-c.ensures w.if-c-own.false,
      )
    ]

pub returns : goal.returns
returns c = channels_last c.loop-k.invariant.2 (omega arith) (omega arith)
