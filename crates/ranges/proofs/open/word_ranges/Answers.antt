-- What is left of the pass gives what the whole pass gives.
use native.Mathlib.Nat.{sub-zero}
use Rattle.fields.specs.AnswerLaws.{passed_on}
use Rattle.ranges.specs.OpenLaws.{word_stop, word_on, word_end}
use Rattle.ranges.proofs.open.word_ranges.Goals as goal

pub loop-k-init : goal.loop-k-init
loop-k-init c = rw sub-zero

pub returns-in_err-item_range : goal.returns-in_err-item_range
returns-in_err-item_range c =
    rw (passed_on _ _ c.from_residual.ensures) (word_stop _ _ _ _ c.loop-k.invariant c.loop-k-test.true c.item_range.ensures c.in_err-item_range.was)

pub loop-k-preserved : goal.loop-k-preserved
loop-k-preserved c = word_on _ _ _ _ c.loop-k.invariant c.loop-k-test.true c.item_range.ensures c.in_ok-item_range.was

pub returns : goal.returns
returns c = word_end _ _ _ _ c.loop-k.invariant c.loop-k-test.false
