-- What is left of the links gives what all give.
use Rattle.fields.specs.AnswerLaws.{passed_on}
use Rattle.ranges.specs.RangedLaws.{ranges_begin, ranges_stop, ranges_on, ranges_end}
use Rattle.ranges.proofs.range.list_ranges.Goals as goal

pub loop-i-init : goal.loop-i-init
loop-i-init c = ranges_begin _ _ c.links_at-links.ensures

pub returns-in_err-entry_range : goal.returns-in_err-entry_range
returns-in_err-entry_range c =
    rw (passed_on _ _ c.from_residual.ensures)
    (ranges_stop _ _ _ _ c.loop-i.invariant c.loop-i-test.true c.link_at.ensures c.entry_range.ensures c.in_err-entry_range.was)

pub loop-i-preserved : goal.loop-i-preserved
loop-i-preserved c = ranges_on _ _ _ _ c.loop-i.invariant c.loop-i-test.true c.link_at.ensures c.entry_range.ensures c.in_ok-entry_range.was

pub returns : goal.returns
returns c = ranges_end _ _ _ _ c.loop-i.invariant c.loop-i-test.false
