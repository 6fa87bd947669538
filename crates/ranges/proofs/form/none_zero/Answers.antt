-- What is left of the search gives what the whole search gives.
use Rattle.ranges.specs.BlocksLaws.{none_hit, none_pass, none_end}
use mathlib.Core.Path.{refl}
use Rattle.ranges.proofs.form.none_zero.Goals as goal

pub loop-i-init : goal.loop-i-init
loop-i-init c = refl

pub returns-then-link_at-eq0 : goal.returns-then-link_at-eq0
returns-then-link_at-eq0 c = none_hit _ _ _ _ c.loop-i.invariant c.loop-i-test.true c.link_at.ensures c.if-link_at-eq0.true

pub loop-i-preserved : goal.loop-i-preserved
loop-i-preserved c = none_pass _ _ _ _ c.loop-i.invariant c.loop-i-test.true c.link_at.ensures c.if-link_at-eq0.false

pub returns : goal.returns
returns c = none_end _ _ _ _ c.loop-i.invariant c.loop-i-test.false
