-- What is left of the chain gives what the whole chain gives; the room left among the DL and HL met is the measure.
use Rattle.fields.specs.AnswerLaws.{passed_on}
use Rattle.chains.specs.TurnLaws.{lists_for, walk_begin, walk_end, walk_met, walk-over, walk_stop, walk-next}
use borrow.Author.Rules.{rules}
use native.Mathlib.Omega.{arith}
use Rattle.chains.proofs.chain.chain.Goals as goal

pub loop-at-init : goal.loop-at-init
loop-at-init c = walk_begin (lists_for c.args.file) (search rules)

pub returns-then-contains : goal.returns-then-contains
returns-then-contains c = walk_met c.loop-at.invariant c.loop-at-test.true c.contains.ensures.value c.if-contains.true

pub returns-in_err-kept : goal.returns-in_err-kept
returns-in_err-kept c =
    rw (passed_on _ _ c.from_residual.ensures)
    (walk_stop c.loop-at.invariant c.loop-at-test.true c.contains.ensures.value c.if-contains.false c.node_step.result
    c.node_step.ensures c.in_err-kept.was)

pub returns-in-Over : goal.returns-in-Over
returns-in-Over c =
    walk-over c.loop-at.invariant c.loop-at-test.true c.contains.ensures.value c.if-contains.false c.node_step.result
    c.node_step.ensures c.in_ok-kept.was c.in-Over.is

pub bounds-met-k : goal.bounds-met-k
bounds-met-k c =
    let f = walk-next c.loop-at.invariant c.loop-at-test.true c.contains.ensures.value c.if-contains.false c.node_step.result
    c.node_step.ensures c.in_ok-kept.was c.in-Next.is in
    omega arith

pub loop-at-smaller : goal.loop-at-smaller
loop-at-smaller c =
    let f = walk-next c.loop-at.invariant c.loop-at-test.true c.contains.ensures.value c.if-contains.false c.node_step.result
    c.node_step.ensures c.in_ok-kept.was c.in-Next.is in
    omega arith

pub loop-at-preserved : goal.loop-at-preserved
loop-at-preserved c =
    walk-next c.loop-at.invariant c.loop-at-test.true c.contains.ensures.value c.if-contains.false c.node_step.result
    c.node_step.ensures c.in_ok-kept.was c.in-Next.is

pub returns : goal.returns
returns c = walk_end c.loop-at.invariant c.loop-at-test.false
