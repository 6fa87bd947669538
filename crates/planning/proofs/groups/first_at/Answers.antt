-- The chain of an address gives the first of its groups.
use Rattle.planning.specs.NotedLaws.{seek_begin, seek_end, seek_less, seek_hit, seek_unmarked, seek_elsewhere}
use Rattle.planning.proofs.groups.first_at.Goals as goal

pub loop-i-init : goal.loop-i-init
loop-i-init c = seek_begin _ _ _ _ c.requires.1 c.from-i.ensures

pub loop-i-smaller-then-word-a : goal.loop-i-smaller-then-word-a
loop-i-smaller-then-word-a c = seek_less c.loop-i.invariant
    c.loop-i-test.true
    c.requires.1
    c.from-i-in-loop-i.ensures

pub loop-i-preserved-then-word-a : goal.loop-i-preserved-then-word-a
loop-i-preserved-then-word-a c = seek_hit c.loop-i.invariant
    c.loop-i-test.true
    c.requires.1
    c.from-i-in-loop-i.ensures c.word.ensures c.word-then-word-eq1.ensures
    c.if-word-eq1.true c.if-word-a.true

pub loop-i-smaller-else-word-a : goal.loop-i-smaller-else-word-a
loop-i-smaller-else-word-a c = seek_less c.loop-i.invariant
    c.loop-i-test.true
    c.requires.1
    c.from-i-in-loop-i.ensures

pub loop-i-preserved-else-word-a : goal.loop-i-preserved-else-word-a
loop-i-preserved-else-word-a c = seek_elsewhere c.loop-i.invariant
    c.loop-i-test.true
    c.requires.1
    c.from-i-in-loop-i.ensures c.word-then-word-eq1.ensures c.if-word-a.false

pub loop-i-smaller : goal.loop-i-smaller
loop-i-smaller c = seek_less c.loop-i.invariant c.loop-i-test.true
    c.requires.1 c.from-i-in-loop-i.ensures

pub loop-i-preserved : goal.loop-i-preserved
loop-i-preserved c = seek_unmarked c.loop-i.invariant c.loop-i-test.true
    c.requires.1 c.from-i-in-loop-i.ensures c.word.ensures
    c.if-word-eq1.false

pub returns : goal.returns
returns c = seek_end c.loop-i.invariant c.loop-i-test.false
