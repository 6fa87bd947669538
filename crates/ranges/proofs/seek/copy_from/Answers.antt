-- What is left of the bytes gives the whole buffer.
use Rattle.ranges.specs.CopyLaws.{copy_begin, copy_full, copy_end, copy_place, copy_inside, copy-on}
use borrow.Author.Rules.{rules}
use native.Mathlib.Omega.{arith}
use Rattle.ranges.proofs.seek.copy_from.Goals as goal

pub loop-i-init : goal.loop-i-init
loop-i-init c = copy_begin _ _ _ _ _ _ _ c.requires.0 c.requires.1 (search rules)

pub returns-then-done-all : goal.returns-then-done-all
returns-then-done-all c = copy_full c.loop-i.invariant c.if-done-all.true

pub overflow_sub-bytes_at : goal.overflow_sub-bytes_at
overflow_sub-bytes_at c = copy_place c.loop-i.invariant c.loop-i-test.true c.link_at-x.ensures c.bytes_at.ensures

pub overflow_add-x : goal.overflow_add-x
overflow_add-x c = let b = copy_inside c.loop-i.invariant c.loop-i-test.true c.link_at-x.ensures c.bytes_at.ensures in omega arith

pub overflow_add-x-in-loop-i : goal.overflow_add-x-in-loop-i
overflow_add-x-in-loop-i c = let a = copy_place c.loop-i.invariant c.loop-i-test.true c.link_at-x.ensures c.bytes_at.ensures in let b = copy_inside c.loop-i.invariant c.loop-i-test.true c.link_at-x.ensures c.bytes_at.ensures in omega arith

pub loop-i-preserved : goal.loop-i-preserved
loop-i-preserved c = copy-on c.loop-i.invariant c.loop-i-test.true c.link_at-x.ensures c.bytes_at.ensures c.min-n.ensures c.copy.ensures

pub returns : goal.returns
returns c = copy_end c.loop-i.invariant c.loop-i-test.false
