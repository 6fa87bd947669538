-- What is left of the chain gives what all the words give.
use native.Mathlib.Omega.{arith}
use Rattle.index.specs.MetLaws.{chase_begin, chase_none, chase_hit, chase_less, chase_next}
use Rattle.index.proofs.is_met.Goals as goal

pub loop-i-init : goal.loop-i-init
loop-i-init c = λ f l t. chase_begin _ _ _ _ l t c.from-i.ensures

pub returns-then-i-gt2048 : goal.returns-then-i-gt2048
returns-then-i-gt2048 c = λ f l t. let k = (c.loop-i.invariant f l t).within in absurd (omega arith)

pub returns-then-words-i : goal.returns-then-words-i
returns-then-words-i c = λ f l t. let k = (c.loop-i.invariant f l t).within in absurd (omega arith)

pub returns-then-words-i-2 : goal.returns-then-words-i-2
returns-then-words-i-2 c = λ f l t. chase_hit (c.loop-i.invariant f l t) c.loop-i-test.true l c.if-words-i-2.true

pub returns-then-i-older : goal.returns-then-i-older
returns-then-i-older c = λ f l t. let k = chase_less (c.loop-i.invariant f l t) c.loop-i-test.true l _ t c.from-older.ensures in absurd (omega arith)

pub loop-i-preserved : goal.loop-i-preserved
loop-i-preserved c = λ f l t. chase_next (c.loop-i.invariant f l t) c.loop-i-test.true l _ t c.from-older.ensures c.if-words-i-2.false

pub returns : goal.returns
returns c = λ f l t. chase_none (c.loop-i.invariant f l t) (omega arith)
