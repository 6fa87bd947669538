-- The number among those kept, and 1.
use native.Mathlib.Omega.{arith}
use Rattle.taking.specs.WordsLaws.{master_zero, master_below, master_new}
use Rattle.taking.proofs.kept.master_word.Goals as goal

pub new_number-requires : goal.new_number-requires
new_number-requires c = omega (arith, master_below _ _ _ _ (c.master_of.ensures (omega arith)) c.in-Some.is)

pub overflow_add-result : goal.overflow_add-result
overflow_add-result c = omega (arith, master_below _ _ _ _ (c.master_of.ensures (omega arith)) c.in-Some.is)

pub returns-in-None : goal.returns-in-None
returns-in-None c = λ ns r. master_zero _ _ _ _ (c.master_of.ensures (omega arith)) ns c.in-None.is

pub returns-in-Some : goal.returns-in-Some
returns-in-Some c = λ ns r. master_new _ _ _ _ (c.master_of.ensures (omega arith)) c.in-Some.is ns (c.new_number.ensures.1 ns r)
