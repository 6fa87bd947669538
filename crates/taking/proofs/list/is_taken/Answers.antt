-- By the mark of the master.
use Rattle.taking.specs.MarksLaws.{taken_none, taken-some}
use Rattle.taking.specs.WordsLaws.{master_below}
use native.Mathlib.Omega.{arith}
use Rattle.taking.proofs.list.is_taken.Goals as goal

pub bounds-marks-number : goal.bounds-marks-number
bounds-marks-number c = omega (arith, master_below _ _ _ _ (c.master_of.ensures (omega arith)) c.in-Some.is)

pub returns-in-None : goal.returns-in-None
returns-in-None c = λ ns r. taken_none _ _ _ c.group.ensures (c.master_of.ensures (omega arith)) c.in-None.is

pub returns-in-Some : goal.returns-in-Some
returns-in-Some c = λ ns r. taken-some _ _ _ c.group.ensures (c.master_of.ensures (omega arith)) c.in-Some.is (r.is _)
