-- Past the fragments kept nothing is looked at; else the lent part holds them.
use Rattle.planning.specs.DataWordsLaws.{ranges_past, ranges_lent}
use native.Mathlib.Omega.{arith}
use Rattle.planning.proofs.data.ranges_of.Goals as goal

pub returns-then-i-gt1024 : goal.returns-then-i-gt1024
returns-then-i-gt1024 c = ranges_past _ _ _ _ (omega arith)

pub returns : goal.returns
returns c = ranges_lent _ _ _ _ (omega arith) c.ranges_in.ensures
