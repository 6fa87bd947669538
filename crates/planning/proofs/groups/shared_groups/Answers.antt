-- What is left to count gives the whole.
use mathlib.Core.Path.{refl}
use Rattle.planning.specs.StandsLaws.{count_begin, count_end, count_none, count_one_lem}
use native.Mathlib.Omega.{arith}
use Rattle.planning.proofs.groups.shared_groups.Goals.{then-by-ne0, else-by-ne0}
use Rattle.planning.proofs.groups.shared_groups.Goals as goal

pub loop-by-init : goal.loop-by-init
loop-by-init c = count_begin

pub loop-by-preserved : goal.loop-by-preserved
loop-by-preserved c =
    elim c.if-by-ne0.branch [
      | then-by-ne0 w ↦ rw w.shared-is (count_one_lem c.loop-by.invariant (omega arith) refl w.if-by-ne0.true)
      | else-by-ne0 w ↦ rw w.shared-is (count_none c.loop-by.invariant (omega arith) refl w.if-by-ne0.false)
    ]

pub returns : goal.returns
returns c = count_end c.loop-by.invariant (omega arith)
