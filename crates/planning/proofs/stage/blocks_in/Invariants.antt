-- What is left of the columns gives what all of them give.
use Rattle.planning.specs.StageLaws.{LeftIn}
use Rattle.plan.specs.Data.{blocks_in}
use Rattle.planning.proofs.stage.blocks_in.Given as goal

abbrev pub invariant-loop-k : goal.invariant-loop-k
invariant-loop-k l = LeftIn (blocks_in l.image l.size) l.columns l.n l.k
