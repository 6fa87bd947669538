-- The two ways of the definition.
use Rattle.records.specs.RunLaws.{start_in, start_before}
use native.Mathlib.Omega.{arith}
use Rattle.records.proofs.sorted.start_of.Goals as goal

pub returns-then-bytes-size : goal.returns-then-bytes-size
returns-then-bytes-size c = start_in _ _ _ _ (omega arith)

pub returns : goal.returns
returns c = start_before _ _ _ _ (omega arith)
