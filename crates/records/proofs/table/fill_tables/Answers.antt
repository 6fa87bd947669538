-- What is left of the groups, laid over the tables from there on, gives what the whole gives.
use Rattle.records.specs.TableLaws.{each_turn, each_end}
use mathlib.Core.Path.{refl}
use native.Mathlib.Omega.{arith}
use Rattle.records.proofs.table.fill_tables.Goals as goal

pub loop-i-init : goal.loop-i-init
loop-i-init c = (refl, refl)

pub loop-i-preserved : goal.loop-i-preserved
loop-i-preserved c = (
  each_turn _ _ _ _ c.loop-i.invariant.0 (omega arith) c.record_id.ensures c.put.ensures,
  each_turn _ _ _ _ c.loop-i.invariant.1 (omega arith) c.size_word.ensures c.put-in-loop-i.ensures,
)

pub returns : goal.returns
returns c = (each_end _ _ _ _ c.loop-i.invariant.0 (omega arith), each_end _ _ _ _ c.loop-i.invariant.1 (omega arith))
