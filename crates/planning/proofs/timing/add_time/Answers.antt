-- A time column that stands is kept; else a new one is put.
use Rattle.planning.specs.SettleLaws.{time_stands, time_new}
use native.Mathlib.Omega.{arith}
use Rattle.planning.proofs.timing.add_time.Goals as goal

pub returns-then-k-ne0 : goal.returns-then-k-ne0
returns-then-k-ne0 c = time_stands _ _ _ _ _ _ _ (omega arith) c.time_column-k.ensures c.if-k-ne0.true

pub returns : goal.returns
returns c = time_new _ _ _ _ _ _ _ (omega arith) c.time_column-k.ensures
    c.put_column.ensures c.if-k-ne0.false
