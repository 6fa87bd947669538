-- Its groups, and its fragments up to the next DG's own.
use Rattle.planning.specs.TableLaws.{owner_some, owner_none}
use native.Mathlib.Omega.{arith}
use Rattle.planning.proofs.table.owner_of.Goals as goal

pub returns-then-m-end : goal.returns-then-m-end
returns-then-m-end c = owner_some _ _ _ _ _ _ _ (omega arith) c.own_groups-count.ensures
    c.end_of.ensures c.min-end.ensures c.if-m-end.true

pub returns : goal.returns
returns c = owner_none _ _ _ _ _ _ _ (omega arith) c.own_groups-count.ensures
    c.end_of.ensures c.min-end.ensures c.if-m-end.false
