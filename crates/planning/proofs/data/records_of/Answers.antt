-- Only a group that is alone in its DG is read.
use native.Mathlib.Omega.{arith}
use Rattle.planning.specs.DataWordsLaws.{records_none, records_one}
use Rattle.planning.proofs.data.records_of.Goals as goal

pub returns-then-own_groups-ne1 : goal.returns-then-own_groups-ne1
returns-then-own_groups-ne1 c = records_none _ _ _ _ _ _ _ _ (omega arith) c.own_groups.ensures c.if-own_groups-ne1.true

pub returns : goal.returns
returns c = records_one _ _ _ _ _ _ _ _ (omega arith) c.own_groups.ensures
    c.if-own_groups-ne1.false c.first_group-g.ensures
    c.end_of.ensures c.min-end.ensures c.sorted_of.ensures
