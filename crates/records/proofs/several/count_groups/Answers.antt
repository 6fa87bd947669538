-- By the number of groups.
use Rattle.records.specs.SeveralLaws.{groups_none, groups_many}
use Rattle.records.proofs.several.count_groups.Goals as goal

pub returns-then-groups-eq0 : goal.returns-then-groups-eq0
returns-then-groups-eq0 c = groups_none _ _ _ _ _ c.if-groups-eq0.true

pub returns-then-groups-eq1 : goal.returns-then-groups-eq1
returns-then-groups-eq1 c = c.count_alone.ensures

pub returns : goal.returns
returns c =
    groups_many _ _ _ _ _ c.if-groups-eq0.false c.if-groups-eq1.false
    c.count_several.ensures
