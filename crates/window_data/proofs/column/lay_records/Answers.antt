-- By the number of the groups.
use Rattle.window_data.specs.BlocksLaws.{alone-laid}
use Rattle.window_data.proofs.column.lay_records.Goals as goal

pub lay_sorted-requires : goal.lay_sorted-requires
lay_sorted-requires c = c.requires

pub returns-then-groups-eq1 : goal.returns-then-groups-eq1
returns-then-groups-eq1 c =
    let b = c.args in
    alone-laid b.a b.image.now b.groups.now b.fragments.now b.c b.f b.pool.now b.words.now b.w.now c.if-groups-eq1.true c.lay_sorted.ensures

pub lay_among-requires : goal.lay_among-requires
lay_among-requires c = let p = c.requires in (p.0, p.1, p.2, c.if-groups-eq1.false)

pub returns : goal.returns
returns c = c.lay_among.ensures
