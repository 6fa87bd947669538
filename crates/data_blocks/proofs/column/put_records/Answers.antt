-- By the number of the groups.
use Rattle.data_blocks.specs.WrittenLaws.{alone-all}
use Rattle.data_blocks.proofs.column.put_records.Goals as goal

pub by_sorted-requires : goal.by_sorted-requires
by_sorted-requires c = c.requires

pub returns-then-groups-eq1 : goal.returns-then-groups-eq1
returns-then-groups-eq1 c =
    let a = c.args in
    alone-all a.image.now a.groups.now a.fragments.now a.c a.f a.pool.now a.words.now a.out.now c.if-groups-eq1.true c.by_sorted.ensures

pub among-requires : goal.among-requires
among-requires c = let p = c.requires in (p.0, p.1, p.2, c.if-groups-eq1.false)

pub returns : goal.returns
returns c = c.among.ensures
