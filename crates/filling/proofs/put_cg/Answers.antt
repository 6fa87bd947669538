-- Header and links, the master where it is remote, the data.
use Rattle.filling.specs.BlocksLaws.{cg-remote, cg-own}
use Rattle.filling.proofs.put_cg.Goals as goal

pub returns-then-remote : goal.returns-then-remote
returns-then-remote c = cg-remote _ _ _ _ _ _ _ _ _ _ _ _ _ _ _
    c.if-remote.true
    c.put_cg_front.ensures
    c.put_u64.ensures c.put_cg_data.ensures

pub returns : goal.returns
returns c = cg-own _ _ _ _ _ _ _ _ _ _ _ _ _ _ c.if-remote.false
    c.put_cg_front.ensures c.put_cg_data-2.ensures
