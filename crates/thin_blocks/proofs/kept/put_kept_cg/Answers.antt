-- Header and links, the master where it is remote, the data.
use Rattle.thin.specs.Fill.{kept_data}
use Rattle.thin_blocks.specs.BlocksLaws.{cg-remote, cg-own}
use Rattle.thin_blocks.proofs.kept.put_kept_cg.Goals as goal

pub returns-then-remote : goal.returns-then-remote
unfolding kept_data
returns-then-remote c = cg-remote _ _ _ _ _ _ _ _ _ _ _ _ c.if-remote.true
    c.put_cg_front.ensures
    c.put_u64.ensures c.put_cut_data.ensures

pub returns : goal.returns
unfolding kept_data
returns c = cg-own _ _ _ _ _ _ _ _ _ _ _ c.if-remote.false
    c.put_cg_front.ensures c.put_cut_data-2.ensures
