-- Types, then the rest.
use Rattle.std.proofs.Common.{arith}
use Rattle.filling.specs.Blocks.{cn_data_from}
use Rattle.filling.specs.BlocksLaws.{blit-next}
use Rattle.filling.proofs.put_cn_data.Goals as goal

pub returns : goal.returns
unfolding cn_data_from
returns c =
    let l = c.put_cn_types-p.ensures in
    blit-next _ _ _ _ _ _ _ l.is c.put_cn_rest.ensures (omega (arith, l.past))
