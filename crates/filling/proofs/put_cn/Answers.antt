-- Seven links, then the eighth.
use Rattle.filling.specs.Blocks.{cn_front}
use Rattle.filling.specs.BlocksLaws.{blit-next, length-cn_links}
use Rattle.filling.proofs.put_cn.Goals as goal

pub returns : goal.returns
unfolding cn_front
returns c = blit-next _ _ _ _ _ _ _ c.put_cn_links.ensures c.put_u64.ensures (simp length-cn_links)
