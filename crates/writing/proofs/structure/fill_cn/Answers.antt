-- Its three parts, one after the other.
use Rattle.std.proofs.Common.{arith, rules}
use Rattle.writing.specs.StructureLaws.{filled-cn}
use Rattle.writing.proofs.structure.fill_cn.Goals as goal

pub fill_front-requires : goal.fill_front-requires
fill_front-requires c = (c.requires.0, c.requires.1)

pub fill_data-requires : goal.fill_data-requires
fill_data-requires c = (c.requires.1, omega (arith, c.fill_front.auto.d, c.put_photos.auto.d, c.requires.2))

pub returns : goal.returns
returns c = filled-cn _ _ _ _ _ _ _ _ c.fill_front.ensures (c.put_photos.ensures c.requires.1 c.requires.3 c.requires.4) c.fill_data.ensures
