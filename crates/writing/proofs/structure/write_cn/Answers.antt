-- Zeros, then the CN.
use Rattle.std.proofs.Common.{arith, rules}
use Rattle.writing.specs.BlockLaws.{wrote_cn}
use Rattle.writing.proofs.structure.write_cn.Goals as goal

pub fill_cn-requires : goal.fill_cn-requires
fill_cn-requires c = (c.requires.3, c.requires.4, search rules, c.requires.5, c.requires.6)

pub overflow_mul-result : goal.overflow_mul-result
overflow_mul-result c = omega (arith, c.requires.1)

pub overflow_add-result : goal.overflow_add-result
overflow_add-result c = omega (arith, c.requires.1)

pub overflow_add-result-2 : goal.overflow_add-result-2
overflow_add-result-2 c = omega (arith, c.requires.1)

pub returns : goal.returns
returns c = wrote_cn _ _ _ _ _ _ _ _ c.gap.ensures c.fill_cn.ensures (omega arith) c.requires.2
