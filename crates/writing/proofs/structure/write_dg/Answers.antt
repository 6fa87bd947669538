-- Zeros, then the DG.
use Rattle.std.proofs.Common.{arith, rules}
use Rattle.writing.specs.BlockLaws.{wrote_dg}
use Rattle.writing.proofs.structure.write_dg.Goals as goal

pub fill_dg-requires : goal.fill_dg-requires
fill_dg-requires c = (omega arith, omega arith, c.requires.3)

pub returns : goal.returns
returns c = wrote_dg _ _ _ _ _ _ _ _ c.gap.ensures c.fill_dg.ensures (omega arith)
