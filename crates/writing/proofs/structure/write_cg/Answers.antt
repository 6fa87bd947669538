-- Zeros, then the CG.
use Rattle.writing.specs.BlockLaws.{wrote_cg}
use Rattle.std.proofs.Common.{arith, rules}
use Rattle.writing.proofs.structure.write_cg.Goals as goal

pub fill_cg-requires : goal.fill_cg-requires
fill_cg-requires c = c.requires.4

pub returns : goal.returns
returns c =
    wrote_cg _ _ _ _ _ _ _ c.gap.ensures c.fill_cg.ensures
    (omega arith) c.requires.1
    c.requires.3
