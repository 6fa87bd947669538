-- The end by the numbers of blocks and bytes.
use Rattle.arranging.specs.SizedLaws.{blocks_end_by}
use native.Mathlib.Omega.{arith}
use borrow.Author.Rules.{rules}
use Rattle.arranging.proofs.sizes.blocks_end.Goals as goal

pub returns : goal.returns
returns c = blocks_end_by _ _ _ _ c.requires.1 c.word.ensures c.blocks_of.ensures c.times-heads.ensures c.word-3.ensures c.record_bytes.ensures.is c.word-2.ensures c.times-payload.ensures (c.aligned.ensures (omega arith))
