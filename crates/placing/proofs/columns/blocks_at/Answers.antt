-- The number of blocks, by the words.
use Rattle.placing.specs.InWordsLaws.{blocks-by}
use Rattle.placing.proofs.columns.blocks_at.Goals as goal

pub returns : goal.returns
returns c = blocks-by _ _ _ _ c.width_at.ensures c.word.ensures c.block_count.ensures
