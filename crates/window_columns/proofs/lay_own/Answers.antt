use Rattle.base.specs.Blit.{part}
use Rattle.writing.specs.Own.{own_words, own_groups}
use Rattle.window_columns.specs.ColumnsLaws.{blocks-laid}
use Rattle.window_columns.proofs.lay_own.Goals as goal

pub returns : goal.returns
unfolding own_groups own_words part
returns c = blocks-laid _ c.requires _ _ _ _ _ _ _ c.lay_blocks.ensures
