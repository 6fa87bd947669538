-- The words of its DG are parts of lent words, and the blocks are asked for by them.
use Rattle.base.specs.Blit.{part}
use Rattle.writing.specs.Own.{own_words, own_groups}
use Rattle.writing.specs.DataLaws.{blocks_put}
use Rattle.std.proofs.Common.{arith, rules}
use Rattle.writing.proofs.data.put_blocks.Goals as goal

pub offset_bounds-r-p : goal.offset_bounds-r-p
offset_bounds-r-p c = record { fits = let o = c.requires.4 in let t = c.requires.0 in omega arith }

pub returns : goal.returns
unfolding own_groups own_words part
returns c = blocks_put _ c.requires.4 _ _ _ _ _ _ c.requires.1 c.requires.2 c.requires.3 c.write_blocks.ensures
