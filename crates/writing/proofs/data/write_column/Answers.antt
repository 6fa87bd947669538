-- Without blocks nothing is written, else the gap before them and they.
use Rattle.puts.specs.PutLaws.{lent_is}
use Rattle.writing.specs.DataLaws.{entry-none, entry-room, bytes-room, entry_wrote}
use Rattle.std.proofs.Common.{arith, length-drop, length-take, rules}
use Rattle.writing.proofs.data.write_column.Goals as goal

pub returns-then-count-eq0 : goal.returns-then-count-eq0
returns-then-count-eq0 c = (c.requires.3, entry-none _ _ _ c.requires.1 c.requires.2 c.width_of-w.ensures.is c.block_count-count.ensures c.if-count-eq0.true _)

pub overflow_mul-past : goal.overflow_mul-past
overflow_mul-past c = let h = entry-room _ _ _ c.requires.1 c.requires.2 c.width_of-w.ensures.is c.block_count-count.ensures c.if-count-eq0.false in omega arith

pub overflow_mul-past-2 : goal.overflow_mul-past-2
overflow_mul-past-2 c = let h = entry-room _ _ _ c.requires.1 c.requires.2 c.width_of-w.ensures.is c.block_count-count.ensures c.if-count-eq0.false in omega arith

pub overflow_add-past : goal.overflow_add-past
overflow_add-past c = let h = entry-room _ _ _ c.requires.1 c.requires.2 c.width_of-w.ensures.is c.block_count-count.ensures c.if-count-eq0.false in omega arith

pub overflow_add-past-2 : goal.overflow_add-past-2
overflow_add-past-2 c = let h = entry-room _ _ _ c.requires.1 c.requires.2 c.width_of-w.ensures.is c.block_count-count.ensures c.if-count-eq0.false in omega arith

pub slice_bounds-put_blocks-count : goal.slice_bounds-put_blocks-count
slice_bounds-put_blocks-count c = let h = entry-room _ _ _ c.requires.1 c.requires.2 c.width_of-w.ensures.is c.block_count-count.ensures c.if-count-eq0.false in omega arith

pub slice_bounds-put_blocks-start : goal.slice_bounds-put_blocks-start
slice_bounds-put_blocks-start c = let h = entry-room _ _ _ c.requires.1 c.requires.2 c.width_of-w.ensures.is c.block_count-count.ensures c.if-count-eq0.false in omega arith

pub put_blocks-requires : goal.put_blocks-requires
put_blocks-requires c = let h = bytes-room _ _ _ c.requires.1 c.requires.2 c.width_of-w.ensures.is c.block_count-count.ensures c.if-count-eq0.false in (c.requires.0, c.requires.1, simp (length-take, length-drop) (omega (arith, h)), c.requires.3, c.requires.4)

pub returns : goal.returns
returns c = (c.put_blocks.ensures.0, entry_wrote _ _ _ c.requires.1 c.requires.2 c.width_of-w.ensures.is c.block_count-count.ensures c.if-count-eq0.false _ c.gap.ensures (lent_is _ _ _ _ c.put_blocks.ensures.1))
