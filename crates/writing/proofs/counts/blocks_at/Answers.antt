use Rattle.writing.specs.CountedLaws.{data_blocks_lem, blocks-alone, blocks_signal}
use Rattle.std.proofs.Common.{arith, rules}
use Rattle.writing.proofs.counts.blocks_at.Goals as goal

-- src/counts.rt:77:9
pub returns-then-word-eq0 : goal.returns-then-word-eq0
returns-then-word-eq0 c = blocks-alone _ _ _ _ c.word-c.ensures
    c.word-g.ensures c.word-records.ensures
    c.width_of-width.ensures.is c.block_count-blocks.ensures c.word.ensures
    c.requires.1 c.if-word-eq0.true

-- src/counts.rt:79:5
pub overflow_add-result : goal.overflow_add-result
overflow_add-result c = let a = c.args in omega (
  arith,
  data_blocks_lem a.image.now a.size a.columns.now a.k
      c.word-c.ensures
      c.word-g.ensures c.word-records.ensures
      c.width_of-width.ensures.is c.block_count-blocks.ensures c.word.ensures,
  c.requires.1,
)

-- src/counts.rt:66:1
pub returns : goal.returns
returns c = blocks_signal _ _ _ _ c.word-c.ensures
    c.word-g.ensures c.word-records.ensures
    c.width_of-width.ensures.is c.block_count-blocks.ensures c.word.ensures
    c.requires.1 c.if-word-eq0.false
