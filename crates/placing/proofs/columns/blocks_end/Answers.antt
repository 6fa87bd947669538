-- Headers and payload after d, by the words.
use Rattle.placing.specs.InWordsLaws.{payload_by, blocks_end_by}
use native.Mathlib.Omega.{arith}
use Rattle.placing.proofs.columns.blocks_end.Goals as goal

pub overflow_mul-payload : goal.overflow_mul-payload
overflow_mul-payload c = let x = payload_by _ _ _ c.width_at.ensures c.word.ensures in omega arith

pub overflow_add-blocks : goal.overflow_add-blocks
overflow_add-blocks c = let x = payload_by _ _ _ c.width_at.ensures c.word.ensures in omega arith

pub overflow_add-d : goal.overflow_add-d
overflow_add-d c = let x = payload_by _ _ _ c.width_at.ensures c.word.ensures in omega arith

pub returns : goal.returns
returns c =
    let x = payload_by _ _ _ c.width_at.ensures c.word.ensures in
    blocks_end_by _ _ _ _ _ c.blocks_at-blocks.ensures x (c.aligned.ensures (omega arith))
