-- The four sizes, by the words.
use Rattle.placing.specs.InWordsLaws.{cg_least, dl_least, structure-by}
use native.Mathlib.Omega.{arith}
use Rattle.placing.proofs.columns.structure_at.Goals as goal

pub overflow_add-result : goal.overflow_add-result
overflow_add-result c = omega (arith, cg_least _ c.cg_bytes-cg.ensures, dl_least _ c.dl_bytes-dl.ensures)

pub overflow_mul-result : goal.overflow_mul-result
overflow_mul-result c = omega (arith, cg_least _ c.cg_bytes-cg.ensures, dl_least _ c.dl_bytes-dl.ensures)

pub overflow_add-result-2 : goal.overflow_add-result-2
overflow_add-result-2 c = omega (arith, cg_least _ c.cg_bytes-cg.ensures, dl_least _ c.dl_bytes-dl.ensures)

pub overflow_add-result-3 : goal.overflow_add-result-3
overflow_add-result-3 c = omega (arith, cg_least _ c.cg_bytes-cg.ensures, dl_least _ c.dl_bytes-dl.ensures)

pub overflow_add-result-4 : goal.overflow_add-result-4
overflow_add-result-4 c = omega (arith, cg_least _ c.cg_bytes-cg.ensures, dl_least _ c.dl_bytes-dl.ensures)

pub returns : goal.returns
returns c = structure-by _ _ _ _ _ c.word.ensures c.cg_bytes-cg.ensures c.word-2.ensures c.photos_of-references.ensures.0 c.blocks_at.ensures c.dl_bytes-dl.ensures
