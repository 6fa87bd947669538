-- The sum, by the answers of the functions called.
use Rattle.arranging.specs.SizedLaws.{cg_least, structure-by}
use native.Mathlib.Omega.{arith}
use borrow.Author.Rules.{rules}
use Rattle.arranging.proofs.sizes.structure_at.Goals as goal

pub overflow_add-result : goal.overflow_add-result
overflow_add-result c = omega (arith, cg_least _ c.cg_bytes-cg.ensures)

pub overflow_add-result-3 : goal.overflow_add-result-3
overflow_add-result-3 c = omega (arith, cg_least _ c.cg_bytes-cg.ensures)

pub overflow_add-result-4 : goal.overflow_add-result-4
overflow_add-result-4 c = omega (arith, cg_least _ c.cg_bytes-cg.ensures)

pub returns : goal.returns
returns c = structure-by _ _ _ c.word.ensures c.cg_bytes-cg.ensures c.word-2.ensures c.photos_of-references.ensures.0 c.photos_of-references.ensures.1 c.word-3.ensures c.blocks_of.ensures c.dl_bytes-dl.ensures
