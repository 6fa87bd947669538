-- Zeros, then the DL.
use Rattle.std.proofs.Common.{arith, rules}
use Rattle.writing.specs.BlockLaws.{wrote_dl, wrote_no_dl}
use Rattle.writing.specs.StructureLaws.{dl-some}
use Rattle.writing.proofs.structure.write_dl.Goals as goal

pub returns-then-n-eq0 : goal.returns-then-n-eq0
returns-then-n-eq0 c = wrote_no_dl _ _ _ (omega arith)

pub overflow_mul-to : goal.overflow_mul-to
overflow_mul-to c = omega (arith, c.requires.1)

pub overflow_add-to : goal.overflow_add-to
overflow_add-to c = omega (arith, c.requires.1)

pub overflow_add-to-2 : goal.overflow_add-to-2
overflow_add-to-2 c = omega (arith, c.requires.1)

pub overflow_mul-result : goal.overflow_mul-result
overflow_mul-result c = omega (arith, c.requires.1, dl-some c.args.h.blocks (omega arith))

pub overflow_add-result : goal.overflow_add-result
overflow_add-result c = omega (arith, c.requires.1, dl-some c.args.h.blocks (omega arith))

pub overflow_add-result-2 : goal.overflow_add-result-2
overflow_add-result-2 c = omega (arith, c.requires.1, dl-some c.args.h.blocks (omega arith))

pub returns : goal.returns
returns c = wrote_dl _ _ _ _ _ c.gap.ensures c.put_dl.ensures (omega arith) (omega arith)
