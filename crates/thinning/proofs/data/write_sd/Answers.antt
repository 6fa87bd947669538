-- The zeros before it, then the block; its length is that of its header and data.
use native.Mathlib.Omega.{arith}
use Rattle.thinning.specs.DataLaws.{sd_long, wrote_sd}
use borrow.Author.Rules.{rules}
use Rattle.thinning.proofs.data.write_sd.Goals as goal

pub overflow_add-result-2 : goal.overflow_add-result-2
overflow_add-result-2 c = let e = sd_long _ _ _ c.put_anew-n.ensures.here in omega arith

pub returns : goal.returns
returns c = wrote_sd _ _ _ _ (omega arith) c.gap.ensures c.put_anew-n.ensures
