-- Past the end a store changes nothing.
use mathlib.Core.Path.{sym}
use lib.Seq.{set_out}
use native.Mathlib.Omega.{arith}
use Rattle.chains.proofs.chain.put.Goals as goal

pub returns-else-at-w : goal.returns-else-at-w
returns-else-at-w c = sym (set_out _ _ _ (omega arith))
