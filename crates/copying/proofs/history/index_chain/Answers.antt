-- The words enter one after the other.
use mathlib.Core.Path.{◌≡◌}
use Rattle.index.specs.IndexLaws.{index_begin}
use Rattle.copying.specs.ChainIndexLaws.{chain_more}
use native.Mathlib.Omega.{arith}
use Rattle.copying.proofs.history.index_chain.Goals as goal

pub returns-then-n-gt2048 : goal.returns-then-n-gt2048
returns-then-n-gt2048 c = λ h k. absurd (omega arith)

pub loop-i-init : goal.loop-i-init
loop-i-init c = index_begin 1 _

pub loop-i-preserved : goal.loop-i-preserved
loop-i-preserved c = chain_more c.args.memo.now _ _ (omega arith) c.loop-i.invariant (c.enter.ensures (omega arith))

pub returns : goal.returns
returns c = λ h k. let e : c.args.n ≡ c.loop-i.i = omega arith in rw e c.loop-i.invariant
