-- The size is the length less 24, or 0 where the length is under 24.
use Rattle.chains.specs.NodeLaws.{fragment-size}
use native.Mathlib.Omega.{arith}
use Rattle.chains.proofs.node.fragment_of.Goals as goal

pub returns-then-size-lt24 : goal.returns-then-size-lt24
returns-then-size-lt24 c = fragment-size _ _ c.args.kind (omega arith)

pub returns : goal.returns
returns c = fragment-size _ _ c.args.kind (omega arith)
