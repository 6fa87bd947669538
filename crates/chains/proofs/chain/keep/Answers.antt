-- Three stores in a row are the three words.
use Rattle.chains.specs.TurnLaws.{keep_three, keep_past}
use native.Mathlib.Omega.{arith}
use Rattle.chains.proofs.chain.keep.Goals as goal

pub returns-then-n-most : goal.returns-then-n-most
returns-then-n-most c =
    keep_three _ _ _ _ _ c.put.ensures c.put-then-n-most.ensures c.from.ensures c.put-then-n-most-2.ensures

pub returns-else-n-most : goal.returns-else-n-most
returns-else-n-most c = keep_past _ _ _ (omega arith)
