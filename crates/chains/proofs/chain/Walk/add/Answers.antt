-- The limit decides.
use Rattle.chains.specs.TurnLaws.{add_kept, add_full}
use native.Mathlib.Omega.{arith}
use Rattle.chains.proofs.chain.Walk.add.Goals as goal

pub returns-then-n-most_fragments : goal.returns-then-n-most_fragments
returns-then-n-most_fragments c = add_kept _ _ _ _ _ (let e = c.most_fragments.ensures in omega arith) c.keep.ensures

pub returns : goal.returns
returns c = add_full _ _ _ _ _ (let e = c.most_fragments.ensures in omega arith)
