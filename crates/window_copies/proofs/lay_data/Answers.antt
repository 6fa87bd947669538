-- By where the window begins: before the links, inside them or past them.
use Rattle.window_copies.specs.LaidLaws.{data_after, data_cut, data_over_lem}
use native.Mathlib.Omega.{arith}
use Rattle.window_copies.proofs.lay_data.Goals as goal

pub returns-then-a-at : goal.returns-then-a-at
returns-then-a-at c = data_after _ _ _ _ _ (omega arith) c.put_data.ensures

pub returns-then-k-before : goal.returns-then-k-before
returns-then-k-before c = data_over_lem _ _ _ _ _ c.data_at-begin.ensures c.data_size-size.ensures c.lay.ensures

pub returns : goal.returns
returns c = data_cut _ _ _ _ _ (omega arith) (omega arith) c.put_data-2.ensures
