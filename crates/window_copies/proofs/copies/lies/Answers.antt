-- A block is apart from the window where it begins past it or ends before it.
use Rattle.window_copies.specs.LayingLaws.{apart_before, apart_past}
use native.Mathlib.Omega.{arith}
use Rattle.window_copies.proofs.copies.lies.Goals as goal

pub returns-then-a-at : goal.returns-then-a-at
returns-then-a-at c = λ e. apart_past _ _ _ _ _ (omega arith) e

pub returns-else-a-at : goal.returns-else-a-at
returns-else-a-at c = λ e. apart_before _ _ _ _ _ (omega arith) c.size_at.ensures e
