-- A copy that has no byte in the window leaves it as it is.
use Rattle.window_copies.specs.LayingLaws.{apart_copy}
use mathlib.Core.Path.{refl}
use Rattle.window_copies.proofs.copies.lay_copy.Goals as goal

pub returns-then-lies : goal.returns-then-lies
returns-then-lies c = λ t x h. c.lay_copied.ensures t x

pub returns-else-lies : goal.returns-else-lies
returns-else-lies c = λ t x h. apart_copy _ _ _ _ _ _ _ _ _ (c.lies.ensures c.if-lies.false) refl h
