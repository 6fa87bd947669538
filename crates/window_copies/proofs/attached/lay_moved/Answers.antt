-- An AT that has no byte in the window leaves it as it is.
use Rattle.window_copies.specs.LayingAtLaws.{apart_at}
use mathlib.Core.Path.{refl}
use Rattle.window_copies.proofs.attached.lay_moved.Goals as goal

pub returns-then-lies : goal.returns-then-lies
returns-then-lies c = λ h. c.lay_at.ensures c.index_copies-index.ensures

pub returns-else-lies : goal.returns-else-lies
returns-else-lies c = λ h. apart_at _ _ _ _ _ _ _ _ (c.lies.ensures c.if-lies.false) refl h
