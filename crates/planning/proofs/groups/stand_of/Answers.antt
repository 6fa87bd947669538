-- The word at the group's number.
use Rattle.planning.specs.StandsLaws.{stand-nothing}
use Rattle.planning.specs.TimeLaws.{stand_unfound, stand-found}
use native.Mathlib.Omega.{arith}
use Rattle.std.proofs.Common.{sym, ◌∙◌, eqb-true}
use Rattle.planning.proofs.groups.stand_of.Goals as goal

pub returns-then-is_empty : goal.returns-then-is_empty
returns-then-is_empty c = stand-nothing _ _ _ (omega (arith, eqb-true _ _ (sym c.is_empty.ensures ∙ c.if-is_empty.true)))

pub returns-in-None : goal.returns-in-None
returns-in-None c = stand_unfound _ _ _ _ c.find_group.ensures c.in-None.is

pub returns-in-Some : goal.returns-in-Some
returns-in-Some c = stand-found _ _ _ _ c.find_group.ensures c.in-Some.is c.word.ensures
