-- What a call chooses, of the code's choices and the table lent beside them.
use Rattle.std.specs.Prelude.{ℕ, List}
use Rattle.plan.specs.Rules.{Rules}
use Rattle.choices.specs.declared.Choices.{Choices}

abbrev pub rules : Choices → List ℕ → Rules
rules c table = record { unit = c.unit; table = table; share = c.share; photos = c.photos }
