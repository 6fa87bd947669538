-- The group's own master, or its remote group's.
use Rattle.planning.specs.TimeLaws.{timed, time_own, time_remote}
use mathlib.Core.Path.{◌∙◌}
use Rattle.planning.proofs.masters.time_of.Goals as goal

pub returns-in-Some : goal.returns-in-Some
returns-in-Some c = c.standing.ensures.is _ ∙ timed (time_own _ _ _ _ _ _ _ _ _ c.master_of.ensures c.in-Some.is)

pub returns-in-None : goal.returns-in-None
returns-in-None c = c.remote_time.ensures ∙ timed (time_remote _ _ _ _ _ _ _ _ _ c.master_of.ensures
    c.in-None.is)
