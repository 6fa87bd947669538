-- The remote group's master, where both counts agree.
use Rattle.planning.specs.TimeLaws.{timed, remote-none, remote-bare, remote-same, remote-differs}
use mathlib.Core.Path.{◌∙◌}
use Rattle.planning.proofs.masters.remote_time.Goals as goal

pub returns : goal.returns
returns c = c.standing.ensures.is _ ∙ timed (remote-same _ _ _ _ _ _
    c.remote_link-link.ensures
    c.find_group.ensures
    c.in-Some.is _
    c.master_of.ensures c.in-Some-master_of.is c.if-found-records.false)

pub returns-in_default : goal.returns-in_default
returns-in_default c = timed (remote-none _ _ _ _ _ _ c.remote_link-link.ensures
    c.find_group.ensures c.in_default.is)

pub returns-in_default-master_of : goal.returns-in_default-master_of
returns-in_default-master_of c = timed (remote-bare _ _ _ _ _ _ c.remote_link-link.ensures
    c.find_group.ensures
    c.in-Some.is _ c.master_of.ensures c.in_default-master_of.is)

pub returns-then-found-records : goal.returns-then-found-records
returns-then-found-records c = timed (remote-differs _ _ _ _ _ _
    c.remote_link-link.ensures
    c.find_group.ensures
    c.in-Some.is _
    c.master_of.ensures c.in-Some-master_of.is c.if-found-records.true)
