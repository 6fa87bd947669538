-- The three cases of the group's time.
use Rattle.planning.specs.SettleLaws.{settle_untimed, settle_differs, settle_at}
use Rattle.planning.proofs.timing.settle.Goals as goal

pub returns-in-Untimed : goal.returns-in-Untimed
returns-in-Untimed c = settle_untimed _ _ _ _ _ _ _ _ _ _ _ c.time_of.ensures c.in-Untimed.is

pub returns-in-Differs : goal.returns-in-Differs
returns-in-Differs c = settle_differs _ _ _ _ _ _ _ _ _ _ _ c.time_of.ensures
    c.in-Differs.is (rw c.from.ensures at c.put_omission.ensures)

pub returns-in-At : goal.returns-in-At
returns-in-At c = settle_at _ _ _ _ _ _ _ _ _ _ _ c.time_of.ensures
    c.in-At.is c.add_time.ensures
