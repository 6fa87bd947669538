-- A refusal of units or of data, or the words of all groups.
use mathlib.Core.Path.{refl}
use Rattle.planning.specs.ReadTableLaws.{share_units, share_streams, share_all}
use Rattle.fields.specs.AnswerLaws.{passed_on}
use native.Mathlib.Omega.{arith}
use Rattle.planning.proofs.clocks.share_times.Goals as goal

pub returns-in_err-units_in : goal.returns-in_err-units_in
returns-in_err-units_in c = rw (passed_on _ _ c.from_residual.ensures) (share_units _ _ _ _ _ (omega arith) _ _ refl
    c.fill_table-met.ensures
    c.min-groups.ensures c.units_in.ensures _
    c.in_err-units_in.was)

pub returns-in_err-streams_in : goal.returns-in_err-streams_in
returns-in_err-streams_in c = rw (passed_on _ _ c.from_residual-in_err-streams_in.ensures) (share_streams _ _ _ _ _ (omega arith) _ _ refl
    c.fill_table-met.ensures
    c.min-groups.ensures
    c.units_in.ensures
    c.in_ok-units_in.was
    c.streams_in.ensures _ c.in_err-streams_in.was)

pub returns : goal.returns
returns c = share_all _ _ _ _ _ (omega arith) _ _ refl
    c.fill_table-met.ensures
    c.min-groups.ensures
    c.units_in.ensures
    c.in_ok-units_in.was
    c.streams_in.ensures c.in_ok-streams_in.was
    c.all_stand.ensures
