-- A refusal of what is decided, 20 or 21, or the report.
use Rattle.std.proofs.Common.{refl, rules}
use Rattle.fields.specs.AnswerLaws.{passed_on}
use Rattle.placing.specs.DecidesLaws.{decides_done, decides_shares, decides_refused}
use Rattle.writing.specs.FinishLaws.{stands_timed, stands_omissions, stands_counts}
use Rattle.writing.specs.RoomLaws.{verdict_refused, verdict_fine}
use Rattle.writing.specs.BeginningLaws.{call_undecided, call-short, call_accepted}
use Rattle.writing.proofs.begin.begin.Goals as goal

pub room_in-room-requires : goal.room_in-room-requires
room_in-room-requires c = stands_omissions (stands_timed 0 (decides_done c.decide.ensures c.in_ok-found.was))

pub returns-in-Err : goal.returns-in-Err
returns-in-Err c time = call-short _ _ _ _ time _ _ _ (decides_done c.decide.ensures c.in_ok-found.was)
    (verdict_refused c.room_in-room.ensures c.in-Err.is) c.clear_all.ensures

pub count_up-report-requires : goal.count_up-report-requires
count_up-report-requires c = stands_counts (stands_timed 0 (decides_done c.decide.ensures c.in_ok-found.was))

pub returns-in_err-found : goal.returns-in_err-found
returns-in_err-found c time = rw (passed_on _ _ c.from_residual.ensures) (call_undecided _ _ _ _ time _ _ _ (decides_refused c.decide.ensures c.in_err-found.was))

pub returns : goal.returns
returns c time = call_accepted _ _ _ _ time _ _ _ (decides_done c.decide.ensures c.in_ok-found.was)
    (verdict_fine c.room_in-room.ensures c.in_default.is) c.count_up-report.ensures
    (decides_shares _ _ _ _ _ _ _ _ _ _ c.decide.ensures c.in_ok-found.was) refl refl
