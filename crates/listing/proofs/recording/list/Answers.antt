-- A refusal of what was decided, or the answer's lines; then the slices are cleared.
use Rattle.std.proofs.Common.{rules}
use Rattle.placing.specs.DecidesLaws.{decides_done, decides_refused}
use Rattle.listing.specs.ListedLaws.{done_columns, done_omissions, done_counts, refused_listed, done_listed}
use Rattle.listing.proofs.recording.list.Goals as goal

pub put_answer-end-requires : goal.put_answer-end-requires
put_answer-end-requires c =
    let t = decides_done c.decide-decision.ensures c.in-Ok.is in
    (done_columns t, done_omissions t, done_counts t)

pub returns-in-Err : goal.returns-in-Err
returns-in-Err c =
    refused_listed _ _ (decides_refused c.decide-decision.ensures c.in-Err.is) (rw (c.number.ensures, c.place.ensures) at c.put_refusal.ensures)

pub returns-in-Ok : goal.returns-in-Ok
returns-in-Ok c =
    let t = decides_done c.decide-decision.ensures c.in-Ok.is in
    done_listed t _ _ c.put_answer-end.ensures c.clear_all.ensures
