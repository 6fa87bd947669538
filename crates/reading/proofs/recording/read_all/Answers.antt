-- Each way out is one case of the definition; the words that the walk left hold its source.
use Rattle.fields.specs.AnswerLaws.{passed_on}
use Rattle.reading.specs.ReadLaws.{walk_met, met_holding, met_few, all_unknown, all_stopped, all_uncounted, all_read}
use Rattle.reading.proofs.recording.read_all.Goals as goal

pub returns-in_err-identify : goal.returns-in_err-identify
returns-in_err-identify c = rw (passed_on _ _ c.from_residual.ensures) (all_unknown _ _ _ c.identify.ensures c.in_err-identify.was)

pub returns-in_err-found : goal.returns-in_err-found
returns-in_err-found c =
    rw (passed_on _ _ c.from_residual-in_err-found.ensures)
    (all_stopped _ _ _ c.identify.ensures c.in_ok-identify.was c.walk.new.source c.walk.new.fragments c.walk.ensures c.in_err-found.was)

pub count_into-requires : goal.count_into-requires
count_into-requires c =
    let m = walk_met _ _ _ c.walk.new.source c.walk.new.fragments c.walk.ensures c.in_ok-found.was in
    (met_holding m c.requires.0 c.requires.1, met_few m)

pub returns-in_err-count_into : goal.returns-in_err-count_into
returns-in_err-count_into c =
    rw (passed_on _ _ c.from_residual-in_err-count_into.ensures)
    (all_uncounted _ _ _ c.identify.ensures c.in_ok-identify.was (walk_met _ _ _ c.walk.new.source c.walk.new.fragments c.walk.ensures c.in_ok-found.was)
    c.requires.0 c.requires.1 c.count_into.ensures c.in_err-count_into.was)

pub returns : goal.returns
returns c =
    all_read _ _ _ c.identify.ensures c.in_ok-identify.was (walk_met _ _ _ c.walk.new.source c.walk.new.fragments c.walk.ensures c.in_ok-found.was)
    c.requires.0 c.requires.1 c.count_into.ensures c.in_ok-count_into.was
