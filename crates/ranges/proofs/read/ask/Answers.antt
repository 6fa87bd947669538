-- The refusal of opening, or what the opened file answers.
use Rattle.std.proofs.Common.{rules}
use Rattle.fields.specs.AnswerLaws.{passed_on}
use Rattle.ranges.specs.ReadLaws.{ask_refused, ask_holds}
use Rattle.ranges.proofs.read.ask.Goals as goal

pub returns-in_err-open_columns : goal.returns-in_err-open_columns
returns-in_err-open_columns c =
    rw (passed_on _ _ c.from_residual.ensures)
    (ask_refused _ c.open_columns.new.source _ _ _ (c.open_columns.ensures (search rules)) c.in_err-open_columns.was)

pub ask_opened-requires : goal.ask_opened-requires
ask_opened-requires c = ask_holds _ c.open_columns.new.source (c.open_columns.ensures (search rules)) c.in_ok-open_columns.was
