-- The refusal, or the columns in the words.
use Rattle.fields.specs.AnswerLaws.{passed_on}
use Rattle.ranges.specs.ReadLaws.{kept_refused, kept-columns}
use Rattle.ranges.proofs.open.open_columns.Goals as goal

pub returns-in_err-count : goal.returns-in_err-count
returns-in_err-count c = rw (passed_on _ _ c.from_residual.ensures) (λ long. kept_refused _ _ (c.open_file.ensures.0 long) c.in_err-count.was)

pub returns : goal.returns
returns c = λ long. kept-columns _ c.open_file.new.source (c.open_file.ensures.0 long) (c.open_file.ensures.2 long) c.open_file.ensures.1 c.in_ok-count.was
