-- Each way out is one case of the definition.
use Rattle.fields.specs.AnswerLaws.{passed_on}
use Rattle.ranges.specs.OpenedLaws.{open_unknown, open_stopped, open_lasting, open_few, open_ranges, open_form}
use Rattle.ranges.proofs.open.open_file.Goals as goal

pub returns-in_err-identify : goal.returns-in_err-identify
returns-in_err-identify c = rw (passed_on _ _ c.from_residual.ensures) (λ long. open_unknown _ c.identify.ensures c.in_err-identify.was, tt, λ long. tt)

pub returns-in_err-found : goal.returns-in_err-found
returns-in_err-found c =
    rw (passed_on _ _ c.from_residual-in_err-found.ensures)
    (λ long. open_stopped _ c.identify.ensures c.in_ok-identify.was c.args.source.now c.walk_file.new.source c.walk_file.ensures c.in_err-found.was, tt, λ long. tt)

pub word_ranges-requires : goal.word_ranges-requires
word_ranges-requires c = open_few _ c.identify.ensures c.in_ok-identify.was c.args.source.now c.walk_file.new.source c.walk_file.ensures c.in_ok-found.was

pub returns-in_err-word_ranges : goal.returns-in_err-word_ranges
returns-in_err-word_ranges c =
    rw (passed_on _ _ c.from_residual-in_err-word_ranges.ensures) (
      λ long.
          open_ranges _ c.identify.ensures c.in_ok-identify.was c.args.source.now c.walk_file.new.source c.walk_file.ensures long c.in_ok-found.was
          c.word_ranges.ensures c.in_err-word_ranges.was,
      tt,
      λ long. tt,
    )

pub form_of-requires : goal.form_of-requires
form_of-requires c = open_few _ c.identify.ensures c.in_ok-identify.was c.args.source.now c.walk_file.new.source c.walk_file.ensures c.in_ok-found.was

pub returns : goal.returns
returns c = (
  λ long.
      open_form _ c.identify.ensures c.in_ok-identify.was c.args.source.now c.walk_file.new.source c.walk_file.ensures long c.in_ok-found.was
      c.word_ranges.ensures c.in_ok-word_ranges.was c.form_of.ensures.0,
  c.form_of.ensures.1,
  λ long. open_lasting _ c.identify.ensures c.in_ok-identify.was c.args.source.now c.walk_file.new.source c.walk_file.ensures c.in_ok-found.was long c.form_of.result,
)
