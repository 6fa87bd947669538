-- What opening refuses, or its columns.
use Rattle.fields.specs.AnswerLaws.{passed_on}
use Rattle.taking.specs.TakesLaws.{taken_unopened, taken-opened, few-opened}
use borrow.Author.Rules.{rules}
use Rattle.taking.proofs.take.take_out.Goals as goal

pub invariant_of-file : goal.invariant_of-file
invariant_of-file c = record { few = few-opened c.open_file.ensures.1 c.in_ok-count.was }

pub returns-in_err-count : goal.returns-in_err-count
returns-in_err-count c =
    rw (passed_on _ _ c.from_residual.ensures) (taken_unopened _ c.open_file.new.source _ (c.open_file.ensures.0 (search rules)) c.in_err-count.was)

pub returns : goal.returns
returns c = taken-opened _ c.open_file.new.source _ (c.open_file.ensures.0 (search rules)) c.in_ok-count.was c.take_opened.ensures
