-- The counts that were made, as many as groups, go into the words of the source.
use mathlib.Core.Path.{refl}
use native.Mathlib.Omega.{arith}
use Rattle.fields.specs.AnswerLaws.{passed_on}
use Rattle.reading.specs.ReadLaws.{counts_laid, into_refused, into_words}
use Rattle.reading.proofs.recording.count_into.Goals as goal

pub returns-in_err-count_all : goal.returns-in_err-count_all
returns-in_err-count_all c = rw (passed_on _ _ c.from_residual.ensures) (into_refused c.count_all.ensures _ c.in_err-count_all.was)

pub returns : goal.returns
returns c =
    let l = c.requires.0.long in
    into_words c.count_all.ensures _ c.in_ok-count_all.was refl (counts_laid _ _ _ _ (omega arith) c.copy_from_slice.ensures.after (omega arith) (omega arith))
