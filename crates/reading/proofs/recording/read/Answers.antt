-- Slices long enough, then what reading gives; after a refusal every word is zero.
use native.Mathlib.Omega.{arith}
use Rattle.std.proofs.Common.{refl, sym, ◌∙◌}
use Rattle.base.specs.ChoiceLaws.{lt_yes, lt_no}
use Rattle.reading.specs.Reading.{read_into}
use Rattle.reading.specs.ReadLaws.{read_refused, read_done}
use Rattle.reading.proofs.recording.read.Goals.{then-source-lt4096-via-then-source-lt4096, then-source-lt4096-via-else-source-lt4096+then-fragments-lt3072}
use Rattle.reading.proofs.recording.read.Goals as goal

pub returns-then-source-lt4096 : goal.returns-then-source-lt4096
unfolding read_into
returns-then-source-lt4096 c = elim c.then-source-lt4096.branch [
  | then-source-lt4096-via-then-source-lt4096 w ↦ lt_yes _ _ _ _ (omega arith) refl
  | then-source-lt4096-via-else-source-lt4096+then-fragments-lt3072 w ↦ lt_no _ _ _ _ (omega arith) (lt_yes _ _ _ _ (omega arith) refl)
]

pub returns-then-is_err : goal.returns-then-is_err
returns-then-is_err c =
    read_refused _ _ _ (omega arith) (omega arith) c.read_all-answer.new.source c.read_all-answer.new.fragments _ c.read_all-answer.ensures
    (sym c.is_err.ensures.value ∙ c.if-is_err.true) (omega arith) (omega arith) c.clear.ensures c.clear-then-is_err.ensures

pub returns-else-is_err : goal.returns-else-is_err
returns-else-is_err c =
    read_done _ _ _ (omega arith) (omega arith) c.read_all-answer.new.source c.read_all-answer.new.fragments _ c.read_all-answer.ensures
    (sym c.is_err.ensures.value ∙ c.if-is_err.false)
