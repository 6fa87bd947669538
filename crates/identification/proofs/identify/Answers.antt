-- The tests are those of the definition, in its order.
use native.Mathlib.Omega.{arith}
use mathlib.Core.Path.{refl, ◌∙◌}
use Rattle.base.specs.ChoiceLaws.{lt_yes, lt_no, eq_yes, eq_no}
use Rattle.base.specs.Blit.{part}
use Rattle.mdf.specs.Identification.{identified}
use Rattle.identification.proofs.identify.Goals as goal

pub returns-then-image-lt64 : goal.returns-then-image-lt64
unfolding identified
returns-then-image-lt64 c = lt_yes _ _ _ _ (omega arith) refl

pub returns-then-field_at-ne-FILE_MARK : goal.returns-then-field_at-ne-FILE_MARK
unfolding identified
returns-then-field_at-ne-FILE_MARK c = lt_no _ _ _ _ (omega arith) (eq_no _ _ _ _ (λ h. c.if-field_at-ne-FILE_MARK.true (c.field_at.ensures.is ∙ h)) refl)

pub returns : goal.returns
unfolding identified part
returns c = lt_no _ _ _ _ (omega arith) (eq_yes _ _ _ _ (omega arith) c.version_fits.ensures)
