-- The bytes are read as the definition reads them, and the number decides.
use native.Mathlib.Omega.{arith}
use mathlib.Core.Path.{refl}
use Rattle.base.specs.ChoiceLaws.{lt_yes, lt_no}
use Rattle.identification.specs.IdentificationLaws.{check_over, check_unread, check_value}
use Rattle.identification.proofs.version_fits.Goals as goal

pub returns-then-not-plain : goal.returns-then-not-plain
returns-then-not-plain c = check_over _ c.is_ascii-plain.ensures (c.if-not-plain.true)

pub returns-then-n-lt410 : goal.returns-then-n-lt410
returns-then-n-lt410 c =
    check_value _ c.is_ascii-plain.ensures (c.if-not-plain.false)
    c.trimmed_version.ensures c.in-Some.is
    (lt_yes _ _ _ _ (omega arith) refl)

pub returns-then-n-gt65535 : goal.returns-then-n-gt65535
returns-then-n-gt65535 c =
    check_value _ c.is_ascii-plain.ensures (c.if-not-plain.false)
    c.trimmed_version.ensures c.in-Some.is
    (lt_no _ _ _ _ (omega arith) (lt_yes _ _ _ _ (omega arith) refl))

pub returns-in_default : goal.returns-in_default
returns-in_default c =
    check_unread _ c.is_ascii-plain.ensures (c.if-not-plain.false) c.trimmed_version.ensures c.in_default.is

pub returns : goal.returns
returns c =
    check_value _ c.is_ascii-plain.ensures (c.if-not-plain.false)
    c.trimmed_version.ensures c.in-Some.is
    (lt_no _ _ _ _ (omega arith) (lt_no _ _ _ _ (omega arith) refl))
