-- Copies that leave the window as it is are passed over; the others are laid.
use Rattle.window_copies.specs.LayingLaws.{laying_begin, laying_end}
use mathlib.Core.Path.{refl}
use native.Mathlib.Omega.{arith}
use Rattle.window_copies.proofs.copies.lay_copies.Goals as goal

pub returns-then-to-gt2050 : goal.returns-then-to-gt2050
returns-then-to-gt2050 c = λ h l k n v. absurd (omega arith)

pub returns-then-to-first : goal.returns-then-to-first
returns-then-to-first c = λ h l k n v. laying_end (c.first_in-first.ensures.passed _ _ _ _ _ refl (laying_begin _ _ _ _ _ _ _ _ _ _ h l v)) (omega arith)

pub returns : goal.returns
returns c = λ h l k n v. c.lay_indexed.ensures _ (c.first_in-first.ensures.passed _ _ _ _ _ refl (laying_begin _ _ _ _ _ _ _ _ _ _ h l v))
