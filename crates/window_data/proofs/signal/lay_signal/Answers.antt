use mathlib.Core.Path.{refl, ◌∙◌}
use Rattle.std.proofs.Common.{add_comm}
use Rattle.window_data.specs.SignalLaws.{signal_laid}
use native.Mathlib.Omega.{arith}
use Rattle.window_data.proofs.signal.lay_signal.Goals as goal

pub returns-in_default : goal.returns-in_default
returns-in_default c r e = absurd (c.total_of.ensures.no c.in_default.is r (omega arith))

pub returns-in_default-checked_add : goal.returns-in_default-checked_add
returns-in_default-checked_add c r e = let f = rw c.in_default-checked_add.is at c.checked_add.ensures in absurd (f (omega arith))

pub returns-in_default-checked_add-2 : goal.returns-in_default-checked_add-2
returns-in_default-checked_add-2 c r e =
    let t = c.total_of.ensures.yes _ c.in-Some.is in
    let f = rw c.in_default-checked_add-2.is at c.checked_add-2.ensures in
    absurd (f (omega (arith, t.1)))

pub returns : goal.returns
returns c r e =
    let t = c.total_of.ensures.yes _ c.in-Some.is in
    let f = rw c.in-Some-checked_add.is at c.checked_add.ensures in
    let g = rw c.in-Some-checked_add-2.is at c.checked_add-2.ensures in
    signal_laid _ _ _ _ _ _ r t.1 (c.lay_header.ensures ∙ rw (g.1, add_comm) refl) (c.lay_joined.ensures r (omega arith) (omega (arith, t.1)) ∙ rw f.1 refl)
