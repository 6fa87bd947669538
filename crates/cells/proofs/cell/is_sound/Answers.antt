-- Each test is of one number; the last is of the width.
use Rattle.cells.specs.ShapeLaws.{unsound, sound-kept, sound-bare}
use native.Mathlib.Omega.{arith}
use Rattle.cells.proofs.cell.is_sound.Goals.{then-h-via-then-h, then-h-via-else-h+then-h-2, then-h-via-else-h+else-h-2+then-h-gt8589934591, then-h-via-else-h+else-h-2+else-h-gt8589934591+then-h-gt7}
use Rattle.cells.proofs.cell.is_sound.Goals as goal

pub returns-then-h : goal.returns-then-h
returns-then-h c =
    elim c.then-h.branch [
      | then-h-via-then-h w ↦ unsound (λ u. omega (arith, w.if-h.true, u.fit))
      | then-h-via-else-h+then-h-2 w ↦ unsound (λ u. omega (arith, w.if-h-2.true, w.if-h.false, u.fit))
      | then-h-via-else-h+else-h-2+then-h-gt8589934591 w ↦ unsound (λ u. omega (arith, w.if-h-gt8589934591.true, u.short))
      | then-h-via-else-h+else-h-2+else-h-gt8589934591+then-h-gt7 w ↦ unsound (λ u. omega (arith, w.if-h-gt7.true, u.bit))
    ]

pub returns-then-h-4 : goal.returns-then-h-4
returns-then-h-4 c = unsound (λ w. omega (arith, c.if-h-4.true, w.kept c.if-h-3.true))

pub returns-then-h-3 : goal.returns-then-h-3
returns-then-h-3 c = sound-kept c.args.h c.if-h.false c.if-h-2.false (omega (arith, c.if-h-gt8589934591.false)) (omega (arith, c.if-h-gt7.false)) c.if-h-3.true c.if-h-4.false

pub returns : goal.returns
returns c = sound-bare c.args.h c.if-h.false c.if-h-2.false (omega (arith, c.if-h-gt8589934591.false)) (omega (arith, c.if-h-gt7.false)) c.if-h-3.false
