use Prim.Native.Nat.{ℕ, ◌+◌}
use mathlib.Core.Path.{ap}
use Rattle.window_data.specs.RegionLaws.{start_none, start-header}
use native.Mathlib.Omega.{arith}
use Rattle.window_data.proofs.piece.lay_start.Goals as goal

pub returns-then-at-f-gt0 : goal.returns-then-at-f-gt0
returns-then-at-f-gt0 c = (ap (λ (x : ℕ). x + 24) c.start_of-place.ensures, start_none _ _ _ _ _ _ _ _ c.if-at-f-gt0.true)

pub overflow_mul-count : goal.overflow_mul-count
overflow_mul-count c = rw c.min-count.ensures (omega (arith, c.requires.ends))

pub overflow_add-count : goal.overflow_add-count
overflow_add-count c = rw c.min-count.ensures (omega (arith, c.requires.ends))

pub returns : goal.returns
returns c = (ap (λ (x : ℕ). x + 24) c.start_of-place.ensures, start-header _ _ _ _ _ _ _ _ (omega (arith, c.if-at-f-gt0.false)) c.min-count.ensures (rw c.start_of-place.ensures at c.lay_header.ensures))
