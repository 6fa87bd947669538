-- What is left, laid over the slice as it is now, gives the result.
use Rattle.std.proofs.Common.{◌+◌, ◌-◌, ◌≡◌, length, replicate}
use Rattle.base.specs.Blit.{blit}
use Rattle.sheets.proofs.field.fill.Given as goal

abbrev pub invariant-loop-p : goal.invariant-loop-p
invariant-loop-p l =
    (length l.lines ≡ length l.initial.lines) × (blit l.p (replicate (l.at + l.n - l.p) l.b) l.lines ≡ blit l.at (replicate l.n l.b) l.initial.lines)
