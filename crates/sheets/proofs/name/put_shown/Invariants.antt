-- The bytes that are left and the room behind them, laid over the slice as it is now, give the result.
use Rattle.std.proofs.Common.{◌+◌, ◌-◌, ◌≡◌, length}
use Rattle.base.specs.Blit.{blit}
use Rattle.sheet.specs.Sheet.{left_in}
use Rattle.sheets.specs.Name.{shown_text}
use Rattle.sheets.proofs.name.put_shown.Given as goal

abbrev pub invariant-loop-k : goal.invariant-loop-k
invariant-loop-k l =
    (length l.lines ≡ length l.initial.lines)
    × (blit (l.at + l.k) (left_in (32 - l.k) (shown_text l.image (l.from + l.k) (l.n - l.k))) l.lines
    ≡ blit l.at (left_in 32 (shown_text l.image l.from l.n)) l.initial.lines)
