-- The lines that are left, laid over the slice as it is now, give the result.
use Rattle.std.proofs.Common.{◌+◌, ◌*◌, ◌-◌, ◌≡◌, length}
use Rattle.base.specs.Blit.{blit}
use Rattle.ranges.specs.Open.{columns_of}
use Rattle.sheet.specs.Sheet.{sheet_lines, lines_text}
use Rattle.sheets.proofs.page.put_lines.Given as goal

abbrev pub invariant-loop-k : goal.invariant-loop-k
invariant-loop-k l =
    (l.p + 81 * l.first ≡ l.at + 81 * l.k) × (length l.lines ≡ length l.initial.lines)
    × (blit l.p (lines_text (sheet_lines l.image (columns_of l.image l.source l.n 0) l.k (columns_of l.image l.source (l.first + l.count - l.k) l.k))) l.lines
    ≡ blit l.at (lines_text (sheet_lines l.image (columns_of l.image l.source l.n 0) l.first (columns_of l.image l.source l.count l.first))) l.initial.lines)
