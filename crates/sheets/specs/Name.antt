-- Bookkeeping: the bytes of a name as they print.
use Rattle.std.specs.Prelude.{ℕ, List, map}
use Rattle.base.specs.Blit.{part}
use Rattle.sheet.specs.Sheet.{up_to_zero, printable}

-- m bytes of s from index q on, up to a zero byte
abbrev pub shown_text : List ℕ → ℕ → ℕ → List ℕ
shown_text s q m = map printable (up_to_zero (part q m s))
