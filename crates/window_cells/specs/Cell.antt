-- Bookkeeping: the cell of a record over a window.
use Rattle.std.specs.Prelude.{ℕ, ◌+◌, ◌≤◌, true, List, ◌≡◌}
use Rattle.base.specs.Blit.{part}
use Rattle.mdf.specs.Records.{most64, joined, size_of}
use Rattle.work_words.specs.Words.{fragments_of}
use Rattle.plan.specs.Channel.{inval_bit}
use Rattle.result.specs.Payload.{cell}
use Rattle.stores.specs.Over.{over}
use Rattle.cells.specs.declared.cell.Shape.{Shape}
use Rattle.cells.specs.Spot.{Readable}

-- the record at an offset
abbrev pub record_at : List ℕ → List ℕ → Shape → ℕ → List ℕ
record_at s ws h offset = part offset h.length (joined s (fragments_of ws))

-- r is its kept bit, if it lies in the data
abbrev pub KeptAt : List ℕ → List ℕ → Shape → ℕ → ℕ → Type 0
KeptAt s ws h offset r =
    Readable s ws h → h.keep ≡ true → offset + h.length ≤ size_of (fragments_of ws)
    → r ≡ inval_bit s h.group h.channel (record_at s ws h offset)

-- its cell is laid at index at, if it lies in the data and the index is one
abbrev pub LaysCell : List ℕ → List ℕ → Shape → ℕ → ℕ → ℕ → List ℕ → List ℕ → Type 0
LaysCell s ws h a at offset w last =
    Readable s ws h → offset + h.length ≤ size_of (fragments_of ws) → at + h.width ≤ most64
    → last ≡ over a at (cell s h.group h.channel (record_at s ws h offset)) w
