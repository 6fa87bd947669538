-- Bookkeeping: the cells of records at equal distances over a window.
use Rattle.std.specs.Prelude.{ℕ, ◌+◌, ◌-◌, ◌*◌, ◌/◌, ◌≤◌, ◌<◌, List, ◌≡◌}
use Rattle.base.specs.Choice.{if_le}
use Rattle.mdf.specs.Records.{most64, joined, size_of}
use Rattle.work_words.specs.Words.{fragments_of}
use Rattle.result.specs.Payload.{cells}
use Rattle.places.specs.Stretch.{records_at, spaced}
use Rattle.stores.specs.Over.{over}
use Rattle.cells.specs.declared.cell.Shape.{Shape}
use Rattle.cells.specs.Spot.{Readable}
use Rattle.cells.specs.Strided.{Lying}
use Rattle.window_cells.specs.declared.stretch.Run.{Run}

-- its numbers agree: there are records, cells have bytes, the last record's offset and the index past the last cell are numbers
pub record Lain (h : Shape) (r : Run) : Type 0 where
  pub some : 0 < r.n
  pub wide : 0 < h.width
  pub place : r.at + r.n * h.width ≤ most64
  pub last : r.first + (r.n - 1) * r.stride ≤ most64

-- the records past the first i
abbrev pub further_of : Shape → Run → ℕ → Run
further_of h r i = record { at = r.at + i * h.width; first = r.first + i * r.stride; stride = r.stride; n = r.n - i }

-- how many cells of w bytes from at on lie before a
unfoldable pub passed_of : ℕ → ℕ → ℕ → ℕ
passed_of a at w = if_le a at 0 ((a - at) / w)

-- the cells
abbrev pub run_cells : List ℕ → List ℕ → Shape → Run → List ℕ
run_cells s ws h r = cells s h.group h.channel (records_at (joined s (fragments_of ws)) h.length (spaced r.first r.stride r.n))

-- the records lie in the data
abbrev pub LyingIn : List ℕ → Shape → Run → Type 0
LyingIn ws h r = Lying (size_of (fragments_of ws)) h.length r.first r.stride r.n

-- the cells are laid, if the records lie in the data
abbrev pub LaysRun : List ℕ → List ℕ → Shape → ℕ → Run → List ℕ → List ℕ → Type 0
LaysRun s ws h a r w last = Readable s ws h → LyingIn ws h r → last ≡ over a r.at (run_cells s ws h r) w

-- and if their indices are numbers
abbrev pub LaysStretch : List ℕ → List ℕ → Shape → ℕ → Run → List ℕ → List ℕ → Type 0
LaysStretch s ws h a r w last =
    0 < h.width → r.at + r.n * h.width ≤ most64 → LaysRun s ws h a r w last
