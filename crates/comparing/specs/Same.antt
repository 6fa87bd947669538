-- Bookkeeping: equal bytes from two cursors on, and equal cells of two records.
use Rattle.std.specs.Prelude.{ℕ, ◌≤◌, List, Bool, ◌≡◌, take}
use Rattle.base.specs.Blit.{part}
use Rattle.base.specs.Checked.{fine}
use Rattle.mdf.specs.Records.{ranges_in, joined, size_of}
use Rattle.result.specs.Payload.{cell}
use Rattle.result.specs.Sharing.{same}
use Rattle.joined.specs.declared.cursor.Cursor.{Cursor}
use Rattle.joined.specs.Ahead.{ahead}
use Rattle.cells.specs.declared.cell.Shape.{Shape}

-- n bytes are ahead of a cursor, in fragments that lie in the image
pub record Has (s ws : List ℕ) (a : Cursor) (n : ℕ) : Type 0 where
  pub ranges : ranges_in s (ahead ws a) ≡ fine
  pub enough : n ≤ size_of (ahead ws a)

-- the first n of them
abbrev pub bytes_at : List ℕ → List ℕ → Cursor → ℕ → List ℕ
bytes_at s ws a n = take n (joined s (ahead ws a))

-- the cell of the record that begins at a cursor
abbrev pub cell_at : List ℕ → List ℕ → Cursor → Shape → List ℕ
cell_at s ws a h = cell s h.group h.channel (bytes_at s ws a h.length)

-- the promises of functions that compare bytes and cells
abbrev pub JoinedSame : List ℕ → List ℕ → Cursor → List ℕ → Cursor → ℕ → Bool → Type 0
JoinedSame s ws a vs b n r = Has s ws a n → Has s vs b n → r ≡ same (bytes_at s ws a n) (bytes_at s vs b n)

abbrev pub CellSame : List ℕ → List ℕ → Cursor → Shape → List ℕ → Cursor → Shape → Bool → Type 0
CellSame s ws a h vs b i r = Has s ws a h.length → Has s vs b i.length → r ≡ same (cell_at s ws a h) (cell_at s vs b i)

abbrev pub HereSame : List ℕ → ℕ → Shape → ℕ → Shape → Bool → Type 0
HereSame s p h q i r =
    r ≡ same (cell s h.group h.channel (part p h.length s)) (cell s i.group i.channel (part q i.length s))
