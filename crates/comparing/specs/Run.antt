-- Bookkeeping: equal cells of records at equal distances.
use Rattle.std.specs.Prelude.{ℕ, ◌+◌, ◌-◌, ◌*◌, ◌≤◌, ◌<◌, List, Bool, ◌≡◌, length}
use Rattle.mdf.specs.Records.{joined}
use Rattle.result.specs.Payload.{cells}
use Rattle.result.specs.Sharing.{same}
use Rattle.places.specs.Stretch.{spaced, records_at}
use Rattle.joined.specs.declared.cursor.Cursor.{Cursor}
use Rattle.joined.specs.Ahead.{ahead}
use Rattle.cells.specs.declared.cell.Shape.{Shape}
use Rattle.comparing.specs.declared.head.Head.{Head}
use Rattle.comparing.specs.declared.run.Compared.{Compared}
use Rattle.comparing.specs.Same.{Has}

-- the cells of m records in the bytes l, the first at a place
abbrev pub cells_in : List ℕ → Shape → List ℕ → ℕ → ℕ → ℕ → List ℕ
cells_in s h l at stride m = cells s h.group h.channel (records_at l h.length (spaced at stride m))

-- of the first m records at a head
abbrev pub cells_ahead : List ℕ → List ℕ → Head → Shape → ℕ → List ℕ
cells_ahead s ws p h m = cells_in s h (joined s (ahead ws p.spot.cursor)) 0 p.stride m

-- r of n records of so many bytes lie in the fragment that a cursor is in, and that lies in the image
pub record RunHere (s : List ℕ) (k : Cursor) (stride n bytes r : ℕ) : Type 0 where
  pub few : r ≤ n
  pub inside : 0 < r → (r - 1) * stride + bytes ≤ k.left
  pub image : 0 < r → k.position + k.left ≤ length s

-- the promises of functions that compare cells
abbrev pub StridedSame : List ℕ → ℕ → ℕ → Shape → ℕ → ℕ → Shape → ℕ → Bool → Type 0
StridedSame s p stride h q step i n r = r ≡ same (cells_in s h s p stride n) (cells_in s i s q step n)

pub record SomeSame (s ws : List ℕ) (p : Head) (h : Shape) (vs : List ℕ) (q : Head) (i : Shape) (r : Compared) : Type 0 where
  pub some : 0 < r.count
  pub one : 0 < p.count → r.count ≤ p.count
  pub two : 0 < q.count → r.count ≤ q.count
  pub is : Has s ws p.spot.cursor h.length → Has s vs q.spot.cursor i.length
      → r.equal ≡ same (cells_ahead s ws p h r.count) (cells_ahead s vs q i r.count)
