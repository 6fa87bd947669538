-- Bookkeeping: the cells of records whose places words tell.
use Rattle.std.specs.Prelude.{ℕ, ◌+◌, ◌*◌, ◌≤◌, ◌<◌, List, ◌≡◌, length, get_or}
use Rattle.base.specs.Blit.{part, blit}
use Rattle.mdf.specs.Records.{joined, size_of}
use Rattle.work_words.specs.Words.{fragments_of}
use Rattle.result.specs.Payload.{cells}
use Rattle.places.specs.Stretch.{records_at}
use Rattle.joined.specs.declared.spot.Spot.{Spot}
use Rattle.joined.specs.Spot.{SpotOf}
use Rattle.cells.specs.declared.cell.Shape.{Shape}
use Rattle.cells.specs.declared.gathered.Gathered.{Gathered}
use Rattle.cells.specs.declared.gathered.Window.{Window}
use Rattle.cells.specs.Shape.{Shaped}
use Rattle.cells.specs.Spot.{Readable}

-- the cells of the records of l at places ps, from index to on; each is as wide as the column
pub record Put (s l : List ℕ) (h : Shape) (ps : List ℕ) (to : ℕ) (out last : List ℕ) : Type 0 where
  pub bytes : last ≡ blit to (cells s h.group h.channel (records_at l h.length ps)) out
  pub wide : length (cells s h.group h.channel (records_at l h.length ps)) ≡ length ps * h.width

-- the records of l that begin at most room bytes past base are those of s as far past position
pub record Alike (s l : List ℕ) (bytes : ℕ) (v : Window) : Type 0 where
  pub are : (q : ℕ) → q ≤ v.room → part (v.base + q) bytes l ≡ part (v.position + q) bytes s

-- its words are of p, the first of them base; records that begin at most room bytes past position lie in size bytes
pub record Near (p : List ℕ) (size bytes : ℕ) (v : Window) : Type 0 where
  pub some : 0 < v.n
  pub words : v.from + v.n ≤ length p
  pub first : get_or p v.from 0 ≡ v.base
  pub inside : v.position + v.room + bytes ≤ size

-- the first r of n records whose places words of p tell; their cells, if the first lies at the spot k in the data
pub record Some (s ws : List ℕ) (h : Shape) (p : List ℕ) (k : Spot) (from n to r : ℕ) (out last : List ℕ) : Type 0 where
  pub some : 0 < r
  pub few : r ≤ n
  pub put : Readable s ws h → SpotOf s ws k → k.offset + h.length ≤ size_of (fragments_of ws)
      → Put s (joined s (fragments_of ws)) h (part from r p) to out last

-- r of n records; their cells, if the shape is the channel's, in any data that has them as the image has
pub record Gathers (s : List ℕ) (h : Shape) (p : List ℕ) (v : Window) (to r : ℕ) (out last : List ℕ) : Type 0 where
  pub some : 0 < r
  pub few : r ≤ v.n
  pub put : Shaped s h → (l : List ℕ) → Alike s l h.length v → Put s l h (part v.from r p) to out last

-- the cells of the first r .count of n records, up to one that doesn't lie in size bytes; the place of the last of them
pub record FewOrAll (s ws : List ℕ) (h : Shape) (p : List ℕ) (size from n to : ℕ) (r : Gathered) (out last : List ℕ) : Type 0 where
  pub spot : SpotOf s ws r.spot
  pub bytes : last ≡ blit to (cells s h.group h.channel (records_at (joined s (fragments_of ws)) h.length (part from r.count p))) out
  pub stop : r.count < n → size < get_or p (from + r.count) 0 + h.length
