-- Bookkeeping: what is known of fragments before cells are read from them.
use Rattle.std.specs.Prelude.{ℕ, ◌+◌, ◌-◌, ◌*◌, ◌/◌, ◌≤◌, ◌<◌, min, List, ◌≡◌}
use Rattle.base.specs.Choice.{if_eq}
use Rattle.base.specs.Checked.{fine}
use Rattle.mdf.specs.Records.{most64, ranges_in, size_of}
use Rattle.work_words.specs.Words.{fragments_of}
use Rattle.cells.specs.declared.cell.Shape.{Shape}
use Rattle.cells.specs.Shape.{Shaped, Sound}

-- the fragments lie in the image, their bytes can be counted, and a record has bytes
pub record Readable (s ws : List ℕ) (h : Shape) : Type 0 where
  pub shaped : Shaped s h
  pub ranges : ranges_in s (fragments_of ws) ≡ fine
  pub small : size_of (fragments_of ws) ≤ most64
  pub some : 0 < h.length

-- how many of n records begin at most so many bytes past the first one's start; of those that all begin there the first alone counts
unfoldable pub run_in : ℕ → ℕ → ℕ → ℕ
run_in room stride n = if_eq stride 0 (min n 1) (min n (room / stride + 1))

-- m of n records: as far as each lies before so many bytes past the first one's start
pub record RunOf (room stride n m : ℕ) : Type 0 where
  pub some : 0 < m
  pub few : m ≤ n
  pub within : (m - 1) * stride ≤ room

-- the numbers of n records at equal distances agree: their cells have room in size bytes from index to on, and the last one's offset is a word
pub record Roomy (h : Shape) (size to first stride n : ℕ) : Type 0 where
  pub sound : Sound h
  pub some : 0 < n
  pub room : to + n * h.width ≤ size
  pub last : first + (n - 1) * stride ≤ most64
