-- The data blocks and SD of kept columns, as lent words give them.
use Rattle.std.specs.Prelude.{ℕ, zero, suc, ◌+◌, ◌*◌, ◌-◌, ◌≤◌, ◌<◌, List, [], ◌∷◌, ◌++◌, ◌≡◌, length, get_or}
use Rattle.base.specs.Choice.{if_eq}
use Rattle.base.specs.Blit.{part}
use Rattle.base.specs.Checked.{fine}
use Rattle.mdf.specs.Block.{kind_sd, size_at, link_at}
use Rattle.mdf.specs.Chain.{Fragment}
use Rattle.mdf.specs.Records.{ranges_in}
use Rattle.work_words.specs.CopyWords.{placed_at}
use Rattle.result.specs.Fill.{Block, block, block_of}
use Rattle.result.specs.Ordered.{Ordered}
use Rattle.ranges.specs.Blocks.{listed_from, links_of}
use Rattle.thin.specs.Fill.{moved_blocks}

-- the blocks that the DL of the DG at d lists
abbrev pub listed_by : List ℕ → ℕ → List Fragment
listed_by s d = listed_from s (link_at s d 2) (links_of s (link_at s d 2)) 1

-- an SD with the data of the block at x
abbrev pub sd_bytes : List ℕ → ℕ → List ℕ
sd_bytes s x = block_of kind_sd (part (x + 24) (size_at s x - 24) s)

-- ---- column number k

-- its data blocks
abbrev pub moved_of : List ℕ → List ℕ → List ℕ → ℕ → List Block
moved_of s columns memo k = moved_blocks s (get_or memo (placed_at + 3 * k + 1) 0) (listed_by s (get_or columns (8 * k + 2) 0))

-- its SD, made of the block that its CN leads to
unfoldable pub signal_in : List ℕ → List ℕ → List ℕ → ℕ → List Block
signal_in s columns memo k =
    if_eq (get_or columns (8 * k + 6) 0) 0 [] (block (get_or memo (placed_at + 3 * k + 2) 0) (sd_bytes s (link_at s (get_or columns (8 * k) 0) 5)) ∷ [])

-- both
unfoldable pub data_in : List ℕ → List ℕ → List ℕ → ℕ → List Block
data_in s columns memo k = moved_of s columns memo k ++ signal_in s columns memo k

-- of so many columns from number k on
unfoldable pub data_from : List ℕ → List ℕ → List ℕ → ℕ → ℕ → List Block
data_from s columns memo k zero = []
data_from s columns memo k (suc j) = data_in s columns memo k ++ data_from s columns memo (k + 1) j

-- ---- what is asked

-- blocks that lie in the image have room from at to e, the first at an index
pub record MovedRoom (s : List ℕ) (at first : ℕ) (fs : List Fragment) (e : ℕ) : Type 0 where
  pub ranges : ranges_in s fs ≡ fine
  pub ordered : Ordered at (moved_blocks s first fs) e

-- of column number k
pub record DataRoom (s columns memo : List ℕ) (k at e : ℕ) : Type 0 where
  pub words : 8 * k + 8 ≤ length columns
  pub places : placed_at + 3 * k + 3 ≤ length memo
  pub ranges : ranges_in s (listed_by s (get_or columns (8 * k + 2) 0)) ≡ fine
  pub ordered : Ordered at (data_in s columns memo k) e

-- of all
pub record DataReady (s columns memo : List ℕ) (n at e : ℕ) : Type 0 where
  pub words : 8 * n ≤ length columns
  pub places : placed_at + 3 * n ≤ length memo
  pub ranges : (k : ℕ) → k < n → ranges_in s (listed_by s (get_or columns (8 * k + 2) 0)) ≡ fine
  pub ordered : Ordered at (data_from s columns memo 0 n) e
