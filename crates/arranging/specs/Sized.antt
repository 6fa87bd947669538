-- The sizes of the columns that are kept, out of their words: eight words for a column, from word p on.
use Rattle.std.specs.Prelude.{ℕ, zero, suc, ◌+◌, ◌*◌, ◌-◌, ◌≤◌, List, [], ◌∷◌, ◌≡◌, length, get_or}
use Rattle.std.proofs.Math.Option.{Option, none, some}
use Rattle.base.specs.Choice.{if_eq}
use Rattle.mdf.specs.Block.{size_at, link_at}
use Rattle.plan.specs.Photos.{references}
use Rattle.plan.specs.Layout.{dl_size, Sizes}
use Rattle.file.specs.Form.{record_bytes}
use Rattle.ranges.specs.Blocks.{links_of}
use Rattle.thin.specs.TakenOut.{most_file}

-- ---- numbers that are cut past 2^59: no file has more bytes

-- r is x, or both are past 2^59 and r is no more than x; r is no more than m
pub record Cut (m x r : ℕ) : Type 0 where
  pub below : r ≤ x
  pub near : r ≤ m
  pub whole : r ≤ most_file → r ≡ x

-- ---- one column

-- the data blocks of the DG at a: the links of its DL but the first
unfoldable pub blocks_in : List ℕ → ℕ → ℕ
blocks_in s a = links_of s (link_at s a 2) - 1

-- of a CG, by the word of its master
unfoldable pub cg_bytes : ℕ → ℕ
cg_bytes m = if_eq m 0 104 112

-- DG, CG, CN and DL
unfoldable pub structure_at : List ℕ → List ℕ → ℕ → ℕ
structure_at s w p =
    64 + cg_bytes (get_or w (p + 5) 0) + (160 + 8 * length (references s (get_or w p 0))) + dl_size (blocks_in s (get_or w (p + 2) 0))

-- the bytes of its records
unfoldable pub payload_at : List ℕ → List ℕ → ℕ → ℕ
payload_at s w p = get_or w (p + 3) 0 * record_bytes s (get_or w (p + 1) 0)

-- the data bytes of the SD that the CN at c leads to
unfoldable pub sd_bytes : List ℕ → ℕ → ℕ
sd_bytes s c = size_at s (link_at s c 5) - 24

-- the same of the column, if it has signal data
unfoldable pub signal_size_at : List ℕ → List ℕ → ℕ → Option ℕ
signal_size_at s w p = if_eq (get_or w (p + 6) 0) 0 none (some (sd_bytes s (get_or w p 0)))

abbrev pub sizes_at : List ℕ → List ℕ → ℕ → Sizes
sizes_at s w p =
    record {
      structure = structure_at s w p;
      blocks = blocks_in s (get_or w (p + 2) 0);
      payload = payload_at s w p;
      signal = signal_size_at s w p;
    }

-- ---- so many columns
unfoldable pub sizes_in : List ℕ → List ℕ → ℕ → ℕ → List Sizes
sizes_in s w p zero = []
sizes_in s w p (suc n) = sizes_at s w p ∷ sizes_in s w (p + 8) n
