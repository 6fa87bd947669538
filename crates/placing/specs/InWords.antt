-- What layout takes of the columns, out of their words: eight words for a column from p on, three for a fragment.
use Rattle.std.specs.Prelude.{ℕ, zero, suc, ◌+◌, ◌*◌, ◌≤◌, ◌<◌, List, [], ◌∷◌, ◌++◌, ◌≡◌, Bool, length, get_or}
use Rattle.base.specs.Choice.{if_eq}
use Rattle.work_words.specs.Words.{fragment_words}
use Rattle.mdf.specs.Records.{size_of}
use Rattle.plan.specs.Channel.{width}
use Rattle.plan.specs.Photos.{photos_of}
use Rattle.plan.specs.Columns.{Column, Signal, no_signal, signal_data}
use Rattle.work_words.specs.PlanWords.{columns_words, signal_fragments}
use Rattle.plan.specs.Geometry.{align8, align_to, block_count}
use Rattle.plan.specs.Layout.{dl_size, column_blocks, payload_size}
use Rattle.result.specs.Guarantee.{In}
use Rattle.planning.specs.Sizes.{signal_size}

-- ---- one column

-- bytes of a record, number of data blocks, all bytes of its records
unfoldable pub width_at : List ℕ → List ℕ → ℕ → ℕ
width_at s w p = width s (get_or w (p + 1) 0) (get_or w p 0)

unfoldable pub blocks_at : List ℕ → ℕ → List ℕ → ℕ → ℕ
blocks_at s size w p = block_count size (width_at s w p) (get_or w (p + 3) 0)

unfoldable pub payload_at : List ℕ → List ℕ → ℕ → ℕ
payload_at s w p = width_at s w p * get_or w (p + 3) 0

-- of a CG, by the word of its master
unfoldable pub cg_bytes : ℕ → ℕ
cg_bytes m = if_eq m 0 104 112

-- DG, CG, CN and DL
unfoldable pub structure_at : Bool → List ℕ → ℕ → List ℕ → ℕ → ℕ
structure_at ph s size w p = 64 + cg_bytes (get_or w (p + 5) 0) + (160 + 8 * length (photos_of ph s (get_or w p 0))) + dl_size (blocks_at s size w p)

-- past its data blocks, which begin at d
unfoldable pub blocks_end_at : List ℕ → ℕ → List ℕ → ℕ → ℕ → ℕ
blocks_end_at s size w p d = align8 (d + (24 * blocks_at s size w p + payload_at s w p))

-- where its data blocks begin, past d: on a unit, if there are any
unfoldable pub first_in : ℕ → List ℕ → ℕ → List ℕ → ℕ → ℕ → ℕ
first_in u s size w p d = if_eq (blocks_at s size w p) 0 d (align_to u d)

-- where its SD begins, past d: on a unit, if there is one
unfoldable pub sd_past : ℕ → List ℕ → ℕ → ℕ → ℕ
sd_past u w p d = if_eq (get_or w (p + 6) 0) 0 d (align_to u d)

unfoldable pub sd_in : ℕ → List ℕ → ℕ → List ℕ → ℕ → ℕ → ℕ
sd_in u s size w p d = sd_past u w p (blocks_end_at s size w p (first_in u s size w p d))

-- the bytes of its signal data
unfoldable pub signal_at : List ℕ → List ℕ → ℕ → ℕ
signal_at w f p = signal_size f (get_or w (p + 6) 0) (get_or w (p + 7) 0)

-- past its SD, which begins at d
unfoldable pub signal_end_at : List ℕ → List ℕ → ℕ → ℕ → ℕ
signal_end_at w f p d = if_eq (get_or w (p + 6) 0) 0 d (align8 (d + (24 + signal_at w f p)))

-- past all its data, from d on
unfoldable pub past_in : ℕ → List ℕ → ℕ → List ℕ → List ℕ → ℕ → ℕ → ℕ
past_in u s size w f p d = signal_end_at w f p (sd_in u s size w p d)

-- ---- so many columns

-- past the blocks that make up columns
unfoldable pub structures_in : Bool → List ℕ → ℕ → List ℕ → ℕ → ℕ → ℕ → ℕ
structures_in ph s size w p zero a = a
structures_in ph s size w p (suc n) a = structures_in ph s size w (p + 8) n (a + structure_at ph s size w p)

-- past the data of columns
unfoldable pub data_in : ℕ → List ℕ → ℕ → List ℕ → List ℕ → ℕ → ℕ → ℕ → ℕ
data_in u s size w f p zero d = d
data_in u s size w f p (suc n) d = data_in u s size w f (p + 8) n (past_in u s size w f p d)

-- three words for each: the places of its DG, of its first data block and of its SD
unfoldable pub placed_in : ℕ → Bool → List ℕ → ℕ → List ℕ → List ℕ → ℕ → ℕ → ℕ → ℕ → List ℕ
placed_in u ph s size w f p zero a d = []
placed_in u ph s size w f p (suc n) a d =
    (a ∷ first_in u s size w p d ∷ sd_in u s size w p d ∷ [])
    ++ placed_in u ph s size w f (p + 8) n (a + structure_at ph s size w p) (past_in u s size w f p d)

-- ---- bounds: no sum of layout passes 64 bits
pub record Within (ph : Bool) (s : List ℕ) (size : ℕ) (w f : List ℕ) (p : ℕ) : Type 0 where
  pub blocks : blocks_at s size w p ≤ 4294967295
  pub photos : length (photos_of ph s (get_or w p 0)) ≤ 33554432
  pub payload : payload_at s w p ≤ 4398046511104
  pub signal : signal_at w f p ≤ 4398046511104

pub record AllWithin (ph : Bool) (s : List ℕ) (size : ℕ) (w f : List ℕ) (p n : ℕ) : Type 0 where
  pub each : (k : ℕ) → k < n → Within ph s size w f (p + 8 * k)

-- of the numbers of blocks and of references alone
pub record AllFew (ph : Bool) (s : List ℕ) (size : ℕ) (w : List ℕ) (p n : ℕ) : Type 0 where
  pub each : (k : ℕ) → k < n → (blocks_at s size w (p + 8 * k) ≤ 4294967295) × (length (photos_of ph s (get_or w (p + 8 * k) 0)) ≤ 33554432)

-- ---- columns that stand in words

-- from p on, and their signal data's fragments from number m on
pub record Columns (w f : List ℕ) (m p : ℕ) (cs : List Column) : Type 0 where
  pub at : (j : ℕ) → j < 8 * length cs → get_or w (p + j) 0 ≡ get_or (columns_words m cs) j 0
  pub fragments_at : (j : ℕ) → j < 3 * length (signal_fragments cs) → get_or f (3 * m + j) 0 ≡ get_or (fragment_words (signal_fragments cs)) j 0

-- each column keeps the references that it is to keep
pub record Referring (ph : Bool) (s : List ℕ) (cs : List Column) : Type 0 where
  pub each : (c : Column) → In c cs → c.photos ≡ photos_of ph s c.channel

-- what planning and the data stage give of a column
abbrev pub signal_bytes_of : Signal → ℕ
signal_bytes_of no_signal = 0
signal_bytes_of (signal_data fs) = size_of fs

pub record Bounded (s : List ℕ) (size : ℕ) (c : Column) : Type 0 where
  pub blocks : column_blocks s size c ≤ 4294967295
  pub photos : length c.photos ≤ 33554432
  pub payload : payload_size s c ≤ 4398046511104
  pub signal : signal_bytes_of c.signal_of ≤ 4398046511104

pub record AllBounded (s : List ℕ) (size : ℕ) (cs : List Column) : Type 0 where
  pub each : (c : Column) → In c cs → Bounded s size c
