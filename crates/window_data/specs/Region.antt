-- Bookkeeping: the data blocks of a column over a window, which begins at an index of them.
use Rattle.std.specs.Prelude.{ℕ, ◌+◌, ◌*◌, ◌-◌, ◌/◌, ◌≤◌, ◌<◌, min, List, ◌≡◌, take}
use Rattle.mdf.specs.Records.{most64}
use Rattle.stores.specs.Over.{over}
use Rattle.data_blocks.specs.declared.piece.Form.{Form}
use Rattle.data_blocks.specs.Region.{region_of, reach_to, start_of, Due, PieceOf}

-- where the first i bytes of region were laid over the window, the first j are
abbrev pub GrownIn : ℕ → List ℕ → ℕ → ℕ → List ℕ → List ℕ → Type 0
GrownIn a region i j w last = (base : List ℕ) → w ≡ over a 0 (take i region) base → last ≡ over a 0 (take j region) base

-- the index of what stands before the cell of record number i: its block's header, if it begins a block
abbrev pub start_at : Form → ℕ → ℕ
start_at f i = 24 * (i / f.per) + i * f.shape.width

-- the block of record number i has numbers for indices
pub record BlockIn (f : Form) (i : ℕ) : Type 0 where
  pub some : 0 < f.per
  pub few : i < f.records
  pub ends : start_at f i + 24 + min f.per (f.records - i) * f.shape.width ≤ most64

-- the header is laid, if record number i begins a block
abbrev pub LaysStart : Form → ℕ → ℕ → List ℕ → List ℕ → Type 0
LaysStart f a i w last = last ≡ over a (start_at f i) (start_of f.kind f.per f.records f.shape.width i) w

-- n records from number i on, those at the places ps, are laid
abbrev pub LaysPiece : List ℕ → List ℕ → Form → ℕ → ℕ → ℕ → List ℕ → List ℕ → List ℕ → Type 0
LaysPiece s ws f a i n ps w last =
    (rs : List (List ℕ)) → Due f rs → PieceOf s ws f rs i n ps → GrownIn a (region_of s f rs) (reach_to f i) (reach_to f (i + n)) w last
