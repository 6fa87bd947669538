-- Bookkeeping: the records of a group, found in stretches, in the blocks of its column.
use Rattle.std.specs.Prelude.{ℕ, ◌+◌, ◌-◌, ◌*◌, ◌≤◌, max, Bool, true, false, Option, Some, None, List, ◌≡◌, get_or}
use Rattle.base.specs.Checked.{fine}
use Rattle.mdf.specs.Records.{most64, ranges_in, size_of}
use Rattle.work_words.specs.Words.{fragments_of}
use Rattle.result.specs.Payload.{group_records}
use Rattle.places.specs.declared.stretch.Stretch.{Stretch}
use Rattle.places.specs.Stretch.{number_in, Ready}
use Rattle.places.specs.Pool.{Pooled}
use Rattle.cells.specs.Strided.{Lying}
use Rattle.data_blocks.specs.declared.piece.Form.{Form}
use Rattle.data_blocks.specs.Region.{region_of, reach_to, Due, Grown, places_of, PieceOf}

-- the fragments lie in the image and have so many bytes together, or it is not so
pub record TotalOf (s ws : List ℕ) (r : Option ℕ) : Type 0 where
  pub yes : (n : ℕ) → r ≡ Some n → (ranges_in s (fragments_of ws) ≡ fine) × (n ≡ size_of (fragments_of ws)) × (n ≤ most64)
  pub no : r ≡ None → ranges_in s (fragments_of ws) ≡ fine → size_of (fragments_of ws) ≤ most64 → ⊥

-- a stretch of records from a number on, of those that the column has, in data of so many bytes
pub record Usable (size : ℕ) (f : Form) (at : ℕ) (t : Stretch) : Type 0 where
  pub next : t.number ≡ at
  pub lying : Lying size f.shape.length t.first t.stride t.count
  pub few : t.number + t.count ≤ f.records

pub record IfUsable (size : ℕ) (f : Form) (at : ℕ) (t : Stretch) (r : Bool) : Type 0 where
  pub yes : r ≡ true → Usable size f at t
  pub no : r ≡ false → Usable size f at t → ⊥

-- the records of a stretch past the first m
abbrev pub past_of : Stretch → ℕ → Stretch
past_of t m = record { number = t.number + m; first = t.first + m * t.stride; stride = t.stride; count = t.count - m }

-- its records from number a on came to stand
abbrev pub PutRest : List ℕ → List ℕ → Form → ℕ → Stretch → List ℕ → List ℕ → Type 0
PutRest s ws f a t out last =
    (rs : List (List ℕ)) → Due f rs → PieceOf s ws f rs t.number t.count (places_of t)
    → Grown (region_of s f rs) (reach_to f (max a t.number)) (reach_to f (max a (t.number + t.count))) out last

-- the records of group k from number a up to b came to stand
abbrev pub Filled : List ℕ → ℕ → ℕ → List ℕ → List ℕ → Form → ℕ → ℕ → List ℕ → List ℕ → Type 0
Filled s d k gs ws f a b out last =
    Ready s d k gs ws → get_or gs k 0 ≡ f.shape.group → Due f (group_records s d k gs (fragments_of ws))
    → Grown (region_of s f (group_records s d k gs (fragments_of ws))) (reach_to f a) (reach_to f b) out last

-- those up to b, by kept stretches
abbrev pub PoolFilled : List ℕ → ℕ → ℕ → List ℕ → Form → List ℕ → ℕ → List ℕ → List ℕ → Type 0
PoolFilled s d g ws f p b out last =
    (gs_of ws_of : ℕ → List ℕ) → ws_of d ≡ ws → Pooled s gs_of ws_of p → Filled s d (number_in g (gs_of d)) (gs_of d) ws f 0 b out last
