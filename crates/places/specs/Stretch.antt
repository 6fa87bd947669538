-- Bookkeeping: records of a group at equal distances in the joined data of its DG.
use Rattle.std.specs.Prelude.{ℕ, zero, suc, ◌+◌, ◌*◌, ◌-◌, ◌≤◌, ◌<◌, List, [], ◌∷◌, false, ◌≡◌, length, get_or, take, drop}
use Rattle.base.specs.Choice.{if_eq}
use Rattle.base.specs.Blit.{part}
use Rattle.base.specs.Checked.{fine}
use Rattle.mdf.specs.Group.{samples, inval_bytes, is_storage}
use Rattle.mdf.specs.Records.{most64, joined, size_of}
use Rattle.work_words.specs.Words.{fragments_of}
use Rattle.plan.specs.Data.{records_in}
use Rattle.result.specs.Payload.{group_records}
use Rattle.places.specs.declared.stretch.Stretch.{Stretch}

-- so many places: the first, and each as far from the one before
unfoldable pub spaced : ℕ → ℕ → ℕ → List ℕ
spaced first stride zero = []
spaced first stride (suc n) = first ∷ spaced (first + stride) stride n

-- the records of n bytes at places of bytes
unfoldable pub records_at : List ℕ → ℕ → List ℕ → List (List ℕ)
records_at l n [] = []
records_at l n (p ∷ ps) = part p n l ∷ records_at l n ps

-- "samples + invalidation bytes": the bytes of a record without its id
abbrev pub body_bytes : List ℕ → ℕ → ℕ
body_bytes s g = samples s g + inval_bytes s g

-- the number of the group at g among groups, or how many they are
unfoldable pub number_in : ℕ → List ℕ → ℕ
number_in g [] = 0
number_in g (h ∷ gs) = let later = suc (number_in g gs) in if_eq h g 0 later

-- group k of the DG at d, which has the groups gs and fragments by the words ws: its data was checked and has a size, and its
-- records have bytes
pub record Ready (s : List ℕ) (d k : ℕ) (gs ws : List ℕ) : Type 0 where
  pub listed : k < length gs
  pub plain : is_storage s (get_or gs k 0) ≡ false
  pub checked : records_in s d gs (fragments_of ws) ≡ fine
  pub small : size_of (fragments_of ws) ≤ most64
  pub some : 0 < body_bytes s (get_or gs k 0)

-- its records from a number on, so many, are those of a stretch
pub record StretchOf (s : List ℕ) (d k : ℕ) (gs ws : List ℕ) (t : Stretch) : Type 0 where
  pub few : t.number + t.count ≤ length (group_records s d k gs (fragments_of ws))
  pub are : take t.count (drop t.number (group_records s d k gs (fragments_of ws)))
      ≡ records_at (joined s (fragments_of ws)) (body_bytes s (get_or gs k 0)) (spaced t.first t.stride t.count)
  pub inside : 0 < t.count
      → t.first + (t.count - 1) * t.stride + body_bytes s (get_or gs k 0) ≤ length (joined s (fragments_of ws))
