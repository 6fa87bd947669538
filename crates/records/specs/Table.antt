-- Tables of a DG's groups for framing: the id and the size of records, a word each, in the order of the groups.
use Rattle.std.specs.Prelude.{ℕ, ◌+◌, ◌≤◌, ◌<◌, List, [], ◌∷◌, ◌≡◌, false, length, get_or, Option, Some}
use Rattle.base.specs.Choice.{pick}
use Rattle.base.specs.Field.{le_at}
use Rattle.mdf.specs.Group.{record_id, samples, inval_bytes, is_storage}
use Rattle.mdf.specs.Records.{most64, equal_ids}

-- a word for each group
unfoldable pub each : (ℕ → ℕ) → List ℕ → List ℕ
each f [] = []
each f (g ∷ gs) = f g ∷ each f gs

abbrev pub ids_of : List ℕ → List ℕ → List ℕ
ids_of s gs = each (record_id s) gs

-- 0 for VLSD storage, whose records tell their length, else one more than "samples + invalidation bytes"
unfoldable pub size_word : List ℕ → ℕ → ℕ
size_word s g = pick (is_storage s g) 0 (samples s g + inval_bytes s g + 1)

abbrev pub sizes_of : List ℕ → List ℕ → List ℕ
sizes_of s gs = each (size_word s) gs

-- the tables are those of these groups, as far as they have words, and no two groups have the same id
pub record Tabled (s gs ids sizes : List ℕ) : Type 0 where
  pub apart : equal_ids s gs ≡ false
  pub id_of : (j : ℕ) → j < length gs → j < 512 → get_or ids j 0 ≡ record_id s (get_or gs j 0)
  pub size_of : (j : ℕ) → j < length gs → j < 512 → get_or sizes j 0 ≡ size_word s (get_or gs j 0)

-- group g has the id in its table
pub record Guessed (ids : List ℕ) (id g : ℕ) : Type 0 where
  pub within : g < 512
  pub has : get_or ids g 0 ≡ id

-- a number is the id of n bytes at p, which lies in the bytes left
pub record IdHere (s : List ℕ) (p left n x : ℕ) : Type 0 where
  pub fits : n ≤ left
  pub is : x ≡ le_at n s p
  pub small : x ≤ most64

abbrev pub IdAt : List ℕ → ℕ → ℕ → ℕ → Option ℕ → Type 0
IdAt s p left n r = (x : ℕ) → r ≡ Some x → IdHere s p left n x

-- a number is that of a record's bytes past its id, which lie in the bytes left from p on; size is its group's word
pub record BodyHere (s : List ℕ) (p left size m : ℕ) : Type 0 where
  pub fits : m ≤ left
  pub plain : 0 < size → m + 1 ≡ size
  pub stored : size ≡ 0 → m ≡ 4 + le_at 4 s p

abbrev pub BodyIn : List ℕ → ℕ → ℕ → ℕ → Option ℕ → Type 0
BodyIn s p left size r = (m : ℕ) → r ≡ Some m → BodyHere s p left size m
