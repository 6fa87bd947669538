-- Bookkeeping: the offsets of all records of groups, of any DG, kept in lent words: how many groups, up to where words are used, four
-- words for each group, and from word 2,056 on the offsets.
use Rattle.std.specs.Prelude.{ℕ, ◌+◌, ◌*◌, ◌≤◌, ◌<◌, List, ◌≡◌, length, get_or}
use Rattle.base.specs.Checked.{fine}
use Rattle.plan.specs.Data.{records_in}
use Rattle.work_words.specs.Words.{fragments_of}
use Rattle.places.specs.Stretch.{number_in}
use Rattle.places.specs.Longer.{OffsetsIn}
use Rattle.places.specs.Pool.{KeptBy}
use Rattle.offsets.specs.declared.kept.Offsets.{Offsets}

-- how many groups are kept
abbrev pub entries_in : List ℕ → ℕ
entries_in p = get_or p 0 0

-- up to where words are used
abbrev pub used_in : List ℕ → ℕ
used_in p = get_or p 1 0

-- where the words of entry i begin
abbrev pub entry_at : ℕ → ℕ
entry_at i = 8 + 4 * i

-- entry i: the group at g of the DG at d has n offsets, from word a on
pub record Entry (p : List ℕ) (i d g a n : ℕ) : Type 0 where
  pub parent : get_or p (entry_at i) 0 ≡ d
  pub group : get_or p (entry_at i + 1) 0 ≡ g
  pub first : get_or p (entry_at i + 2) 0 ≡ a
  pub count : get_or p (entry_at i + 3) 0 ≡ n

-- n words from a on are offsets of the group at g of the DG at d; gs_of and ws_of give a DG's groups and the words of its fragments
abbrev pub OffsetsOf : List ℕ → (ℕ → List ℕ) → (ℕ → List ℕ) → ℕ → ℕ → List ℕ → ℕ → ℕ → Type 0
OffsetsOf s gs_of ws_of d g p a n = OffsetsIn s d (number_in g (gs_of d)) (gs_of d) (ws_of d) p a n

-- all that are kept are right, and stand past the entries and before what is used next
pub record Kept (s : List ℕ) (gs_of ws_of : ℕ → List ℕ) (p : List ℕ) : Type 0 where
  pub right : (i d g a n : ℕ) → i < entries_in p → Entry p i d g a n → OffsetsOf s gs_of ws_of d g p a n
  pub inside : (i d g a n : ℕ) → i < entries_in p → Entry p i d g a n → (2056 ≤ a) × (a + n ≤ used_in p)

-- so many of them, whose words all stand there
abbrev pub EntriesIn : List ℕ → ℕ → Type 0
EntriesIn p n = KeptBy 4 p n

-- the promise of seeking those of a group: they stand there, and are right
pub record OffsetsFor (p : List ℕ) (d g : ℕ) (o : Offsets) : Type 0 where
  pub inside : o.first + o.count ≤ length p
  pub right : (s : List ℕ) (gs_of ws_of : ℕ → List ℕ) → Kept s gs_of ws_of p → OffsetsOf s gs_of ws_of d g p o.first o.count

-- the same of entry i, if it is the group's
pub record EntryFor (p : List ℕ) (i d g : ℕ) (o : Offsets) : Type 0 where
  pub inside : o.first + o.count ≤ length p
  pub is : Entry p i d g o.first o.count

-- the promise of forgetting them
abbrev pub KeepsNone : List ℕ → Type 0
KeepsNone q = (s : List ℕ) (gs_of ws_of : ℕ → List ℕ) → Kept s gs_of ws_of q

-- the promise of keeping those of the DG at d, which has the groups gs and fragments by the words ws
abbrev pub KeepsOffsets : List ℕ → ℕ → List ℕ → List ℕ → List ℕ → List ℕ → Type 0
KeepsOffsets s d gs ws p q =
    (gs_of ws_of : ℕ → List ℕ) → gs_of d ≡ gs → ws_of d ≡ ws → records_in s d gs (fragments_of ws) ≡ fine → Kept s gs_of ws_of p → Kept s gs_of ws_of q
