-- Bookkeeping: what keeping stretches of a DG's groups, found in one framing of its data, leaves right.
use Rattle.std.specs.Prelude.{ℕ, ◌+◌, ◌<◌, List, ◌≡◌, length, get_or}
use Rattle.base.specs.Checked.{fine}
use Rattle.plan.specs.Data.{records_in}
use Rattle.mdf.specs.Walk.{id_size}
use Rattle.work_words.specs.Words.{fragments_of}
use Rattle.records.specs.Table.{Tabled}
use Rattle.places.specs.declared.stretch.Stretch.{Stretch}
use Rattle.places.specs.Stretch.{number_in}
use Rattle.places.specs.Pool.{entry_at, stretch_in, Pooled}
use Rattle.places.specs.Longer.{RecordAt}

-- all that was right is right
abbrev pub KeepsAll : List ℕ → List ℕ → Type 0
KeepsAll p q = (s : List ℕ) (gs_of ws_of : ℕ → List ℕ) → Pooled s gs_of ws_of p → Pooled s gs_of ws_of q

-- the same where record r of the group at g of the DG at d lies at a
abbrev pub KeepsRecord : ℕ → ℕ → ℕ → ℕ → List ℕ → List ℕ → Type 0
KeepsRecord d g r a p q =
    (s : List ℕ) (gs_of ws_of : ℕ → List ℕ) → RecordAt s d (number_in g (gs_of d)) (gs_of d) (ws_of d) r a → Pooled s gs_of ws_of p
    → Pooled s gs_of ws_of q

-- the stretch of entry i, which is the group's and has records, the last of them before record r
pub record EndsAt (p : List ℕ) (i d g r : ℕ) (t : Stretch) : Type 0 where
  pub some : 0 < t.count
  pub parent : get_or p (entry_at i) 0 ≡ d
  pub group : get_or p (entry_at i + 1) 0 ≡ g
  pub is : t ≡ stretch_in p i
  pub ends : t.number + t.count ≡ r

-- the next record of group j, by the counts of the groups, lies at a; records of a group with the size 0 aren't kept
pub record TakesRecord (d : ℕ) (gs sizes : List ℕ) (j a : ℕ) (counts p q : List ℕ) : Type 0 where
  pub keeps : (s : List ℕ) (gs_of ws_of : ℕ → List ℕ)
      → (j < 512 → (get_or sizes j 0 ≡ 0 → ⊥)
      → RecordAt s d (number_in (get_or gs j 0) (gs_of d)) (gs_of d) (ws_of d) (get_or counts j 0) a)
      → Pooled s gs_of ws_of p → Pooled s gs_of ws_of q

-- the same of all records of the DG at d, which has the groups gs and fragments by the words ws; ids have n bytes
abbrev pub Passes : List ℕ → ℕ → ℕ → List ℕ → List ℕ → List ℕ → List ℕ → List ℕ → List ℕ → Type 0
Passes s d n gs ws ids sizes p q =
    (gs_of ws_of : ℕ → List ℕ) → gs_of d ≡ gs → ws_of d ≡ ws → records_in s d gs (fragments_of ws) ≡ fine → n ≡ id_size s d → 1 < length gs
    → Tabled s gs ids sizes → Pooled s gs_of ws_of p → Pooled s gs_of ws_of q
