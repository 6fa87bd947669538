-- Bookkeeping: stretches kept in lent words, of groups of any DG: how many, and six words each: the DG, the CG, the stretch.
use Rattle.std.specs.Prelude.{ℕ, ◌+◌, ◌-◌, ◌*◌, ◌/◌, ◌≤◌, ◌<◌, min, List, ◌≡◌, length, get_or}
use Rattle.base.specs.Checked.{fine}
use Rattle.plan.specs.Data.{records_in}
use Rattle.work_words.specs.Words.{fragments_of}
use Rattle.places.specs.declared.stretch.Stretch.{Stretch}
use Rattle.places.specs.declared.pool.Held.{Held}
use Rattle.places.specs.Stretch.{number_in, StretchOf}

-- how many are kept
abbrev pub kept_in : List ℕ → ℕ
kept_in p = get_or p 0 0

-- where the words of number i begin
abbrev pub entry_at : ℕ → ℕ
entry_at i = 8 + 6 * i

abbrev pub stretch_in : List ℕ → ℕ → Stretch
stretch_in p i =
    record {
      number = get_or p (entry_at i + 2) 0;
      first = get_or p (entry_at i + 3) 0;
      stride = get_or p (entry_at i + 4) 0;
      count = get_or p (entry_at i + 5) 0;
    }

-- a stretch is one of the group at g of the DG at d; gs_of and ws_of give a DG's groups and the words of its fragments
abbrev pub RightOf : List ℕ → (ℕ → List ℕ) → (ℕ → List ℕ) → ℕ → ℕ → Stretch → Type 0
RightOf s gs_of ws_of d g t = StretchOf s d (number_in g (gs_of d)) (gs_of d) (ws_of d) t

-- all that are kept are right
pub record Pooled (s : List ℕ) (gs_of ws_of : ℕ → List ℕ) (p : List ℕ) : Type 0 where
  pub right : (i : ℕ) → i < kept_in p → RightOf s gs_of ws_of (get_or p (entry_at i) 0) (get_or p (entry_at i + 1) 0) (stretch_in p i)

-- as many of them, of so many words each, as have room past the first 8; of no words none, since a number by 0 is 0
abbrev pub kept_by : ℕ → List ℕ → ℕ
kept_by words p = min (kept_in p) ((length p - 8) / words)

-- so many of them, of so many words each, whose words all stand there
pub record KeptBy (words : ℕ) (p : List ℕ) (n : ℕ) : Type 0 where
  pub kept : n ≤ kept_in p
  pub room : 0 < n → 8 + words * n ≤ length p

-- the same of stretches, of six words each
abbrev pub KeptIn : List ℕ → ℕ → Type 0
KeptIn p n = KeptBy 6 p n

-- the stretch of entry i, which is the group's
pub record EntryIn (p : List ℕ) (i d g : ℕ) (t : Stretch) : Type 0 where
  pub parent : get_or p (entry_at i) 0 ≡ d
  pub group : get_or p (entry_at i + 1) 0 ≡ g
  pub is : t ≡ stretch_in p i

-- the same, and it has record r
pub record EntryFor (p : List ℕ) (i d g r : ℕ) (t : Stretch) : Type 0 where
  pub parent : get_or p (entry_at i) 0 ≡ d
  pub group : get_or p (entry_at i + 1) 0 ≡ g
  pub is : t ≡ stretch_in p i
  pub has : (t.number ≤ r) × (r < t.number + t.count)

-- what was found for record r of the group: nothing, or a stretch that has it
pub record HeldFor (s : List ℕ) (gs_of ws_of : ℕ → List ℕ) (d g r : ℕ) (h : Held) : Type 0 where
  pub right : 0 < h.stretch.count → RightOf s gs_of ws_of d g h.stretch
  pub has : 0 < h.stretch.count → (h.stretch.number ≤ r) × (r < h.stretch.number + h.stretch.count)

-- the promises of seeking one and of keeping those of the DG at d, which has the groups gs and fragments by the words ws
abbrev pub HeldIn : List ℕ → ℕ → ℕ → ℕ → Held → Type 0
HeldIn p d g r h = (s : List ℕ) (gs_of ws_of : ℕ → List ℕ) → Pooled s gs_of ws_of p → HeldFor s gs_of ws_of d g r h

abbrev pub KeepsRight : List ℕ → ℕ → List ℕ → List ℕ → List ℕ → List ℕ → Type 0
KeepsRight s d gs ws p last =
    (gs_of ws_of : ℕ → List ℕ) → gs_of d ≡ gs → ws_of d ≡ ws → records_in s d gs (fragments_of ws) ≡ fine
    → Pooled s gs_of ws_of p → Pooled s gs_of ws_of last
