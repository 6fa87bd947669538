-- Bookkeeping: how words are shared out to the groups of a DG, and the offsets that were noted there.
use Rattle.std.specs.Prelude.{ℕ, ◌+◌, ◌≤◌, ◌<◌, List, ◌≡◌, length, get_or, set}
use Rattle.base.specs.Checked.{fine}
use Rattle.plan.specs.Data.{records_in}
use Rattle.mdf.specs.Walk.{id_size}
use Rattle.work_words.specs.Words.{fragments_of}
use Rattle.records.specs.Table.{Tabled}
use Rattle.places.specs.Longer.{OffsetsIn}
use Rattle.offsets.specs.Offsets.{entry_at, Entry}

-- the first n parts, up to a word: part j begins at word j of bs and ends where part j + 1 begins
pub record Ordered (bs : List ℕ) (end n : ℕ) : Type 0 where
  pub order : (i j : ℕ) → i ≤ j → j ≤ n → get_or bs i 0 ≤ get_or bs j 0
  pub last : get_or bs n 0 ≤ end

-- only groups with a size have words
abbrev pub Plain : List ℕ → List ℕ → ℕ → Type 0
Plain sizes bs n = (j : ℕ) → j < n → get_or bs j 0 < get_or bs (j + 1) 0 → get_or sizes j 0 ≡ 0 → ⊥

pub record Parts (sizes bs : List ℕ) (begin end n : ℕ) : Type 0 where
  pub first : get_or bs 0 0 ≡ begin
  pub ordered : Ordered bs end n
  pub plain : Plain sizes bs n

-- as many as were noted stand in their parts
abbrev pub Fits : List ℕ → List ℕ → Type 0
Fits bs counts = (j : ℕ) → j < 512 → get_or bs j 0 + get_or counts j 0 ≤ get_or bs (j + 1) 0

pub record Zeros (counts : List ℕ) : Type 0 where
  pub words : length counts ≡ 512
  pub zero : (j : ℕ) → get_or counts j 0 ≡ 0

-- the words before a are the same
abbrev pub SameTo : ℕ → List ℕ → List ℕ → Type 0
SameTo a p q = (i : ℕ) → i < a → get_or q i 0 ≡ get_or p i 0

-- the next record of group j lies at a: noted in its part if there is room, else nothing is done
pub record NotesRecord (bs : List ℕ) (j a : ℕ) (counts p counts' q : List ℕ) : Type 0 where
  pub room : j < 512 → get_or bs j 0 + get_or counts j 0 < get_or bs (j + 1) 0
      → (counts' ≡ set counts j (get_or counts j 0 + 1)) × (q ≡ set p (get_or bs j 0 + get_or counts j 0) a)
  pub full : (j < 512 → get_or bs (j + 1) 0 ≤ get_or bs j 0 + get_or counts j 0) → (counts' ≡ counts) × (q ≡ p)

-- what was noted of each group are its offsets
abbrev pub Noted : List ℕ → ℕ → List ℕ → List ℕ → List ℕ → List ℕ → List ℕ → Type 0
Noted s d gs ws bs counts q = (j : ℕ) → j < length gs → j < 512 → OffsetsIn s d j gs ws q (get_or bs j 0) (get_or counts j 0)

-- the promise of noting all records, by tables of the groups; ids have n bytes
pub record Passes (s : List ℕ) (n : ℕ) (gs ws ids sizes bs p counts q : List ℕ) : Type 0 where
  pub same : SameTo (get_or bs 0 0) p q
  pub fits : Fits bs counts
  pub noted : (d : ℕ) → records_in s d gs (fragments_of ws) ≡ fine → n ≡ id_size s d → 1 < length gs → Tabled s gs ids sizes
      → Plain sizes bs 512 → Noted s d gs ws bs counts q

-- the same of the DG at d with words from begin on, if they were shared out
pub record Frames (s : List ℕ) (d : ℕ) (gs ws : List ℕ) (begin : ℕ) (p bs counts q : List ℕ) : Type 0 where
  pub first : get_or bs 0 0 ≡ begin
  pub ordered : Ordered bs (length p) 512
  pub same : SameTo begin p q
  pub fits : Fits bs counts
  pub noted : records_in s d gs (fragments_of ws) ≡ fine → Noted s d gs ws bs counts q

-- entry i is put, and no other word changes
pub record PutsEntry (p q : List ℕ) (i d g a n : ℕ) : Type 0 where
  pub put : Entry q i d g a n
  pub before : SameTo (entry_at i) p q
  pub after : (k : ℕ) → entry_at i + 4 ≤ k → get_or q k 0 ≡ get_or p k 0

-- those of the first n groups are put, from entry i on
pub record PutsEntries (p q : List ℕ) (i d : ℕ) (gs bs counts : List ℕ) (n : ℕ) : Type 0 where
  pub put : (j : ℕ) → j < n → Entry q (i + j) d (get_or gs j 0) (get_or bs j 0) (get_or counts j 0)
  pub before : SameTo (entry_at i) p q
  pub after : (k : ℕ) → entry_at (i + n) ≤ k → get_or q k 0 ≡ get_or p k 0
