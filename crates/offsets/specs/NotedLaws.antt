-- Laws of noting the records of a DG, each in its group's part.
use Rattle.std.specs.Prelude.{ℕ, ◌+◌, ◌≤◌, ◌<◌, List, Option, Some, ◌≡◌, refl, ◌⊎◌, length, get_or, set, replicate}
use Rattle.std.proofs.Common.{sym, ◌∙◌, inl, inr, ⊎_elim, arith, length-set, get_or-set_same, get_or-set_other}
use Rattle.std.proofs.lemmas.List.{length-replicate}
use Rattle.base.specs.Checked.{fine}
use Rattle.plan.specs.Data.{records_in}
use Rattle.mdf.specs.Walk.{id_size}
use Rattle.mdf.specs.Records.{Frame}
use Rattle.work_words.specs.Words.{fragments_of}
use Rattle.records.specs.Table.{Tabled}
use Rattle.records.specs.FragmentLaws.{lt_or_le, eq_or_ne}
use Rattle.places.specs.declared.stretch.Scan.{Scan}
use Rattle.places.specs.declared.frame.Found.{Found}
use Rattle.places.specs.Longer.{RecordAt, OffsetsIn}
use Rattle.places.specs.Facing.{Facing, Faced, FoundAt}
use Rattle.places.specs.FacingLaws.{whole_checked, face_start, Numbered, numbered-start, numbered-other, numbered-own, own_at}
use Rattle.places.specs.PassLaws.{not_storage, zeros-at}
use Rattle.offsets.specs.OffsetsLaws.{offsets_same}
use Rattle.offsets.specs.PartsLaws.{part_in}
use Rattle.offsets.specs.Parts.{Ordered, Plain, Fits, Zeros, SameTo, NotesRecord, Noted, Passes}

-- ---- one record
-- one more of group j
abbrev up : List ℕ → ℕ → List ℕ
up counts j = set counts j (get_or counts j 0 + 1)

-- the word for it
abbrev next : List ℕ → List ℕ → ℕ → ℕ
next bs counts j = get_or bs j 0 + get_or counts j 0

module _ (bs counts p : List ℕ) (j a : ℕ) (o : Ordered bs (length p) 512) (l : j < 512) (r : next bs counts j < get_or bs (j + 1) 0)
    (len : length counts ≡ 512) (fits : Fits bs counts) where
  count_own : get_or (up counts j) j 0 ≡ get_or counts j 0 + 1
  count_own = get_or-set_same counts j (get_or counts j 0 + 1) 0 (omega arith)

  count_other : (k : ℕ) → (k ≡ j → ⊥) → get_or (up counts j) k 0 ≡ get_or counts k 0
  count_other k n = get_or-set_other counts j k (get_or counts j 0 + 1) 0 n

  below_end : next bs counts j < length p
  below_end = let x = part_in o j l in omega arith

  word-own : get_or (set p (next bs counts j) a) (next bs counts j) 0 ≡ a
  word-own = get_or-set_same p (next bs counts j) a 0 below_end

  word-other : (i : ℕ) → (i ≡ next bs counts j → ⊥) → get_or (set p (next bs counts j) a) i 0 ≡ get_or p i 0
  word-other i n = get_or-set_other p (next bs counts j) i a 0 n

  same_up : SameTo (get_or bs 0 0) p (set p (next bs counts j) a)
  same_up i h = let x = o.order 0 j (omega arith) (omega arith) in word-other i (λ e. omega arith)

  fits-up : Fits bs (up counts j)
  fits-up k h = go (eq_or_ne k j)
    where
      go : (k ≡ j) ⊎ (k ≡ j → ⊥) → get_or bs k 0 + get_or (up counts j) k 0 ≤ get_or bs (k + 1) 0
      go (inl e) = rw (e, count_own) (omega arith)
      go (inr n) = rw (count_other k n) (fits k h)

  module _ {s : List ℕ} {d : ℕ} {gs ws : List ℕ} where
    noted_own : RecordAt s d j gs ws (get_or counts j 0) a → OffsetsIn s d j gs ws p (get_or bs j 0) (get_or counts j 0)
        → OffsetsIn s d j gs ws (set p (next bs counts j) a) (get_or bs j 0) (get_or counts j 0 + 1)
    noted_own x w = record { right = λ i h. go i (lt_or_le i (get_or counts j 0)) h }
      where
        go : (i : ℕ) → (i < get_or counts j 0) ⊎ (get_or counts j 0 ≤ i) → i < get_or counts j 0 + 1
            → RecordAt s d j gs ws i (get_or (set p (next bs counts j) a) (get_or bs j 0 + i) 0)
        go i (inl m) h = rw (word-other (get_or bs j 0 + i) (λ e. omega arith)) (w.right i m)
        go i (inr m) h = let y : i ≡ get_or counts j 0 = omega arith in rw (y, word-own) x

    -- parts lie apart
    noted_other : (k : ℕ) → k < 512 → (k ≡ j → ⊥) → OffsetsIn s d k gs ws p (get_or bs k 0) (get_or counts k 0)
        → OffsetsIn s d k gs ws (set p (next bs counts j) a) (get_or bs k 0) (get_or counts k 0)
    noted_other k h n w = offsets_same (λ i m. word-other (get_or bs k 0 + i) (λ e. away i m e (lt_or_le k j))) w
      where
        away : (i : ℕ) → i < get_or counts k 0 → get_or bs k 0 + i ≡ next bs counts j → (k < j) ⊎ (j ≤ k) → ⊥
        away i m e (inl z) =
            let x = o.order (k + 1) j (omega arith) (omega arith) in
            let y = fits k h in
            omega arith
        away i m e (inr z) = ⊎_elim (λ c. let x = o.order (j + 1) k (omega arith) (omega arith) in omega arith) (λ c. n (omega arith)) (lt_or_le j k)

    noted_up : (j < length gs → RecordAt s d j gs ws (get_or counts j 0) a) → Noted s d gs ws bs counts p
        → Noted s d gs ws bs (up counts j) (set p (next bs counts j) a)
    noted_up x w k low h = go (eq_or_ne k j)
      where
        go : (k ≡ j) ⊎ (k ≡ j → ⊥) → OffsetsIn s d k gs ws (set p (next bs counts j) a) (get_or bs k 0) (get_or (up counts j) k 0)
        go (inl e) = rw (e, count_own) (noted_own (x (rw e at low)) (rw e at (w k low h)))
        go (inr n) = rw (count_other k n) (noted_other k h n (w k low h))

-- ---- all records
-- what is ahead, how many records of each group that has room lie before it, and the offsets that were noted
pub record Noting (s : List ℕ) (d : ℕ) (gs ws bs counts p : List ℕ) (c : Scan) : Type 0 where
  pub frames : List Frame
  pub facing : Facing s (id_size s d) gs ws c.at c.position c.left c.offset frames
  pub numbered : (j : ℕ) → j < length gs → j < 512 → next bs counts j < get_or bs (j + 1) 0 → Numbered s d j gs ws frames (get_or counts j 0)
  pub noted : Noted s d gs ws bs counts p

-- the words p have what was noted over p₀ before the place c; ids have n bytes
pub record Going (s : List ℕ) (n : ℕ) (gs ws ids sizes bs p₀ counts p : List ℕ) (c : Scan) : Type 0 where
  pub size : length p ≡ length p₀
  pub groups : length counts ≡ 512
  pub same : SameTo (get_or bs 0 0) p₀ p
  pub fits : Fits bs counts
  pub on : (d : ℕ) → records_in s d gs (fragments_of ws) ≡ fine → n ≡ id_size s d → 1 < length gs → Tabled s gs ids sizes → Plain sizes bs 512
      → Noting s d gs ws bs counts p c

pub zeros-all : (n : ℕ) → n ≡ 512 → Zeros (replicate n 0)
zeros-all n h = record { words = length-replicate n 0 ∙ h; zero = zeros-at n }

pub several_of : (gs : List ℕ) → 1 < length gs → length gs ≡ 1 → ⊥
several_of gs h e = omega arith

module _ (s : List ℕ) (n : ℕ) (gs ws ids sizes bs p₀ : List ℕ) (o : Ordered bs (length p₀) 512) where
  pub going_begin : {counts : List ℕ} → Zeros counts
      → Going s n gs ws ids sizes bs p₀ counts p₀ (record { at = 0; position = 0; left = 0; offset = 0; number = 0 })
  going_begin z = record {
    size = refl;
    groups = z.words;
    same = λ i h. refl;
    fits = λ j h. rw (z.zero j) (let x = part_in o j h in omega arith);
    on = λ d v i h tb q.
        let t = whole_checked s d gs ws (several_of gs h) (omega arith) v in
        record {
          frames = t.frames;
          facing = face_start s d gs ws t;
          numbered = λ j low few r. rw (z.zero j) (numbered-start s d j gs ws (several_of gs h) t (omega arith));
          noted = λ j low few. record { right = λ r l. absurd (let e = z.zero j in omega arith) };
        };
  }

  pub going_done : {counts p : List ℕ} {c : Scan} → Going s n gs ws ids sizes bs p₀ counts p c → Passes s n gs ws ids sizes bs p₀ counts p
  going_done t = record { same = t.same; fits = t.fits; noted = λ d v i h tb q. (t.on d v i h tb q).noted }

  module _ {counts p : List ℕ} {c : Scan} (t : Going s n gs ws ids sizes bs p₀ counts p c) {v : Option Found} (f : FoundAt s n gs ws ids sizes c v)
      {x : Found} (q : v ≡ Some x) where
    faced : {d : ℕ} → n ≡ id_size s d → records_in s d gs (fragments_of ws) ≡ fine → 1 < length gs → Tabled s gs ids sizes
        → (u : Noting s d gs ws bs counts p c)
        → Faced s (id_size s d) gs ws u.frames x.group x.place x.past.at x.past.position x.past.left x.past.offset
    faced {d} i v h tb u =
        let w = whole_checked s d gs ws (several_of gs h) (omega arith) v in
        let z = w.id in
        (f.right d i (omega (arith, z, i)) tb w.bytes u.frames u.facing).1 x q

    -- it has no room
    going_full : (x.group < 512 → get_or bs (x.group + 1) 0 ≤ next bs counts x.group) → Going s n gs ws ids sizes bs p₀ counts p x.past
    going_full not = record {
      size = t.size;
      groups = t.groups;
      same = t.same;
      fits = t.fits;
      on = λ d v i h tb pl.
          let u = t.on d v i h tb pl in
          let y = faced i v h tb u in
          record {
            frames = y.later;
            facing = y.facing;
            numbered = λ k low few r. numbered-other (u.numbered k low few r) y
                (λ e. let z : get_or bs (k + 1) 0 ≤ next bs counts k = rw e at (not (omega arith)) in omega arith);
            noted = u.noted;
          };
    }

    -- it has
    module _ (l : x.group < 512) (r : next bs counts x.group < get_or bs (x.group + 1) 0) where
      ordered : Ordered bs (length p) 512
      ordered = rw t.size o

      record_here : {d : ℕ} → Tabled s gs ids sizes → Plain sizes bs 512 → (u : Noting s d gs ws bs counts p c)
          → Faced s (id_size s d) gs ws u.frames x.group x.place x.past.at x.past.position x.past.left x.past.offset
          → RecordAt s d x.group gs ws (get_or counts x.group 0) x.place
      record_here tb pl u y =
          let m = not_storage s (get_or gs x.group 0) (λ h. pl x.group l (omega arith) (tb.size_of x.group y.listed l ∙ h)) in
          own_at (u.numbered x.group y.listed l r) y refl m

      numbered-up : {d : ℕ} (u : Noting s d gs ws bs counts p c)
          (y : Faced s (id_size s d) gs ws u.frames x.group x.place x.past.at x.past.position x.past.left x.past.offset)
          (k : ℕ) → k < length gs → k < 512 → next bs (up counts x.group) k < get_or bs (k + 1) 0
          → Numbered s d k gs ws y.later (get_or (up counts x.group) k 0)
      numbered-up {d} u y k low few z = go (eq_or_ne k x.group)
        where
          go : (k ≡ x.group) ⊎ (k ≡ x.group → ⊥) → Numbered s d k gs ws y.later (get_or (up counts x.group) k 0)
          go (inl e) =
              let w = count_own bs counts p x.group x.place ordered l r t.groups t.fits in
              rw (e, w) (numbered-own (u.numbered x.group y.listed l r) y refl)
          go (inr e) =
              let w = count_other bs counts p x.group x.place ordered l r t.groups t.fits k e in
              rw w (numbered-other (u.numbered k low few (rw w at z)) y (λ m. e (sym m)))

      going_room : Going s n gs ws ids sizes bs p₀ (up counts x.group) (set p (next bs counts x.group) x.place) x.past
      going_room = record {
        size = length-set p (next bs counts x.group) x.place ∙ t.size;
        groups = length-set counts x.group (get_or counts x.group 0 + 1) ∙ t.groups;
        same = λ i h. same_up bs counts p x.group x.place ordered l r t.groups t.fits i h ∙ t.same i h;
        fits = fits-up bs counts p x.group x.place ordered l r t.groups t.fits;
        on = λ d v i h tb pl.
            let u = t.on d v i h tb pl in
            let y = faced i v h tb u in
            record {
              frames = y.later;
              facing = y.facing;
              numbered = numbered-up u y;
              noted = noted_up bs counts p x.group x.place ordered l r t.groups t.fits (λ _. record_here tb pl u y) u.noted;
            };
      }

    pub going_record : {counts' p' : List ℕ} → NotesRecord bs x.group x.place counts p counts' p'
        → Going s n gs ws ids sizes bs p₀ counts' p' x.past
    going_record {counts'} {p'} k = go (lt_or_le x.group 512)
      where
        full : (x.group < 512 → get_or bs (x.group + 1) 0 ≤ next bs counts x.group) → Going s n gs ws ids sizes bs p₀ counts' p' x.past
        full h = let e = k.full h in rw (e.0, e.1) (going_full h)

        go : (x.group < 512) ⊎ (512 ≤ x.group) → Going s n gs ws ids sizes bs p₀ counts' p' x.past
        go (inr l) = full (λ h. absurd (omega arith))
        go (inl l) =
            ⊎_elim (λ r. let e = k.room l r in rw (e.0, e.1) (going_room l r)) (λ r. full (λ _. r))
            (lt_or_le (next bs counts x.group) (get_or bs (x.group + 1) 0))
