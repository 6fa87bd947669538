-- Laws of keeping the stretches of all groups of a DG.
use Rattle.std.specs.Prelude.{ℕ, zero, suc, ◌+◌, ◌≤◌, ◌<◌, List, Bool, true, false, Option, Some, ◌≡◌, refl, ◌⊎◌, length, get_or, set, replicate}
use Rattle.std.proofs.Common.{sym, ap, ◌∙◌, inl, inr, arith, length-set, get_or-set_same, get_or-set_other}
use borrow.Rule.Slice.PartMut.{put_mid}
use Rattle.std.proofs.Common.{append_assoc, take, drop}
use Rattle.std.proofs.Math.Seq.{drop-drop}
use Rattle.base.specs.Blit.{blit}
use Rattle.base.specs.BlitLaws.{blit_is}
use Rattle.base.specs.Checked.{fine}
use Rattle.plan.specs.Data.{records_in}
use Rattle.mdf.specs.Walk.{id_size}
use Rattle.mdf.specs.Group.{is_storage}
use Rattle.mdf.specs.Records.{equal_ids, Frame}
use Rattle.work_words.specs.Words.{fragments_of}
use Rattle.records.specs.Table.{size_word, Tabled}
use Rattle.records.specs.FragmentLaws.{eq_or_ne}
use Rattle.places.specs.declared.stretch.Stretch.{Stretch}
use Rattle.places.specs.declared.stretch.Scan.{Scan}
use Rattle.places.specs.Stretch.{number_in}
use Rattle.places.specs.StretchLaws.{stretch_one, number_apart}
use Rattle.places.specs.Pool.{kept_in, entry_at, RightOf, Pooled, KeptIn, KeepsRight}
use Rattle.places.specs.PoolLaws.{entry_words, pooled_put, pooled_more}
use Rattle.places.specs.Longer.{RecordAt, LongerBy}
use Rattle.places.specs.declared.frame.Found.{Found}
use Rattle.places.specs.Facing.{Facing, Faced, FoundAt}
use Rattle.places.specs.FacingLaws.{whole_checked, face_start, Numbered, numbered-start, numbered-other, numbered-own, own_at}
use Rattle.places.specs.Pass.{KeepsAll, KeepsRecord, EndsAt, TakesRecord, Passes}

-- ---- words
-- a part of the words that was written whole
pub laid_words : (a e : ℕ) (ys l : List ℕ) → e ≡ length ys → a + length ys ≤ length l → put_mid a e l ys ≡ blit a ys l
laid_words a e ys l h j =
    let past : drop e (drop a l) ≡ drop (a + e) l = drop-drop e a l in
    rw (past, h, blit_is a ys l j) (sym (append_assoc (take a l) ys (drop (a + length ys) l)))

-- ---- one entry
pub keeps_same : (d g r a : ℕ) (p : List ℕ) → KeepsRecord d g r a p p
keeps_same d g r a p s gs_of ws_of q w = w

-- entry i is made longer
pub keeps_longer : (p : List ℕ) (i d g r a : ℕ) {n : ℕ} {t u : Stretch} {o : Option Stretch} {q : List ℕ} → KeptIn p n → i < n → EndsAt p i d g r t
    → LongerBy t a o → o ≡ Some u → q ≡ blit (entry_at i) (entry_words d g u) p → KeepsRecord d g r a p q
keeps_longer p i d g r a {n} {t} {u} k h e l z v s gs_of ws_of x w =
    let m = k.kept in
    let y = k.room (omega arith) in
    let b : RightOf s gs_of ws_of d g t = rw (e.is, ← e.parent, ← e.group) (w.right i (omega arith)) in
    let f : RecordAt s d (number_in g (gs_of d)) (gs_of d) (ws_of d) (t.number + t.count) a = rw e.ends x in
    rw v (pooled_put i d g u w (omega arith) (l.right u z s d (number_in g (gs_of d)) (gs_of d) (ws_of d) b f))

-- one more begins
pub keeps_begun : (p : List ℕ) (i d g r a : ℕ) {q v : List ℕ} → i ≡ kept_in p → entry_at i + 6 ≤ length p
    → q ≡ blit (entry_at i) (entry_words d g (record { number = r; first = a; stride = 0; count = 1 })) p → v ≡ set q 0 (i + 1)
    → KeepsRecord d g r a p v
keeps_begun p i d g r a e h x y s gs_of ws_of z w =
    rw (y, x) (pooled_more i d g (record { number = r; first = a; stride = 0; count = 1 }) w e h (stretch_one r a 0 _ z.is z.inside))

-- ---- all records
-- what is ahead, and how many records of each group lie before it
pub record Passing (s : List ℕ) (d : ℕ) (gs ws counts : List ℕ) (c : Scan) : Type 0 where
  pub frames : List Frame
  pub facing : Facing s (id_size s d) gs ws c.at c.position c.left c.offset frames
  pub numbered : (j : ℕ) → j < length gs → j < 512 → Numbered s d j gs ws frames (get_or counts j 0)

abbrev pub PassingOn : List ℕ → ℕ → ℕ → List ℕ → List ℕ → List ℕ → List ℕ → List ℕ → List ℕ → List ℕ → Scan → Type 0
PassingOn s d n gs ws ids sizes p₀ p counts c =
    (gs_of ws_of : ℕ → List ℕ) → gs_of d ≡ gs → ws_of d ≡ ws → records_in s d gs (fragments_of ws) ≡ fine → n ≡ id_size s d → 1 < length gs
    → Tabled s gs ids sizes → Pooled s gs_of ws_of p₀ → Pooled s gs_of ws_of p × Passing s d gs ws counts c

pub not_storage : (s : List ℕ) (g : ℕ) → (size_word s g ≡ 0 → ⊥) → is_storage s g ≡ false
unfolding size_word
not_storage s g h = go (is_storage s g) refl
  where
    go : (b : Bool) → is_storage s g ≡ b → is_storage s g ≡ false
    go false e = e
    go true e = absurd (h (rw e))

pub zeros-at : (n j : ℕ) → ◌≡◌ {A = ℕ} (get_or (replicate n 0) j 0) 0
zeros-at zero j = refl
zeros-at (suc n) zero = refl
zeros-at (suc n) (suc j) = zeros-at n j

module _ (s : List ℕ) (d n : ℕ) (gs ws ids sizes p₀ : List ℕ) where
  several_of : 1 < length gs → length gs ≡ 1 → ⊥
  several_of h e = omega arith

  pub passing_begin : (m : ℕ) → PassingOn s d n gs ws ids sizes p₀ p₀ (replicate m 0) (record { at = 0; position = 0; left = 0; offset = 0; number = 0 })
  passing_begin m gs_of ws_of a b v i h tb w =
      let t = whole_checked s d gs ws (several_of h) (omega arith) v in (
        w,
        record {
          frames = t.frames;
          facing = face_start s d gs ws t;
          numbered = λ j l k. rw (zeros-at m j) (numbered-start s d j gs ws (several_of h) t (omega arith));
        },
      )

  pub passing_done : {p counts : List ℕ} {c : Scan} → PassingOn s d n gs ws ids sizes p₀ p counts c → Passes s d n gs ws ids sizes p₀ p
  passing_done g gs_of ws_of a b v i h tb w = (g gs_of ws_of a b v i h tb w).0

  module _ {p counts : List ℕ} {c : Scan} (g : PassingOn s d n gs ws ids sizes p₀ p counts c) {o : Option Found} (f : FoundAt s n gs ws ids sizes c o)
      {x : Found} (q : o ≡ Some x) {p' : List ℕ} (k : TakesRecord d gs sizes x.group x.place counts p p') where
    faced : n ≡ id_size s d → records_in s d gs (fragments_of ws) ≡ fine → 1 < length gs → Tabled s gs ids sizes → (u : Passing s d gs ws counts c)
        → Faced s (id_size s d) gs ws u.frames x.group x.place x.past.at x.past.position x.past.left x.past.offset
    faced i v h tb u =
        let w = whole_checked s d gs ws (several_of h) (omega arith) v in
        let z = w.id in
        (f.right d i (omega (arith, z, i)) tb w.bytes u.frames u.facing).1 x q

    record_here : n ≡ id_size s d → records_in s d gs (fragments_of ws) ≡ fine → 1 < length gs → Tabled s gs ids sizes → Passing s d gs ws counts c
        → (gs_of ws_of : ℕ → List ℕ)
        → gs_of d ≡ gs → ws_of d ≡ ws → x.group < 512 → (get_or sizes x.group 0 ≡ 0 → ⊥)
        → RecordAt s d (number_in (get_or gs x.group 0) (gs_of d)) (gs_of d) (ws_of d) (get_or counts x.group 0) x.place
    record_here i e h tb u gs_of ws_of a b l z =
        let y = faced i e h tb u in
        let r = number_apart s gs x.group tb.apart y.listed in
        let m = not_storage s (get_or gs x.group 0) (λ h. z (tb.size_of x.group y.listed l ∙ h)) in
        let v : RecordAt s d x.group gs ws (get_or counts x.group 0) x.place = own_at (u.numbered x.group y.listed l) y refl m in
        rw (a, b, r) v

    -- it is kept, and those before
    pub passing_out : Passes s d n gs ws ids sizes p₀ p'
    passing_out gs_of ws_of a b v i h tb w =
        let u = g gs_of ws_of a b v i h tb w in k.keeps s gs_of ws_of (record_here i v h tb u.1 gs_of ws_of a b) u.0

    pub passing_counted : {counts' : List ℕ} → length counts ≡ 512 → counts' ≡ set counts x.group (get_or counts x.group 0 + 1)
        → length counts' ≡ 512
    passing_counted h z = ap length z ∙ length-set counts x.group (get_or counts x.group 0 + 1) ∙ h

    pub passing_record : {counts' : List ℕ} → length counts ≡ 512 → counts' ≡ set counts x.group (get_or counts x.group 0 + 1)
        → PassingOn s d n gs ws ids sizes p₀ p' counts' x.past
    passing_record {counts'} l z gs_of ws_of a b v i h tb w =
        let u = g gs_of ws_of a b v i h tb w in
        let t = faced i v h tb u.1 in (
          passing_out gs_of ws_of a b v i h tb w,
          record {
            frames = t.later;
            facing = t.facing;
            numbered = λ r low few. rw z (go u.1 t r low few (eq_or_ne r x.group));
          },
        )
      where
        go : (u : Passing s d gs ws counts c)
            (t : Faced s (id_size s d) gs ws u.frames x.group x.place x.past.at x.past.position x.past.left x.past.offset)
            (r : ℕ) → r < length gs → r < 512 → (r ≡ x.group) ⊎ (r ≡ x.group → ⊥)
            → Numbered s d r gs ws t.later (get_or (set counts x.group (get_or counts x.group 0 + 1)) r 0)
        go u t r low few (inl y) =
            let e : get_or (set counts x.group (get_or counts x.group 0 + 1)) x.group 0 ≡ get_or counts x.group 0 + 1 =
            get_or-set_same counts x.group (get_or counts x.group 0 + 1) 0 (omega arith) in
            rw (y, e) (rw y at (numbered-own (u.numbered r low few) t (sym y)))
        go u t r low few (inr y) =
            rw (get_or-set_other counts x.group r (get_or counts x.group 0 + 1) 0 y) (numbered-other (u.numbered r low few) t (λ z. y (sym z)))

-- ---- the whole
pub fills_none : (s : List ℕ) (d : ℕ) (gs ws p : List ℕ) → KeepsRight s d gs ws p p
fills_none s d gs ws p gs_of ws_of a b v w = w

module _ (s : List ℕ) (d n : ℕ) (gs ws ids sizes : List ℕ) {p q r : List ℕ} (h : 1 < length gs) (i : n ≡ id_size s d) (k : KeepsAll p q)
    (tb : equal_ids s gs ≡ false → Tabled s gs ids sizes) (f : Passes s d n gs ws ids sizes q r) where
  pub fills_all : KeepsRight s d gs ws p r
  fills_all gs_of ws_of a b v w =
      let t = whole_checked s d gs ws (λ e. omega arith) (omega arith) v in
      f gs_of ws_of a b v i h (tb t.apart) (k s gs_of ws_of w)

pub fills_back : {s : List ℕ} {d : ℕ} {gs ws p q r : List ℕ} → KeepsRight s d gs ws p q → KeepsAll q r → KeepsRight s d gs ws p r
fills_back {s} f k gs_of ws_of a b v w = k s gs_of ws_of (f gs_of ws_of a b v w)

pub fills_kept : (s : List ℕ) (d : ℕ) (gs ws : List ℕ) {p q : List ℕ} → KeepsAll p q → KeepsRight s d gs ws p q
fills_kept s d gs ws k gs_of ws_of a b v w = k s gs_of ws_of w
