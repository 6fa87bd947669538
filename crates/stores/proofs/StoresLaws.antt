-- The laws of stores: what byte stands where after the stores before number k, by which a store made again changes nothing and the last one
-- leaves the file made in one go; and each store is one run of 1 to 4,096 bytes of the file.
use Prim.Native.Nat.{ℕ, zero, suc, ◌+◌, ◌*◌, ◌-◌, ◌≤◌, ◌<◌, min, max}
use Rattle.std.specs.Prelude.{List, [], ◌∷◌, ◌≡◌, refl, ◌⊎◌, length, get_or, take, drop, set, replicate}
use Rattle.std.proofs.Math.Path.{sym}
use Rattle.std.proofs.Common.{ap, ◌∙◌, inl, inr, ⊎_elim, length-set, length-take, length-drop, get_or-set_same, get_or-set_other, get_or-take, get_or-drop, ext_get_or, length-take-le, take_all}
use Rattle.std.proofs.Math.Nat.{sub-zero}
use native.Mathlib.Omega.{arith}
use Rattle.std.proofs.Math.ListN.{get_or-replicate}
use borrow.Rule.Slice.PartMut.{put_mid, mid_of}
use Rattle.base.specs.Choice.{if_lt}
use Rattle.base.specs.ChoiceLaws.{lt_yes, lt_no}
use Rattle.base.specs.Blit.{blit, part}
use Rattle.base.specs.BlitLaws.{length-blit}
use Rattle.stores.specs.Cases.{lt_or_le}
use Rattle.stores.specs.Over.{over}
use Rattle.stores.specs.OverLaws.{over-lent}
use Rattle.stores.specs.Stores.{between, pages, steps_of, store_of, stored, stored_to}
use Rattle.stores.specs.StoresLaws.{OneRun}

-- ---- one byte of what is laid over

pub byte_out : (bs : List ℕ) (a i : ℕ) (l : List ℕ) → (i < a) ⊎ (a + length bs ≤ i) → get_or (blit a bs l) i 0 ≡ get_or l i 0
unfolding blit
byte_out [] a i l h = refl
byte_out (b ∷ bs) a i l (inl h) = byte_out bs (suc a) i (set l a b) (inl (omega arith)) ∙ get_or-set_other l a i b 0 (λ e. omega arith)
byte_out (b ∷ bs) a i l (inr h) = byte_out bs (suc a) i (set l a b) (inr (omega arith)) ∙ get_or-set_other l a i b 0 (λ e. omega arith)

byte_at : (bs : List ℕ) (a j : ℕ) (l : List ℕ) → j < length bs → a + j < length l → get_or (blit a bs l) (a + j) 0 ≡ get_or bs j 0
unfolding blit
byte_at [] a j l h k = absurd (omega arith)
byte_at (b ∷ bs) a zero l h k =
    let e : a + zero ≡ a = omega arith in
    rw e (byte_out bs (suc a) a (set l a b) (inl (omega arith)) ∙ get_or-set_same l a b 0 (omega arith))
byte_at (b ∷ bs) a (suc j) l h k =
    let e : a + suc j ≡ suc a + j = omega arith in
    rw e (byte_at bs (suc a) j (set l a b) (omega arith) (rw length-set (omega arith)))

pub byte_in : (bs : List ℕ) (a i : ℕ) (l : List ℕ) → a ≤ i → i < a + length bs → i < length l → get_or (blit a bs l) i 0 ≡ get_or bs (i - a) 0
byte_in bs a i l h g k =
    let e : a + (i - a) ≡ i = omega arith in
    ap (λ (x : ℕ). get_or (blit a bs l) x 0) (sym e) ∙ byte_at bs a (i - a) l (omega arith) (omega arith)

-- ---- the bytes of f from a up to e, laid in their place

abbrev laid : List ℕ → ℕ → ℕ → List ℕ → List ℕ
laid f a e l = blit a (part a (e - a) f) l

length-between : (f : List ℕ) (a e : ℕ) → length (part a (e - a) f) ≡ min (e - a) (length f - a)
unfolding part
length-between f a e = simp (length-take, length-drop)

between-at : (f : List ℕ) (a e i : ℕ) → a ≤ i → i < e → get_or (part a (e - a) f) (i - a) 0 ≡ get_or f i 0
unfolding part
between-at f a e i h g =
    let z : a + (i - a) ≡ i = omega arith in
    get_or-take (e - a) (drop a f) (i - a) 0 (omega arith) ∙ get_or-drop a f (i - a) 0 ∙ ap (λ (x : ℕ). get_or f x 0) z

laid_in : (f : List ℕ) (a e : ℕ) (l : List ℕ) (i : ℕ) → a ≤ i → i < min e (length f) → i < length l → get_or (laid f a e l) i 0 ≡ get_or f i 0
laid_in f a e l i h g m =
    byte_in (part a (e - a) f) a i l h (rw (length-between f a e) (omega arith)) m ∙ between-at f a e i h (omega arith)

laid_out_lem : (f : List ℕ) (a e : ℕ) (l : List ℕ) (i : ℕ) → (i < a) ⊎ (min e (length f) ≤ i) → get_or (laid f a e l) i 0 ≡ get_or l i 0
laid_out_lem f a e l i (inl h) = byte_out (part a (e - a) f) a i l (inl h)
laid_out_lem f a e l i (inr h) = ⊎_elim (λ k. byte_out (part a (e - a) f) a i l (inl k)) past (lt_or_le i a)
  where
    past : a ≤ i → get_or (laid f a e l) i 0 ≡ get_or l i 0
    past k = byte_out (part a (e - a) f) a i l (inr (rw (length-between f a e) (omega arith)))

-- ---- which store is which

-- page k but for the first eight bytes
abbrev from : ℕ → ℕ
from k = max 8 (4096 * k)

abbrev to : ℕ → ℕ
to k = 4096 * k + 4096

store_page : (f : List ℕ) (k : ℕ) → k < pages (length f) → store_of f (suc k) ≡ between f (from k) (to k)
unfolding store_of
store_page f k h = sym (lt_yes _ _ _ _ h refl)

store_last : (f : List ℕ) (k : ℕ) → pages (length f) ≤ k → store_of f (suc k) ≡ between f 0 8
unfolding store_of
store_last f k h = sym (lt_no _ _ _ _ h refl)

-- the three kinds, made
pub stored-first : (f out : List ℕ) → stored f 0 out ≡ blit 0 (replicate 8 0) out
unfolding stored store_of
stored-first f out = refl

pub stored-page : (f : List ℕ) (k : ℕ) (out : List ℕ) → k < pages (length f)
    → stored f (suc k) out ≡ blit (max 8 (4096 * k)) (part (max 8 (4096 * k)) (4096 * k + 4096 - max 8 (4096 * k)) f) out
unfolding stored
stored-page f k out h = rw (store_page f k h)

pub stored_last : (f : List ℕ) (k : ℕ) (out : List ℕ) → pages (length f) ≤ k → stored f (suc k) out ≡ blit 0 (part 0 8 f) out
unfolding stored
stored_last f k out h = rw (store_last f k h)

pages_enough : (n : ℕ) → n ≤ 4096 * pages n
unfolding pages
pages_enough n = omega arith

pages_least : (n k : ℕ) → k < pages n → 4096 * k < n
unfolding pages
pages_least n k h = omega arith

-- the first and the last at least
pub steps_some : (n : ℕ) → 2 ≤ steps_of n
unfolding steps_of
steps_some n = omega arith

-- ---- lengths

pub length-stored : (f : List ℕ) (k : ℕ) (out : List ℕ) → length (stored f k out) ≡ length out
unfolding stored
length-stored f k out = length-blit _ _ out

pub length-stored_to : (f : List ℕ) (k : ℕ) (out : List ℕ) → length (stored_to f k out) ≡ length out
unfolding stored_to
length-stored_to f zero out = refl
length-stored_to f (suc k) out = length-stored f k (stored_to f k out) ∙ length-stored_to f k out

-- ---- a byte once the first store and k pages are made

module _ (f out : List ℕ) where
  cleared : (k i : ℕ) → k ≤ pages (length f) → i < 8 → i < length out → get_or (stored_to f (suc k) out) i 0 ≡ 0
  unfolding stored_to
  cleared zero i h g m =
      rw (stored-first f out) (byte_in (replicate 8 0) 0 i out (omega arith) g m ∙ get_or-replicate 8 (i - 0) 0 0 (omega arith))
  cleared (suc k) i h g m =
      rw (stored-page f k (stored_to f (suc k) out) (omega arith))
      (laid_out_lem f (from k) (to k) (stored_to f (suc k) out) i (inl (omega arith)) ∙ cleared k i (omega arith) g m)

  filed : (k i : ℕ) → k ≤ pages (length f) → 8 ≤ i → i < min (4096 * k) (length f) → i < length out
      → get_or (stored_to f (suc k) out) i 0 ≡ get_or f i 0
  unfolding stored_to
  filed zero i h g n m = absurd (omega arith)
  filed (suc k) i h g n m =
      rw (stored-page f k (stored_to f (suc k) out) (omega arith))
      (⊎_elim (λ b. laid_out_lem f (from k) (to k) (stored_to f (suc k) out) i (inl (omega arith)) ∙ filed k i (omega arith) g (omega arith) m)
      (λ b. laid_in f (from k) (to k) (stored_to f (suc k) out) i (omega arith) (omega arith) (rw (length-stored_to f (suc k) out) m))
      (lt_or_le i (4096 * k)))

  kept : (k i : ℕ) → k ≤ pages (length f) → 8 ≤ i → min (4096 * k) (length f) ≤ i → get_or (stored_to f (suc k) out) i 0 ≡ get_or out i 0
  unfolding stored_to
  kept zero i h g n = rw (stored-first f out) (byte_out (replicate 8 0) 0 i out (inr g))
  kept (suc k) i h g n =
      rw (stored-page f k (stored_to f (suc k) out) (omega arith))
      (laid_out_lem f (from k) (to k) (stored_to f (suc k) out) i (inr (omega arith)) ∙ kept k i (omega arith) g (omega arith))

  -- the one law: zero below 8, the file's up to where store number k + 1 begins, out's from there on
  pub stored_at : (k i : ℕ) → k ≤ pages (length f) → i < length out
      → get_or (stored_to f (suc k) out) i 0 ≡ if_lt i 8 0 (if_lt i (min (4096 * k) (length f)) (get_or f i 0) (get_or out i 0))
  stored_at k i h m =
      ⊎_elim (λ a. lt_yes _ _ _ _ a (cleared k i h a m))
      (λ a.
      lt_no _ _ _ _ a
      (⊎_elim (λ b. lt_yes _ _ _ _ b (filed k i h a b m)) (λ b. lt_no _ _ _ _ b (kept k i h a b)) (lt_or_le i (min (4096 * k) (length f)))))
      (lt_or_le i 8)

  -- ---- a store made again
  again-first : (k : ℕ) → k ≤ pages (length f) → stored f 0 (stored_to f (suc k) out) ≡ stored_to f (suc k) out
  again-first k h =
      rw (stored-first f (stored_to f (suc k) out))
      (ext_get_or 0 _ _ (length-blit _ _ (stored_to f (suc k) out)) (λ i l. one i (rw length-blit at l)))
    where
      one : (i : ℕ) → i < length (stored_to f (suc k) out)
          → get_or (blit 0 (replicate 8 0) (stored_to f (suc k) out)) i 0 ≡ get_or (stored_to f (suc k) out) i 0
      one i l =
          ⊎_elim
          (λ a.
          byte_in (replicate 8 0) 0 i (stored_to f (suc k) out) (omega arith) a l
          ∙ get_or-replicate 8 (i - 0) 0 0 (omega arith)
          ∙ sym (cleared k i h a (rw (length-stored_to f (suc k) out) at l)))
          (λ a. byte_out (replicate 8 0) 0 i (stored_to f (suc k) out) (inr a))
          (lt_or_le i 8)

  again-page : (j k : ℕ) → j < k → k ≤ pages (length f) → stored f (suc j) (stored_to f (suc k) out) ≡ stored_to f (suc k) out
  again-page j k b h =
      rw (stored-page f j (stored_to f (suc k) out) (omega arith))
      (ext_get_or 0 _ _ (length-blit _ _ (stored_to f (suc k) out)) (λ i l. one i (rw length-blit at l)))
    where
      among : (i : ℕ) → i < length (stored_to f (suc k) out) → from j ≤ i → i < min (to j) (length f)
          → get_or (laid f (from j) (to j) (stored_to f (suc k) out)) i 0 ≡ get_or (stored_to f (suc k) out) i 0
      among i l a c =
          laid_in f (from j) (to j) (stored_to f (suc k) out) i a c l
          ∙ sym (filed k i h (omega arith) (omega arith) (rw (length-stored_to f (suc k) out) at l))

      one : (i : ℕ) → i < length (stored_to f (suc k) out)
          → get_or (laid f (from j) (to j) (stored_to f (suc k) out)) i 0 ≡ get_or (stored_to f (suc k) out) i 0
      one i l =
          ⊎_elim (λ a. laid_out_lem f (from j) (to j) (stored_to f (suc k) out) i (inl a))
          (λ a. ⊎_elim (among i l a) (λ c. laid_out_lem f (from j) (to j) (stored_to f (suc k) out) i (inr c)) (lt_or_le i (min (to j) (length f))))
          (lt_or_le i (from j))

  -- before the last, a store made again changes nothing
  pub again : (j k : ℕ) → j < k → k < steps_of (length f) → stored f j (stored_to f k out) ≡ stored_to f k out
  unfolding steps_of
  again j zero b h = absurd (omega arith)
  again zero (suc k) b h = again-first k (omega arith)
  again (suc j) (suc k) b h = again-page j k (omega arith) (omega arith)

  -- ---- all stores

  -- bookkeeping: what stands before the last
  abbrev unended : List ℕ
  unended = stored_to f (suc (pages (length f))) out

  later : (i : ℕ) → i < length out → 8 ≤ i → get_or unended i 0 ≡ get_or (blit 0 f out) i 0
  later i l a =
      ⊎_elim
      (λ c.
      filed (pages (length f)) i (omega arith) a (omega (arith, pages_enough (length f))) l ∙ sym (byte_in f 0 i out (omega arith) (omega arith) l ∙ rw sub-zero))
      (λ c. kept (pages (length f)) i (omega arith) a (omega arith) ∙ sym (byte_out f 0 i out (inr (omega arith))))
      (lt_or_le i (length f))

  ended : 8 ≤ length f → (i : ℕ) → i < length out → get_or (laid f 0 8 unended) i 0 ≡ get_or (blit 0 f out) i 0
  ended e i l =
      ⊎_elim
      (λ a.
      laid_in f 0 8 unended i (omega arith) (omega arith) (rw (length-stored_to f (suc (pages (length f))) out) l)
      ∙ sym (byte_in f 0 i out (omega arith) (omega arith) l ∙ rw sub-zero))
      (λ a. laid_out_lem f 0 8 unended i (inr (omega arith)) ∙ later i l a)
      (lt_or_le i 8)

  -- they leave the file made in one go
  pub whole : 8 ≤ length f → stored_to f (steps_of (length f)) out ≡ blit 0 f out
  unfolding steps_of stored_to
  whole e =
      let n : pages (length f) + 2 ≡ suc (suc (pages (length f))) = omega arith in
      rw (n, stored_last f (pages (length f)) unended (omega arith))
      (ext_get_or 0 _ _ (length-blit _ _ unended ∙ length-stored_to f (suc (pages (length f))) out ∙ sym (length-blit 0 f out))
      (λ i l. ended e i (rw (length-blit, length-stored_to f (suc (pages (length f))) out) at l)))

-- ---- each store is one run of 1 to 4,096 bytes of the file

between_run : (f : List ℕ) (a e : ℕ) → a < e → e ≤ a + 4096 → a < length f → OneRun f (between f a e)
between_run f a e h g k =
    let n : length (part a (e - a) f) ≡ min (e - a) (length f - a) = length-between f a e in
    record { some = omega arith; most = omega arith; inside = omega arith }

pub one-run : (f : List ℕ) (k : ℕ) → 8 < length f → OneRun f (store_of f k)
unfolding store_of
one-run f zero h = record { some = omega arith; most = omega arith; inside = omega arith }
one-run f (suc k) h =
    ⊎_elim
    (λ c.
    rw (store_page f k c)
    (between_run f (from k) (to k) (omega arith) (omega arith) (omega (arith, pages_least (length f) k c))))
    (λ c. rw (store_last f k c) (between_run f 0 8 (omega arith) (omega arith) (omega arith)))
    (lt_or_le k (pages (length f)))

-- outside its run a store changes nothing
pub store_keeps : (f : List ℕ) (k i : ℕ) (out : List ℕ) → (i < (store_of f k).at) ⊎ ((store_of f k).at + length (store_of f k).bytes ≤ i)
    → get_or (stored f k out) i 0 ≡ get_or out i 0
unfolding stored
store_keeps f k i out h = byte_out (store_of f k).bytes (store_of f k).at i out h

-- inside it each but the first stores the file's bytes
between-file : (f : List ℕ) (a e i : ℕ) (l : List ℕ) → a ≤ i → i < a + length (part a (e - a) f) → i < length l
    → get_or (laid f a e l) i 0 ≡ get_or f i 0
between-file f a e i l h g k =
    let n : length (part a (e - a) f) ≡ min (e - a) (length f - a) = length-between f a e in
    laid_in f a e l i h (omega arith) k

pub store_file : (f : List ℕ) (k i : ℕ) (out : List ℕ) → (store_of f (suc k)).at ≤ i
    → i < (store_of f (suc k)).at + length (store_of f (suc k)).bytes → i < length out → get_or (stored f (suc k) out) i 0 ≡ get_or f i 0
store_file f k i out h g m =
    ⊎_elim
    (λ c.
    rw (stored-page f k out c) (between-file f (from k) (to k) i out (rw (store_page f k c) at h) (rw (store_page f k c) at g) m))
    (λ c. rw (stored_last f k out c) (between-file f 0 8 i out (rw (store_last f k c) at h) (rw (store_last f k c) at g) m))
    (lt_or_le k (pages (length f)))

-- and bytes past the file are kept by all
pub past-file : (f : List ℕ) (k i : ℕ) (out : List ℕ) → 8 < length f → length f ≤ i → get_or (stored_to f k out) i 0 ≡ get_or out i 0
unfolding stored_to
past-file f zero i out h g = refl
past-file f (suc k) i out h g =
    let r : OneRun f (store_of f k) = one-run f k h in
    store_keeps f k i (stored_to f k out) (inr (omega arith)) ∙ past-file f k i out h g

-- once the first store is made and until the last, the first eight bytes are zero
pub first_eight : (f out : List ℕ) (k : ℕ) → 1 ≤ k → k < steps_of (length f) → 8 ≤ length out → take 8 (stored_to f k out) ≡ replicate 8 0
unfolding steps_of
first_eight f out zero h g m = absurd (omega arith)
first_eight f out (suc k) h g m =
    ext_get_or {A = ℕ} 0 (take 8 (stored_to f (suc k) out)) (replicate 8 0) length_eight
    (λ i l.
    let j : i < 8 = rw length_eight at l in
    get_or-take 8 (stored_to f (suc k) out) i 0 j ∙ cleared f out k i (omega arith) j (omega arith) ∙ sym (get_or-replicate 8 i 0 0 j))
  where
    length_eight : length (take 8 (stored_to f (suc k) out)) ≡ 8
    length_eight = length-take-le 8 (stored_to f (suc k) out) (rw (length-stored_to f (suc k) out) m)

-- ---- a store by a callee that was lent its part of the file and lays the finished file over it

between-cut : (f : List ℕ) (a e : ℕ) → part a (e - a) f ≡ part a (min e (length f) - a) f
unfolding part
between-cut f a e = ⊎_elim (λ h. cut h) (λ h. let m : min e (length f) ≡ e = omega arith in rw m) (lt_or_le (length f) e)
  where
    cut : length f < e → take (e - a) (drop a f) ≡ take (min e (length f) - a) (drop a f)
    cut h =
        take_all (e - a) (drop a f) (rw length-drop (omega arith)) ∙ sym (take_all (min e (length f) - a) (drop a f) (rw length-drop (omega arith)))

between-lent : (f out : List ℕ) (a e : ℕ) → a ≤ min e (length f) → length f ≤ length out
    → put_mid a (min e (length f) - a) out (over a 0 f (mid_of a (min e (length f) - a) out)) ≡ laid f a e out
between-lent f out a e h g =
    over-lent a (min e (length f)) f out h (omega arith) (omega arith) ∙ ap (λ bs. blit a bs out) (sym (between-cut f a e))

-- the part of page k, cut to the file's length
pub page-lent : (f out : List ℕ) (k : ℕ) → k < pages (length f) → 8 < length f → length f ≤ length out
    → put_mid (max 8 (4096 * k)) (min (4096 * k + 4096) (length f) - max 8 (4096 * k)) out
    (over (max 8 (4096 * k)) 0 f (mid_of (max 8 (4096 * k)) (min (4096 * k + 4096) (length f) - max 8 (4096 * k)) out))
    ≡ stored f (suc k) out
page-lent f out k h g m =
    between-lent f out (from k) (to k) (omega (arith, pages_least (length f) k h)) m ∙ sym (stored-page f k out h)

pub last_lent : (f out : List ℕ) → 8 ≤ length f → length f ≤ length out
    → put_mid 0 8 out (over 0 0 f (mid_of 0 8 out)) ≡ stored f (suc (pages (length f))) out
last_lent f out h m = over-lent 0 8 f out (omega arith) h (omega arith) ∙ sym (stored_last f (pages (length f)) out (omega arith))
