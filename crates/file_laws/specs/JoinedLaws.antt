-- Parts of the joined data of fragments whose ranges lie in the image.
use Rattle.std.specs.Prelude.{ℕ, zero, suc, ◌+◌, ◌-◌, ◌≤◌, List, [], ◌∷◌, ◌++◌, ◌≡◌, refl, drop}
use Rattle.std.proofs.Common.{sym, ◌∙◌, length-append, take-take}
use Rattle.std.proofs.Math.Path.{ap}
use Rattle.std.proofs.Math.Nat.{sub-zero, zero-sub, suc-sub-suc}
use native.Mathlib.Omega.{arith}
use Rattle.std.proofs.Math.ListN.{length, take, length-drop}
use Rattle.std.proofs.Math.Seq.{take-append-le, drop-append-add, drop-drop, take-nil, drop-nil}
use Rattle.std.proofs.lemmas.List.{drop-append-le}
use Rattle.base.specs.Blit.{part}
use Rattle.base.specs.BlitLaws.{length_part}
use Rattle.base.specs.ChoiceLaws.{lt_no, lt_back}
use Rattle.base.specs.Checked.{fine}
use Rattle.base.specs.CheckedLaws.{refused≢ok}
use Rattle.mdf.specs.Chain.{Fragment}
use Rattle.mdf.specs.Records.{ranges_in, joined, size_of}

-- ---- parts of two lists

module _ {A : Type 0} where
  -- in the first
  pub part-front : (i n : ℕ) (xs ys : List A) → i + n ≤ length xs → part i n (xs ++ ys) ≡ part i n xs
  unfolding part
  part-front i n xs ys h =
      ap (take n) (drop-append-le i xs ys (omega arith)) ∙ take-append-le n (drop i xs) ys (rw length-drop (omega arith))

  -- in the second
  pub part_back : (i n : ℕ) (xs ys : List A) → length xs ≤ i → part i n (xs ++ ys) ≡ part (i - length xs) n ys
  unfolding part
  part_back i n xs ys h =
      let e : i ≡ length xs + (i - length xs) = omega arith in
      ap (λ (k : ℕ). take n (drop k (xs ++ ys))) e ∙ ap (take n) (drop-append-add xs ys (i - length xs))

  drop-take : (i m : ℕ) (l : List A) → drop i (take m l) ≡ take (m - i) (drop i l)
  drop-take zero m l = rw sub-zero
  drop-take (suc i) zero l = rw (zero-sub, drop-nil)
  drop-take (suc i) (suc m) [] = rw (suc-sub-suc, take-nil)
  drop-take (suc i) (suc m) (x ∷ l) = rw suc-sub-suc (drop-take i m l)

  -- of a part
  pub part-part : (a m i n : ℕ) (l : List A) → i + n ≤ m → part i n (part a m l) ≡ part (a + i) n l
  unfolding part
  part-part a m i n l h = rw (drop-take i m (drop a l), drop-drop i a l) (take-take n (m - i) (drop (a + i) l) (omega arith))

-- ---- ranges

-- the first lies in the image, and the others do
pub ranges_cons : (s : List ℕ) (f : Fragment) (fs : List Fragment) → ranges_in s (f ∷ fs) ≡ fine
    → (f.offset + f.size ≤ length s) × (ranges_in s fs ≡ fine)
unfolding ranges_in
ranges_cons s f fs e = lt_back _ _ _ _ e refused≢ok

pub ranges_in_lem : (s : List ℕ) (f : Fragment) (fs : List Fragment) → f.offset + f.size ≤ length s → ranges_in s fs ≡ fine
    → ranges_in s (f ∷ fs) ≡ fine
unfolding ranges_in
ranges_in_lem s f fs h e = sym (lt_no _ _ _ _ h (sym e))

pub ranges_drop : (s : List ℕ) (i : ℕ) (fs : List Fragment) → ranges_in s fs ≡ fine → ranges_in s (drop i fs) ≡ fine
ranges_drop s zero fs e = e
ranges_drop s (suc i) [] e = e
ranges_drop s (suc i) (f ∷ fs) e = ranges_drop s i fs (ranges_cons s f fs e).1

pub ranges_take : (s : List ℕ) (n : ℕ) (fs : List Fragment) → ranges_in s fs ≡ fine → ranges_in s (take n fs) ≡ fine
unfolding ranges_in
ranges_take s zero fs e = refl
ranges_take s (suc n) [] e = e
ranges_take s (suc n) (f ∷ fs) e =
    let r = ranges_cons s f fs e in
    ranges_in_lem s f (take n fs) r.0 (ranges_take s n fs r.1)

-- of a part of them
pub ranges_part : (s : List ℕ) (i n : ℕ) (fs : List Fragment) → ranges_in s fs ≡ fine → ranges_in s (part i n fs) ≡ fine
unfolding part
ranges_part s i n fs e = ranges_take s n (drop i fs) (ranges_drop s i fs e)

-- of two lists
pub ranges_append : (s : List ℕ) (fs gs : List Fragment) → ranges_in s fs ≡ fine → ranges_in s gs ≡ fine → ranges_in s (fs ++ gs) ≡ fine
ranges_append s [] gs e d = d
ranges_append s (f ∷ fs) gs e d =
    let r = ranges_cons s f fs e in
    ranges_in_lem s f (fs ++ gs) r.0 (ranges_append s fs gs r.1 d)

-- the joined data has all bytes
pub length-joined : (s : List ℕ) (fs : List Fragment) → ranges_in s fs ≡ fine → length (joined s fs) ≡ size_of fs
unfolding ranges_in joined size_of
length-joined s [] e = refl
length-joined s (f ∷ fs) e =
    let b = ranges_cons s f fs e in
    rw (length-append, length_part f.offset f.size s b.0, length-joined s fs b.1)
