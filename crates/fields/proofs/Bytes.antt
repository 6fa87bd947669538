-- Eight bytes, zero past the first n, as one number: the field of those n.
use Rattle.std.specs.Prelude.{ℕ, Bool, true, false, ltb, zero, suc, ◌+◌, ◌*◌, ◌-◌, ◌^◌, ◌<◌, ◌≤◌, List, ◌++◌, ◌≡◌, refl, get_or, length, take, drop, replicate}
use Rattle.std.specs.Int.{w64, from_le_bytes}
use Rattle.std.proofs.Common.{sym, ltb-true, ltb-false, ◌∙◌, add-zero, zero-add, pow-suc, mul-zero, arith}
use Rattle.std.proofs.lemmas.List.{get_or-append_right, get_or_append_left, get_or-drop, get_or-take}
use Rattle.std.proofs.Math.ListN.{get_or-eq_default}
use Rattle.base.specs.Field.{le_at, Field}
use Rattle.base.specs.FieldLaws.{split}

-- the same bytes give the same number
pub le-same : (n : ℕ) (s t : List ℕ) (a b : ℕ) → ((i : ℕ) → i < n → get_or s (a + i) 0 ≡ get_or t (b + i) 0) → le_at n s a ≡ le_at n t b
unfolding le_at
le-same zero s t a b h = refl
le-same (suc n) s t a b h =
    let first : get_or s a 0 ≡ get_or t b 0 = rw (add-zero a, add-zero b) at (h 0 (omega arith)) in
    let rest : (i : ℕ) → i < n → get_or s (a + 1 + i) 0 ≡ get_or t (b + 1 + i) 0 = λ i l.
    (let x : a + suc i ≡ a + 1 + i = omega arith in let y : b + suc i ≡ b + 1 + i = omega arith in rw (x, y) at (h (suc i) (omega arith))) in
    rw (first, le-same n s t (a + 1) (b + 1) rest)

le-zero : (n : ℕ) (s : List ℕ) (a : ℕ) → ((i : ℕ) → a ≤ i → get_or s i 0 ≡ 0) → le_at n s a ≡ 0
unfolding le_at
le-zero zero s a h = refl
le-zero (suc n) s a h = rw (h a (omega arith), le-zero n s (a + 1) (λ i l. h i (omega arith)))

pub le-small : (n : ℕ) (s : List ℕ) (a : ℕ) → ((i : ℕ) → get_or s i 0 < 256) → le_at n s a < 256 ^ n
unfolding le_at
le-small zero s a h = omega arith
le-small (suc n) s a h =
    let first = h a in
    let rest = le-small n s (a + 1) h in
    rw (pow-suc 256 n) (omega (arith, first, rest))

eight : (b : List ℕ) → from_le_bytes w64 b ≡ le_at 8 b 0
unfolding le_at
eight b = omega arith

-- b begins with the n bytes of s at p, and is zero past them
pub field_of : (n : ℕ) (b s : List ℕ) (p r : ℕ) → n ≤ 8 → ((i : ℕ) → get_or s i 0 < 256) → ((i : ℕ) → i < n → get_or b i 0 ≡ get_or s (p + i) 0)
    → ((i : ℕ) → n ≤ i → get_or b i 0 ≡ 0) → r ≡ from_le_bytes w64 b → Field n s p r
field_of n b s p r h small same none e =
    let whole : n + (8 - n) ≡ 8 = omega arith in
    let parts : le_at 8 b 0 ≡ le_at n b 0 + 256 ^ n * le_at (8 - n) b (0 + n) = rw whole at (split n (8 - n) b 0) in
    let past : le_at (8 - n) b (0 + n) ≡ 0 = le-zero (8 - n) b (0 + n) (λ i l. none i (omega arith)) in
    let front : le_at n b 0 ≡ le_at n s p = le-same n b s 0 p (λ i l. rw (zero-add i) (same i l)) in
    let is : r ≡ le_at n s p = e ∙ eight b ∙ parts ∙ rw (past, front, mul-zero) (add-zero _) in
    record { is = is; small = rw is (le-small n s p small) }

zeros-none : (n i z : ℕ) → z ≡ 0 → get_or (replicate n z) i z ≡ z
zeros-none zero i z e = refl
zeros-none (suc n) zero z e = refl
zeros-none (suc n) (suc i) z e = zeros-none n i z e

-- the bytes of s from p on, n of them, in front of zeros
module _ (n : ℕ) (s xs : List ℕ) (p : ℕ) (is : xs ≡ take n (drop p s)) where
  pub padded_in : length xs ≡ n → (i : ℕ) → i < n → get_or (xs ++ drop n (replicate 8 0)) i 0 ≡ get_or s (p + i) 0
  padded_in e i l = get_or_append_left xs _ 0 i (omega arith) ∙ rw is (get_or-take n (drop p s) i 0 l ∙ get_or-drop p s i 0)

  pub padded-past : length xs ≡ n → (i : ℕ) → n ≤ i → get_or (xs ++ drop n (replicate 8 0)) i 0 ≡ 0
  padded-past e i l = get_or-append_right xs _ n i 0 e l ∙ get_or-drop n (replicate 8 0) (i - n) 0 ∙ zeros-none 8 (n + (i - n)) 0 refl

  -- the same where s ends there
  pub padded-end : length xs ≡ n → length s ≤ p + n → (i : ℕ) → get_or (xs ++ drop n (replicate 8 0)) i 0 ≡ get_or s (p + i) 0
  padded-end e h i = go (ltb i n) refl
    where
      go : (t : Bool) → ltb i n ≡ t → get_or (xs ++ drop n (replicate 8 0)) i 0 ≡ get_or s (p + i) 0
      go true q = padded_in e i (ltb-true i n q)
      go false q = let l = ltb-false i n q in padded-past e i l ∙ sym (get_or-eq_default s 0 (omega (arith, l)))
