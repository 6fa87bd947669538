-- Bytes laid one after the other; the decimal digits.
use Rattle.std.specs.Prelude.{ℕ, zero, suc, ◌+◌, ◌-◌, ◌/◌, ◌%◌, ◌≤◌, ◌<◌, List, [], ◌∷◌, ◌++◌, ◌≡◌, refl, length, take}
use Rattle.std.proofs.Common.{sym, ◌∙◌, sub-one, arith, length-append, take_all}
use Rattle.base.specs.Choice.{if_eq}
use Rattle.base.specs.ChoiceLaws.{eq_yes, eq_no}
use Rattle.base.specs.Field.{le}
use Rattle.base.specs.Blit.{part, blit}
use Rattle.base.specs.BlitLaws.{length-blit, blit-append, part-blit}
use Rattle.result.specs.Listing.{digits_of}
use Rattle.texts.specs.Laid.{Laid}

pub laid_none : {at most : ℕ} {d : List ℕ} → Laid at [] most d d at
unfolding blit
laid_none = record { is = refl; past = omega arith; small = omega arith }

-- ys just past xs
pub laid_then : {at m n p r : ℕ} {xs ys d e f : List ℕ} → Laid at xs m d e p → Laid p ys n e f r → Laid at (xs ++ ys) (m + n) d f r
laid_then {at} {m} {n} {p} {r} {xs} {ys} {d} {e} {f} a b =
    let l : length (xs ++ ys) ≡ length xs + length ys = length-append xs ys in
    record {
      is = rw (b.is, a.is, a.past) (sym (blit-append xs at ys d));
      past = rw l (omega (arith, a.past, b.past));
      small = rw l (omega (arith, a.small, b.small));
    }

-- the same bytes, said otherwise
pub laid_as : {at m r : ℕ} {xs ys d e : List ℕ} → Laid at xs m d e r → xs ≡ ys → Laid at ys m d e r
laid_as a q = rw (← q) a

pub laid_most : {at m n r : ℕ} {xs d e : List ℕ} → Laid at xs m d e r → m ≤ n → Laid at xs n d e r
laid_most a h = record { is = a.is; past = a.past; small = omega (arith, a.small, h) }

-- ---- one byte, a text
low : (x : ℕ) → x < 256 → x % 256 ≡ x
low x h = omega arith

pub laid_byte : {at x : ℕ} {d e : List ℕ} → e ≡ blit at (le 1 x) d → x < 256 → Laid at (x ∷ []) 1 d e (at + 1)
unfolding le
laid_byte {at} {x} {d} {e} q h = record { is = rw (low x h) at q; past = refl; small = omega arith }

pub laid-text : {at n most : ℕ} {t d e : List ℕ} → e ≡ blit at (part 0 n t) d → n ≡ length t → n ≤ most → Laid at t most d e (at + n)
unfolding part
laid-text {at} {n} {most} {t} {d} {e} q l h =
    let all : take n t ≡ t = take_all n t (omega arith) in
    record { is = rw all at q; past = omega arith; small = omega arith }

-- bytes that stand at the front of another list
pub laid-copied : {at k most : ℕ} {bs z t d e : List ℕ} → Laid 0 bs most z t k → most ≤ length z → e ≡ blit at (part 0 k t) d → Laid at bs most d e (at + k)
laid-copied {at} {k} {most} {bs} {z} {t} {d} {e} a h q =
    let n : k ≡ length bs = omega (arith, a.past) in
    let all : part 0 (length bs) (blit 0 bs z) ≡ bs = part-blit 0 bs z (omega (arith, a.small)) in
    record { is = q ∙ rw (n, a.is, all); past = rw n; small = a.small }

-- ---- digits
pub digits-none : (most n at : ℕ) (d : List ℕ) → most ≡ 0 → Laid at (digits_of most n) most d d at
unfolding digits_of
digits-none most n at d h = rw h laid_none

pub digits-one : (most n : ℕ) {at r : ℕ} {d e : List ℕ} → (most ≡ 0 → ⊥) → n / 10 ≡ 0 → Laid at ((48 + n % 10) ∷ []) 1 d e r
    → Laid at (digits_of most n) most d e r
unfolding digits_of
digits-one zero n h q a = absurd (h refl)
digits-one (suc k) n {at} {r} {d} {e} h q a =
    let none : if_eq (n / 10) 0 [] (digits_of k (n / 10)) ≡ [] = sym (eq_yes _ _ _ _ q refl) in
    rw none (laid_most a (omega arith))

pub digits_more : (most n : ℕ) {at p r : ℕ} {d e f : List ℕ} → (most ≡ 0 → ⊥) → (n / 10 ≡ 0 → ⊥) → Laid at (digits_of (most - 1) (n / 10)) (most - 1) d e p
    → Laid p ((48 + n % 10) ∷ []) 1 e f r → Laid at (digits_of most n) most d f r
unfolding digits_of
digits_more zero n h q a b = absurd (h refl)
digits_more (suc k) n {at} {p} {r} {d} {e} {f} h q a b =
    let more : if_eq (n / 10) 0 [] (digits_of k (n / 10)) ≡ digits_of k (n / 10) = sym (eq_no _ _ _ _ q refl) in
    rw more (laid_most (laid_then (rw sub-one at a) b) (omega arith))

-- the list keeps its length
pub laid-length : {at m r : ℕ} {xs d e : List ℕ} → Laid at xs m d e r → length e ≡ length d
laid-length {at} {xs = xs} {d = d} a = rw a.is (length-blit at xs d)
