-- Each piece of a line after the others, each line after the others.
use Prim.Native.Nat.{ℕ, zero, suc, ◌+◌, ◌*◌, ◌-◌, ◌≤◌, ◌<◌, min}
use mathlib.Core.List.{List, [], ◌∷◌, ◌++◌, append_assoc, append-nil}
use Rattle.std.specs.Prelude.{Bool, true, false, ◌≡◌, refl, get_or}
use Rattle.std.proofs.Math.Path.{sym}
use Rattle.std.proofs.Common.{ap, ◌∙◌, add-zero, zero-add}
use native.Mathlib.Omega.{arith}
use Rattle.base.specs.ChoiceLaws.{eq_yes, eq_no}
use Rattle.plan.specs.Channel.{channel_bytes, keeps_inval, width}
use Rattle.plan.specs.Geometry.{block_count}
use Rattle.planning.specs.Sizes.{signal_size}
use Rattle.placing.specs.InWords.{width_at, blocks_at, payload_at, signal_at}
use Rattle.placing.specs.InWordsLaws.{signal_by}
use Rattle.result.specs.Fill.{one}
use Rattle.result.specs.Listing.{decimal}
use Rattle.texts.specs.Laid.{Laid}
use Rattle.texts.specs.LaidLaws.{laid_none, laid_then, laid_as, laid_most}
use Rattle.listing.specs.Lines.{
  number_then,
  letter_of,
  Letter,
  master_of,
  line_front,
  line_sizes,
  bytes_at,
  line_amounts,
  line_in,
  lines_in,
  omission_in,
  omissions_in,
  columns_word,
  omitted_word,
  columns_part,
  omissions_part,
  plan_in,
}

-- ---- the pieces of a line
pub one_yes : {b v : Bool} → b ≡ v → b ≡ true → 1 ≡ one v
one_yes e q = rw (← e, q)

pub one_no : {b v : Bool} → b ≡ v → b ≡ false → 0 ≡ one v
one_no e q = rw (← e, q)

pub letter_yes : (t : ℕ) → t ≡ 1 → Letter t 116
unfolding letter_of
letter_yes t h = record { is = eq_yes _ _ _ _ h refl; small = omega arith }

pub letter_no : (t : ℕ) → (t ≡ 1 → ⊥) → Letter t 115
unfolding letter_of
letter_no t h = record { is = eq_no _ _ _ _ h refl; small = omega arith }

module _ (m : ℕ) {at r : ℕ} {d e : List ℕ} where
  pub master_none : m ≡ 0 → Laid at (45 ∷ []) 1 d e r → Laid at (master_of m) 20 d e r
  unfolding master_of
  master_none h a = laid_as (laid_most a (omega arith)) (eq_yes _ _ _ _ h refl)

  pub master_some : (m ≡ 0 → ⊥) → Laid at (decimal (m - 1)) 20 d e r → Laid at (master_of m) 20 d e r
  unfolding master_of
  master_some h a = laid_as a (eq_no _ _ _ _ h refl)

pub front-laid : (w : List ℕ) (k : ℕ) {at m t p q r : ℕ} {d₀ d₁ d₂ d₃ : List ℕ} → t ≡ get_or w (8 * k + 4) 0 → m ≡ letter_of t
    → Laid at (number_then k 32) 21 d₀ d₁ p → Laid p (m ∷ []) 1 d₁ d₂ q → Laid q (32 ∷ []) 1 d₂ d₃ r → Laid at (line_front w k) 23 d₀ d₃ r
unfolding line_front
front-laid w k e f a b c = laid_as (laid_then (laid_then a b) c) (rw (f, e))

module _ (s w : List ℕ) (k : ℕ) {cn cg : ℕ} (i : cn ≡ get_or w (8 * k) 0) (j : cg ≡ get_or w (8 * k + 1) 0) where
  pub sizes_laid : {at b v p r : ℕ} {d₀ d₁ d₂ : List ℕ} → b ≡ channel_bytes s cn → v ≡ one (keeps_inval s cg cn)
      → Laid at (number_then b 32) 21 d₀ d₁ p → Laid p (number_then v 32) 21 d₁ d₂ r → Laid at (line_sizes s w k) 42 d₀ d₂ r
  unfolding line_sizes
  sizes_laid e f a b = laid_as (laid_then a b) (rw (e, f, i, j))

  module _ {n y : ℕ} (l : n ≡ get_or w (8 * k + 3) 0) (u : y ≡ width s cg cn) where
    pub amounts_laid : (f : List ℕ) (size : ℕ) {at b z p q r : ℕ} {d₀ d₁ d₂ d₃ : List ℕ} → b ≡ block_count size y n → z ≡ bytes_at s w f k
        → Laid at (number_then n 32) 21 d₀ d₁ p → Laid p (number_then b 32) 21 d₁ d₂ q → Laid q (number_then z 32) 21 d₂ d₃ r
        → Laid at (line_amounts s size w f k) 63 d₀ d₃ r
    unfolding line_amounts blocks_at width_at
    amounts_laid f size v x a b c = laid_as (laid_then (laid_then a b) c) (rw (x, v, u, i, j, l))

    payload_by : y * n ≡ payload_at s w (8 * k)
    unfolding payload_at width_at
    payload_by = rw (u, i, j, l)

    module _ (f : List ℕ) (h : bytes_at s w f k < 18446744073709551616) where
      together : payload_at s w (8 * k) + signal_at w f (8 * k) < 18446744073709551616
      unfolding bytes_at
      together = h

      pub payload_fits : y * n < 18446744073709551616
      payload_fits = omega (arith, payload_by, together)

      module _ {a m z : ℕ} (q : a ≡ get_or w (8 * k + 6) 0) (v : m ≡ get_or w (8 * k + 7) 0) (x : z ≡ min (signal_size f a m) 18446744073709551615) where
        pub bytes-by : y * n + z ≡ bytes_at s w f k
        unfolding bytes_at
        bytes-by = rw (payload_by, signal_by w f (8 * k) q v x (omega (arith, together)))

        pub bytes_fit : y * n + z < 18446744073709551616
        bytes_fit = rw bytes-by h

pub line-laid : (s : List ℕ) (size : ℕ) (w f : List ℕ) (k : ℕ) {at m p q t u r : ℕ} {d₀ d₁ d₂ d₃ d₄ d₅ : List ℕ} → m ≡ get_or w (8 * k + 5) 0
    → Laid at (line_front w k) 23 d₀ d₁ p → Laid p (line_sizes s w k) 42 d₁ d₂ q → Laid q (line_amounts s size w f k) 63 d₂ d₃ t
    → Laid t (master_of m) 20 d₃ d₄ u → Laid u (10 ∷ []) 1 d₄ d₅ r → Laid at (line_in s size w f k) 149 d₀ d₅ r
unfolding line_in
line-laid s size w f k e a b c g h = laid_as (laid_then (laid_then (laid_then (laid_then a b) c) g) h) (rw e)

pub omission_laid : (w : List ℕ) (i : ℕ) {at a b p r : ℕ} {d₀ d₁ d₂ : List ℕ} → a ≡ get_or w i 0 → b ≡ get_or w (i + 1) 0
    → Laid at (number_then a 32) 21 d₀ d₁ p → Laid p (number_then b 10) 21 d₁ d₂ r → Laid at (omission_in w i) 42 d₀ d₂ r
unfolding omission_in
omission_laid w i e f x y = laid_as (laid_then x y) (rw (e, f))

-- ---- a loop over columns
module _ (s : List ℕ) (size : ℕ) (w f : List ℕ) where
  lines_more : (k n : ℕ) → lines_in s size w f k (n + 1) ≡ lines_in s size w f k n ++ line_in s size w f (k + n)
  unfolding lines_in
  lines_more k zero = rw (add-zero, append-nil)
  lines_more k (suc n) =
      let e : k + 1 + n ≡ k + suc n = omega arith in
      let g : suc n + 1 ≡ suc (n + 1) = omega arith in
      let rest : lines_in s size w f (k + 1) (n + 1) ≡ lines_in s size w f (k + 1) n ++ line_in s size w f (k + suc n) = rw e at (lines_more (k + 1) n) in
      rw g (ap (λ (l : List ℕ). line_in s size w f k ++ l) rest
      ∙ sym (append_assoc (line_in s size w f k) (lines_in s size w f (k + 1) n) (line_in s size w f (k + suc n))))

  pub lines_begin : {at : ℕ} {d : List ℕ} → Laid at (lines_in s size w f 0 0) (149 * 0) d d at
  unfolding lines_in
  lines_begin = laid_none

  module _ (k : ℕ) {at p : ℕ} {d e : List ℕ} (a : Laid at (lines_in s size w f 0 k) (149 * k) d e p) where
    pub lines_turn : {r : ℕ} {g : List ℕ} → Laid p (line_in s size w f k) 149 e g r → Laid at (lines_in s size w f 0 (k + 1)) (149 * (k + 1)) d g r
    lines_turn b = laid_as (laid_most (laid_then a b) (omega arith)) (sym (lines_more 0 k ∙ rw zero-add))

    pub lines_end : (n : ℕ) → k ≤ n → n ≤ k → Laid at (lines_in s size w f 0 n) (149 * n) d e p
    lines_end n h l = let q : k ≡ n = omega arith in rw (← q) a

-- ---- a loop over omissions
module _ (w : List ℕ) where
  omissions_more : (i n : ℕ) → omissions_in w i (n + 1) ≡ omissions_in w i n ++ omission_in w (i + 2 * n)
  unfolding omissions_in
  omissions_more i zero = let e : i + 2 * 0 ≡ i = omega arith in rw (e, append-nil)
  omissions_more i (suc n) =
      let e : i + 2 + 2 * n ≡ i + 2 * suc n = omega arith in
      let f : suc n + 1 ≡ suc (n + 1) = omega arith in
      let rest : omissions_in w (i + 2) (n + 1) ≡ omissions_in w (i + 2) n ++ omission_in w (i + 2 * suc n) = rw e at (omissions_more (i + 2) n) in
      rw f (ap (λ (l : List ℕ). omission_in w i ++ l) rest
      ∙ sym (append_assoc (omission_in w i) (omissions_in w (i + 2) n) (omission_in w (i + 2 * suc n))))

  pub omissions_begin : {at : ℕ} {d : List ℕ} → Laid at (omissions_in w 4096 0) (42 * 0) d d at
  unfolding omissions_in
  omissions_begin = laid_none

  module _ (k : ℕ) {at p : ℕ} {d e : List ℕ} (a : Laid at (omissions_in w 4096 k) (42 * k) d e p) where
    pub omissions_turn : {r : ℕ} {f : List ℕ} → Laid p (omission_in w (4096 + 2 * k)) 42 e f r → Laid at (omissions_in w 4096 (k + 1)) (42 * (k + 1)) d f r
    omissions_turn b = laid_as (laid_most (laid_then a b) (omega arith)) (sym (omissions_more 4096 k))

    pub omissions_end : (n : ℕ) → k ≤ n → n ≤ k → Laid at (omissions_in w 4096 n) (42 * n) d e p
    omissions_end n h l = let q : k ≡ n = omega arith in rw (← q) a

-- ---- the whole
pub columns-laid : (s : List ℕ) (size : ℕ) (w f : List ℕ) (n : ℕ) {at p q r : ℕ} {d₀ d₁ d₂ d₃ : List ℕ} → Laid at columns_word 8 d₀ d₁ p
    → Laid p (number_then n 10) 21 d₁ d₂ q → Laid q (lines_in s size w f 0 n) (149 * n) d₂ d₃ r → Laid at (columns_part s size w f n) (29 + 149 * n) d₀ d₃ r
unfolding columns_part
columns-laid s size w f n a b c = laid_then (laid_then a b) c

pub omissions_laid : (w : List ℕ) (n : ℕ) {at p q r : ℕ} {d₀ d₁ d₂ d₃ : List ℕ} → Laid at omitted_word 8 d₀ d₁ p
    → Laid p (number_then n 10) 21 d₁ d₂ q → Laid q (omissions_in w 4096 n) (42 * n) d₂ d₃ r → Laid at (omissions_part w n) (29 + 42 * n) d₀ d₃ r
unfolding omissions_part
omissions_laid w n a b c = laid_then (laid_then a b) c

pub plan_put : (s : List ℕ) (size : ℕ) (w f : List ℕ) (n m : ℕ) {at p r : ℕ} {d₀ d₁ d₂ : List ℕ} → n ≤ 512 → m ≤ 1024
    → Laid at (columns_part s size w f n) (29 + 149 * n) d₀ d₁ p → Laid p (omissions_part w m) (29 + 42 * m) d₁ d₂ r
    → Laid at (plan_in s size w f n m) 119354 d₀ d₂ r
unfolding plan_in
plan_put s size w f n m h l a b = laid_most (laid_then a b) (omega arith)
