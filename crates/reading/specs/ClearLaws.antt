-- A list filled with zeros from the front.
use Rattle.std.specs.Prelude.{ℕ, ◌+◌, ◌≤◌, ◌<◌, List, ◌++◌, ◌≡◌, length, get_or, set, drop, replicate}
use Rattle.std.proofs.Common.{append-nil, bit_or, refl, sym, ◌∙◌, arith, drop_of_length-le, length-set}
use Rattle.std.proofs.lemmas.List.Edits.{fill_more}
use Rattle.std.proofs.lemmas.List.{set-get_or}
use Rattle.std.proofs.lemmas.Nat.{le_or_l, le_or_r}
use Rattle.std.proofs.Math.Path.{ap, subst}
use Rattle.reading.specs.Reading.{zeros}

-- the first i words are zero, and the others as they were
pub record Filled (w₀ : List ℕ) (i : ℕ) (w : List ℕ) : Type 0 where
  pub least : i ≤ length w₀
  pub same : length w ≡ length w₀
  pub is : w ≡ replicate i 0 ++ drop i w₀

-- words that are zero are as if they were set: one
zero_set : (w : List ℕ) (i : ℕ) → get_or w i 0 ≡ 0 → w ≡ set w i 0
zero_set w i e = sym (rw e at (set-get_or w i 0))

-- of two parts that are zero together each is
either : (a b : ℕ) → bit_or a b ≡ 0 → (a ≡ 0) × (b ≡ 0)
either a b e =
    let l = rw e at (le_or_l a b) in
    let r = rw e at (le_or_r a b) in
    (omega arith, omega arith)

zero_more : {w v : List ℕ} (i : ℕ) → w ≡ v → get_or w i 0 ≡ 0 → w ≡ set v i 0
zero_more {w} {v} i p e = zero_set w i e ∙ ap (λ (u : List ℕ). set u i 0) p

-- of eight
pub zero_eight : (w : List ℕ) (i : ℕ)
    → bit_or (bit_or (bit_or (bit_or (bit_or (bit_or (bit_or (get_or w i 0) (get_or w (i + 1) 0)) (get_or w (i + 2) 0)) (get_or w (i + 3) 0)) (get_or w (i + 4) 0))
    (get_or w (i + 5) 0)) (get_or w (i + 6) 0)) (get_or w (i + 7) 0) ≡ 0
    → w ≡ set (set (set (set (set (set (set (set w i 0) (i + 1) 0) (i + 2) 0) (i + 3) 0) (i + 4) 0) (i + 5) 0) (i + 6) 0) (i + 7) 0
zero_eight w i e =
    let g = either _ _ e in
    let f = either _ _ g.0 in
    let l = either _ _ f.0 in
    let k = either _ _ l.0 in
    let j = either _ _ k.0 in
    let h = either _ _ j.0 in
    let d = either _ _ h.0 in
    let a = zero_more (i + 1) (zero_more i refl d.0) d.1 in
    let b = zero_more (i + 4) (zero_more (i + 3) (zero_more (i + 2) a h.1) j.1) k.1 in
    zero_more (i + 7) (zero_more (i + 6) (zero_more (i + 5) b l.1) f.1) g.1

module _ {w₀ : List ℕ} {i : ℕ} {w : List ℕ} (f : Filled w₀ i w) where
  pub filled_more : i < length w → Filled w₀ (i + 1) (set w i 0)
  filled_more l =
      let e = f.same in
      let h : i < length w₀ = omega arith in
      record { least = omega arith; same = length-set w i 0 ∙ f.same; is = rw f.is (fill_more i 0 w₀ h) }

  pub filled_zero : i < length w → get_or w i 0 ≡ 0 → Filled w₀ (i + 1) w
  filled_zero l e = subst (Filled w₀ (i + 1)) (sym (zero_set w i e)) (filled_more l)

  pub filled-all : length w ≤ i → w ≡ zeros w₀
  filled-all l =
      let s = f.same in
      let t = f.least in
      let e : i ≡ length w₀ = omega arith in
      let h : length w₀ ≤ i = omega arith in
      f.is ∙ rw (drop_of_length-le w₀ h, append-nil, e)

-- eight more of them
filled_four : {w₀ : List ℕ} {i : ℕ} {w : List ℕ} → Filled w₀ i w → i + 4 ≤ length w
    → Filled w₀ (i + 4) (set (set (set (set w i 0) (i + 1) 0) (i + 2) 0) (i + 3) 0)
filled_four {w₀} {i} {w} f l =
    let a = length-set w i 0 in
    let b = length-set (set w i 0) (i + 1) 0 in
    let c = length-set (set (set w i 0) (i + 1) 0) (i + 1 + 1) 0 in
    let p : i + 2 ≡ i + 1 + 1 = omega arith in
    let q : i + 3 ≡ i + 1 + 1 + 1 = omega arith in
    let e : i + 4 ≡ i + 1 + 1 + 1 + 1 = omega arith in
    rw (p, q, e) (filled_more (filled_more (filled_more (filled_more f (omega arith)) (omega arith)) (omega arith)) (omega arith))

pub filled_eight : {w₀ : List ℕ} {i : ℕ} {w : List ℕ} → Filled w₀ i w → i + 8 ≤ length w
    → Filled w₀ (i + 8) (set (set (set (set (set (set (set (set w i 0) (i + 1) 0) (i + 2) 0) (i + 3) 0) (i + 4) 0) (i + 5) 0) (i + 6) 0) (i + 7) 0)
filled_eight {w₀} {i} {w} f l =
    let g = filled_four f (omega arith) in
    let h = f.same in
    let k = g.same in
    let p : i + 5 ≡ i + 4 + 1 = omega arith in
    let q : i + 6 ≡ i + 4 + 2 = omega arith in
    let r : i + 7 ≡ i + 4 + 3 = omega arith in
    let e : i + 8 ≡ i + 4 + 4 = omega arith in
    rw (p, q, r, e) (filled_four g (omega arith))
