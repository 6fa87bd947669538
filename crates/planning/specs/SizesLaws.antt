-- Laws of sizes out of words: the sum so far and what is left give the whole, at most 2^64 - 1.
use Rattle.std.specs.Prelude.{ℕ, zero, suc, ◌+◌, ◌*◌, ◌-◌, ◌≤◌, ◌<◌, min, List, [], ◌∷◌, ◌≡◌, refl, length, get_or}
use Rattle.std.proofs.Math.Path.{sym}
use Rattle.std.proofs.Common.{◌∙◌, sub-one, arith}
use Rattle.std.proofs.Math.Nat.{min-eq_left, min-eq_right}
use Rattle.std.proofs.Math.ListN.{get_or-eq_default}
use Rattle.base.specs.ChoiceLaws.{eq_yes, eq_no}
use Rattle.mdf.specs.Chain.{Fragment}
use Rattle.work_words.specs.Words.{fragment_words}
use Rattle.mdf.specs.Records.{size_of}
use Rattle.planning.specs.Sizes.{sizes_from, signal_size}

sizes_none : (f : List ℕ) (i n : ℕ) → n ≡ 0 → sizes_from f i n ≡ 0
unfolding sizes_from
sizes_none f i n e = rw e

sizes_more : (f : List ℕ) (i n : ℕ) → 0 < n → sizes_from f i n ≡ get_or f (3 * i + 1) 0 + sizes_from f (i + 1) (n - 1)
unfolding sizes_from
sizes_more f i zero h = absurd (omega arith)
sizes_more f i (suc n) h = rw sub-one

-- a fragment whose size would stand past the end has none
sizes_past : (f : List ℕ) (i n : ℕ) → length f ≤ 3 * i + 1 → sizes_from f i n ≡ 0
unfolding sizes_from
sizes_past f i zero h = refl
sizes_past f i (suc n) h = rw (get_or-eq_default f 0 h, sizes_past f (i + 1) n (omega arith))

-- the sum so far, and what is left
pub record Summing (f : List ℕ) (i₀ n₀ i n sum : ℕ) : Type 0 where
  pub small : sum ≤ 18446744073709551615
  pub rest : sum + sizes_from f i n ≡ sizes_from f i₀ n₀

pub sum_begin : (f : List ℕ) (i n : ℕ) → Summing f i n i n 0
sum_begin f i n = record { small = omega arith; rest = omega arith }

module _ {f : List ℕ} {i₀ n₀ i n sum : ℕ} (u : Summing f i₀ n₀ i n sum) where
  whole : sum ≡ sizes_from f i₀ n₀ → sum ≡ min (sizes_from f i₀ n₀) 18446744073709551615
  whole e = e ∙ sym (min-eq_left (omega (arith, e, u.small)))

  pub sum_end : n ≡ 0 → sum ≡ min (sizes_from f i₀ n₀) 18446744073709551615
  sum_end e = whole (omega (arith, u.rest, sizes_none f i n e))

  pub sum_past : length f ≤ 3 * i + 1 → sum ≡ min (sizes_from f i₀ n₀) 18446744073709551615
  sum_past h = whole (omega (arith, u.rest, sizes_past f i n h))

  module _ (h : 0 < n) {x : ℕ} (e : x ≡ get_or f (3 * i + 1) 0) where
    pub sum_over : 18446744073709551615 - sum < x → 18446744073709551615 ≡ min (sizes_from f i₀ n₀) 18446744073709551615
    sum_over l = sym (min-eq_right (omega (arith, u.rest, sizes_more f i n h)))

    pub sum-next : x ≤ 18446744073709551615 - sum → Summing f i₀ n₀ (i + 1) (n - 1) (sum + x)
    sum-next l = record { small = omega (arith, u.small); rest = omega (arith, u.rest, sizes_more f i n h) }

-- ---- signal data
module _ (f : List ℕ) (first n : ℕ) where
  pub signal_none : first ≡ 0 → 0 ≡ min (signal_size f first n) 18446744073709551615
  unfolding signal_size
  signal_none e = sym (rw (sym (eq_yes first 0 0 (sizes_from f (first - 1) n) e refl)) (min-eq_left {m = 0} (omega arith)))

  pub signal_some : {r : ℕ} → (first ≡ 0 → ⊥) → r ≡ min (sizes_from f (first - 1) n) 18446744073709551615 → r ≡ min (signal_size f first n) 18446744073709551615
  unfolding signal_size
  signal_some h e = rw (sym (eq_no first 0 0 (sizes_from f (first - 1) n) h refl)) e

-- a size of 64 bits is given as it is
pub signal_whole_lem : (f : List ℕ) (first n : ℕ) {r : ℕ} → r ≡ min (signal_size f first n) 18446744073709551615 → signal_size f first n ≤ 18446744073709551615
    → r ≡ signal_size f first n
signal_whole_lem f first n e h = e ∙ min-eq_left h

-- ---- fragments that stand in words
pub sizes_stand : (f : List ℕ) (i : ℕ) (fs : List Fragment) → ((j : ℕ) → j < 3 * length fs → get_or f (3 * i + j) 0 ≡ get_or (fragment_words fs) j 0)
    → sizes_from f i (length fs) ≡ size_of fs
unfolding sizes_from size_of fragment_words
sizes_stand f i [] h = refl
sizes_stand f i (x ∷ fs) h =
    let first : get_or f (3 * i + 1) 0 ≡ x.size = h 1 (omega arith) in
    let rest : sizes_from f (i + 1) (length fs) ≡ size_of fs =
    sizes_stand f (i + 1) fs (λ j l. let e : 3 * (i + 1) + j ≡ 3 * i + suc (suc (suc j)) = omega arith in rw e (h (suc (suc (suc j))) (omega arith))) in
    rw (first, rest)
