-- What is left of a sum.
use Rattle.std.specs.Prelude.{◌≡◌, ℕ, suc, ◌+◌, ◌-◌, ◌*◌, ◌<◌, ◌≤◌}
use Rattle.std.proofs.Common.{suc-mul, zero-add}
use native.Mathlib.Omega.{arith}
use Rattle.writing.specs.Sum.{sum_of}

-- the first k of n numbers give x, each at most b
pub record Summing (f : ℕ → ℕ) (b n k x : ℕ) : Type 0 where
  pub most : k ≤ n
  pub few : x ≤ k * b
  pub is : x + sum_of f k (n - k) ≡ sum_of f 0 n

pub sum-none : {f : ℕ → ℕ} {b n : ℕ} → Summing f b n 0 0
sum-none {f} {b} {n} = let e : n - 0 ≡ n = omega arith in record { most = omega arith; few = omega arith; is = rw e (zero-add (sum_of f 0 n)) }

sum_open : (f : ℕ → ℕ) (k n : ℕ) → k < n → sum_of f k (n - k) ≡ f k + sum_of f (k + 1) (n - (k + 1))
unfolding sum_of
sum_open f k n h = let e : n - k ≡ suc (n - (k + 1)) = omega arith in rw e

module _ {f : ℕ → ℕ} {b n k x : ℕ} (s : Summing f b n k x) where
  pub sum_more : k < n → {y : ℕ} → y ≡ f k → y ≤ b → Summing f b n (k + 1) (x + y)
  sum_more h {y} e l =
      let o = sum_open f k n h in
      let m = suc-mul k b in
      let q : k + 1 ≡ suc k = omega arith in
      record { most = omega arith; few = rw q (omega (arith, m, s.few, l)); is = omega (arith, s.is, o, e) }

  pub sum-all : n ≤ k → x ≡ sum_of f 0 n
  unfolding sum_of
  sum-all h = let e : n - k ≡ 0 = omega arith in let i = rw e at s.is in omega (arith, i)
