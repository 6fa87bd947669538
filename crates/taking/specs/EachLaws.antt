-- What is left of the columns gives what all give.
use Rattle.std.specs.Prelude.{ℕ, zero, suc, ◌+◌, ◌-◌, ◌≤◌, ◌<◌, ◌≡◌, Result, Ok, Err, ⊤}
use Rattle.std.proofs.Common.{sub-one}
use Rattle.std.proofs.Math.Nat.{sub-zero}
use native.Mathlib.Omega.{arith}
use Rattle.base.specs.Checked.{and_then, Verdict, fine}
use Rattle.fields.specs.declared.refusal.Refusal.{Refusal}
use Rattle.fields.specs.Answer.{verdict_of, refused_by}
use Rattle.blocks.specs.AnswerLaws.{so_fine, so_refused}
use Rattle.taking.specs.Each.{each}

each_open : (f : ℕ → Verdict) (n k : ℕ) → 0 < n → each f n k ≡ and_then (f k) (λ _. each f (n - 1) (k + 1))
unfolding each
each_open f zero k h = absurd (omega arith)
each_open f (suc n) k h = rw (sub-one (suc n))

pub each_begin : (f : ℕ → Verdict) (n : ℕ) → each f (n - 0) 0 ≡ each f n 0
each_begin f n = rw sub-zero

module _ (f : ℕ → Verdict) (n k : ℕ) {v : Verdict} (i : each f (n - k) k ≡ v) where
  pub each_end : n ≤ k → fine ≡ v
  unfolding each
  each_end h = let z : n - k ≡ 0 = omega arith in rw z at i

  module _ (h : k < n) where
    there : and_then (f k) (λ _. each f (n - (k + 1)) (k + 1)) ≡ v
    there = let d : n - k - 1 ≡ n - (k + 1) = omega arith in rw (each_open f (n - k) k (omega arith), d) at i

    module _ {r : Result ⊤ Refusal} (e : verdict_of r ≡ f k) where
      pub each_refused : {x : Refusal} → r ≡ Err x → refused_by x ≡ v
      each_refused q = rw (so_refused e q) at there

      pub each_next : {u : ⊤} → r ≡ Ok u → each f (n - (k + 1)) (k + 1) ≡ v
      each_next q = rw (so_fine e q) at there
