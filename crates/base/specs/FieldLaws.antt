-- A field of m + n bytes is the field of its first m and the field of the n after them: the one law behind every width.
use Rattle.std.specs.Prelude.{ℕ, zero, suc, ◌+◌, ◌*◌, ◌/◌, ◌^◌, ◌≤◌, List, ◌≡◌, refl, length}
use Rattle.std.proofs.Common.{ap, add-zero, zero-add, one-mul, suc-add, pow-suc, mul_assoc, mul_comm, arith}
use Rattle.std.proofs.Math.Nat.{pow-zero}
use Rattle.std.proofs.Math.ListN.{get_or-eq_default}
use Rattle.base.specs.Field.{le_at, le}

pub split : (m n : ℕ) (s : List ℕ) (at : ℕ) → le_at (m + n) s at ≡ le_at m s at + 256 ^ m * le_at n s (at + m)
unfolding le_at
split zero n s at = simp (zero-add, add-zero, pow-zero, one-mul)
split (suc m) n s at =
    let ih = split m n s (at + 1) in
    let place : at + 1 + m ≡ at + suc m = omega arith in
    let scaled : 256 ^ m * 256 * le_at n s (at + 1 + m) ≡ 256 * (256 ^ m * le_at n s (at + 1 + m)) = rw (mul_comm (256 ^ m) 256, mul_assoc) in
    simp (suc-add, pow-suc) (rw (← place) (omega arith))

pub length-le : (n x : ℕ) → length (le n x) ≡ n
unfolding le
length-le zero x = refl
length-le (suc n) x = ap suc (length-le n (x / 256))

-- past the end there are only zeros
pub le-past : (n : ℕ) (s : List ℕ) (at : ℕ) → length s ≤ at → le_at n s at ≡ 0
unfolding le_at
le-past zero s at h = refl
le-past (suc n) s at h = rw (get_or-eq_default s 0 h, le-past n s (at + 1) (omega arith))
