-- The blocks of a column: enough for all records, each but the last full.
use Rattle.std.specs.Prelude.{ℕ, zero, suc, ◌+◌, ◌-◌, ◌*◌, ◌/◌, ◌≤◌, ◌<◌, ◌≡◌, refl, Bool, true, false, leb, eqb}
use Rattle.std.proofs.Common.{sym, mul-pos, le-mul_of_pos_right, mul-zero, zero-mul, suc-mul, one-mul, div-mul-le_self, arith, lit<, leb-true, leb-false}
use Rattle.std.proofs.Math.Nat.{le-max_left, div-eq_of_lt-le, lt-div-mul-add}
use Prim.{tt}
use Rattle.base.specs.Choice.{pick, if_le, if_eq}
use Rattle.base.specs.ChoiceLaws.{eq_yes, eq_no, le_yes, le_no}
use Rattle.plan.specs.Geometry.{align8, power_in, step_of, per_block, block_count, per_full}

pub align_up : (x : ℕ) → x ≤ align8 x
unfolding align8
align_up x = omega arith

pub align_near : (x : ℕ) → align8 x < x + 8
unfolding align8
align_near x = omega arith

-- what holds of both answers holds of the choice
either_way : (P : ℕ → Type 0) (m n a b : ℕ) → P a → P b → P (if_eq m n a b)
unfolding if_eq
either_way P m n a b p q = go (eqb m n)
  where
    go : (t : Bool) → P (pick t a b)
    go true = p
    go false = q

-- a step is at least 1
step-some : (w : ℕ) → 0 < step_of w
unfolding step_of power_in
step-some w =
    either_way (λ (x : ℕ). 0 < 8 / x) _ _ _ _ (lit< tt)
    (either_way (λ (x : ℕ). 0 < 8 / x) _ _ _ _ (lit< tt) (either_way (λ (x : ℕ). 0 < 8 / x) _ _ _ _ (lit< tt) (lit< tt)))

per_some : (size w : ℕ) → 0 < per_block size w
unfolding per_block
per_some size w = omega (arith, step-some w, le-max_left (step_of w) (size / w / step_of w * step_of w))

-- n records in k blocks of m: all but one full, the last not empty
pub record Split (m k n : ℕ) : Type 0 where
  pub full : ℕ
  pub blocks : k ≡ suc full
  pub left : full * m < n
  pub enough : n ≤ full * m + m
  pub single : full ≡ 0 → m ≡ n

split_many : (p n k : ℕ) → p < n → k * p ≤ n + p - 1 → n + p - 1 < k * p + p → Split p k n
split_many p n zero h a b = absurd (omega (arith, zero-mul p))
split_many p n (suc j) h a b =
    let e : suc j * p ≡ j * p + p = suc-mul j p in
    let f : n ≤ j * p + p = omega arith in
    record {
      full = j;
      blocks = refl;
      left = omega arith;
      enough = f;
      single = λ q. let g : n ≤ 0 * p + p = rw q at f in absurd (omega (arith, zero-mul p));
    }

-- p records at most in a block
split_by : (p n : ℕ) → 0 < p → 0 < n → Split (if_le n p n p) ((n + p - 1) / p) n
split_by p n hp hn = go (leb n p) refl
  where
    go : (t : Bool) → leb n p ≡ t → Split (if_le n p n p) ((n + p - 1) / p) n
    go true q =
        let h = leb-true n p q in
        let m : n ≡ if_le n p n p = le_yes n p n p h refl in
        let one : (n + p - 1) / p ≡ 1 = div-eq_of_lt-le p (omega (arith, one-mul p)) (omega arith) in
        rw (← m, one) (record {
          full = 0;
          blocks = refl;
          left = omega (arith, zero-mul n);
          enough = omega (arith, zero-mul n);
          single = λ e. refl;
        })
    go false q =
        let h = leb-false n p q in
        let m : p ≡ if_le n p n p = le_no n p n p h refl in
        rw (← m) (split_many p n ((n + p - 1) / p) h (div-mul-le_self (n + p - 1) p) (lt-div-mul-add hp))

-- a column with width and records
pub split : (size w n : ℕ) → 0 < w → 0 < n → Split (per_full size w n) (block_count size w n) n
unfolding per_full block_count
split size w n hw hn =
    let e : (n + per_block size w - 1) / per_block size w ≡ if_eq (w * n) 0 0 ((n + per_block size w - 1) / per_block size w) =
    eq_no (w * n) 0 0 ((n + per_block size w - 1) / per_block size w) (λ q. omega (arith, mul-pos hw hn)) refl in
    rw (← e) (split_by (per_block size w) n (per_some size w) hn)

-- "A column of width 0 or without records has no blocks"
pub no_blocks_lem : (size w n : ℕ) → w * n ≡ 0 → block_count size w n ≡ 0
unfolding block_count
no_blocks_lem size w n h = sym (eq_yes (w * n) 0 0 ((n + per_block size w - 1) / per_block size w) h refl)

-- a block that is not the last has records
pub split_some : {m k n : ℕ} → Split m k n → 0 < m
split_some x = let a = x.left in let b = x.enough in omega arith

-- no more blocks than records
pub blocks-few : (size w n : ℕ) → block_count size w n ≤ n
blocks-few size zero n = omega (arith, no_blocks_lem size 0 n (zero-mul n))
blocks-few size (suc w) zero = omega (arith, no_blocks_lem size (suc w) 0 (mul-zero (suc w)))
blocks-few size (suc w) (suc n) =
    let x = split size (suc w) (suc n) (omega arith) (omega arith) in
    omega (arith, x.blocks, x.left, le-mul_of_pos_right x.full (split_some x))
