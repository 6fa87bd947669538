-- Laws of the step, of the records of a block and of the number of blocks.
use Rattle.std.specs.Prelude.{ℕ, zero, suc, ◌+◌, ◌*◌, ◌-◌, ◌/◌, ◌%◌, ◌<◌, ◌≡◌, refl, min, max}
use Rattle.std.proofs.Common.{sym, ◌∙◌, le_trans, mul-pos, mul-zero, zero-mul, arith}
use Rattle.std.proofs.lemmas.Bool.Decides.{nat_tests}
use Rattle.std.proofs.Math.Nat.{le-max_left, div-zero, add-div_right}
use Rattle.std.specs.Int.Count.{count_trailing_zeros}
use Rattle.base.specs.Choice.{if_le, if_eq}
use Rattle.base.specs.ChoiceLaws.{eq_yes, eq_no}
use Rattle.plan.specs.Geometry.{power_in, step_of, per_block, block_count, per_full}

-- ---- the step by the trailing zeros: the lowest digit of w, and the zeros above it
data Digit (k w : ℕ) : Type 0 where
  set : w % 2 ≡ 1 → count_trailing_zeros (suc k) w ≡ 0 → Digit k w
  clear : w % 2 ≡ 0 → count_trailing_zeros (suc k) w ≡ suc (count_trailing_zeros k (w / 2)) → Digit k w

digit : (k w : ℕ) → Digit k w
unfolding count_trailing_zeros
digit k w = go (w % 2) refl
  where
    go : (d : ℕ) → w % 2 ≡ d → Digit k w
    go zero q = clear q (rw q)
    go (suc zero) q = set q (rw q)
    go (suc (suc d)) q = absurd (omega arith)

-- "Trailing zeros of the record width, capped at three, give the step"
unfoldable pub capped : ℕ → ℕ
capped z = if_eq z 0 8 (if_eq z 1 4 (if_eq z 2 2 1))

capped-more : (z : ℕ) → 1 ≡ capped (suc (suc (suc z)))
unfolding capped
capped-more z = eq_no _ _ _ _ (omega arith) (eq_no _ _ _ _ (omega arith) (eq_no _ _ _ _ (omega arith) refl))

stepped : (w : ℕ) {p : ℕ} → p ≡ power_in w → 8 / p ≡ step_of w
unfolding step_of
stepped w e = rw e

pub step-zeros : (k w : ℕ) {r : ℕ} → r ≡ capped (count_trailing_zeros (suc (suc (suc k))) w) → r ≡ step_of w
unfolding capped power_in if_eq
step-zeros k w e = e ∙ one (digit (suc (suc k)) w)
  where
    three : w % 2 ≡ 0 → w / 2 % 2 ≡ 0 → Digit k (w / 2 / 2) → capped (suc (suc (count_trailing_zeros (suc k) (w / 2 / 2)))) ≡ step_of w
    three a b (set p q) =
        let whole : w ≡ 8 * (w / 2 / 2 / 2) + 4 = omega arith in
        rw q (stepped w (eq_no (w % 8) 0 _ _ (omega arith) (eq_yes (w % 4) 0 _ _ (omega arith) refl)))
    three a b (clear p q) =
        rw q (sym (capped-more (count_trailing_zeros k (w / 2 / 2 / 2))) ∙ stepped w (eq_yes (w % 8) 0 _ _ (omega arith) refl))

    two : w % 2 ≡ 0 → Digit (suc k) (w / 2) → capped (suc (count_trailing_zeros (suc (suc k)) (w / 2))) ≡ step_of w
    two a (set p q) =
        let whole : w ≡ 4 * (w / 2 / 2) + 2 = omega arith in
        rw q (stepped w (eq_no (w % 8) 0 _ _ (omega arith) (eq_no (w % 4) 0 _ _ (omega arith) (eq_yes (w % 2) 0 _ _ a refl))))
    two a (clear p q) = rw q (three a p (digit k (w / 2 / 2)))

    one : Digit (suc (suc k)) w → capped (count_trailing_zeros (suc (suc (suc k))) w) ≡ step_of w
    one (set p q) =
        rw q (stepped w (eq_no (w % 8) 0 _ _ (omega arith) (eq_no (w % 4) 0 _ _ (omega arith) (eq_no (w % 2) 0 _ _ (omega arith) refl))))
    one (clear p q) = rw q (two p (digit (suc k) (w / 2)))

capped_pos : (z : ℕ) → 0 < capped z
unfolding capped if_eq
capped_pos zero = omega arith
capped_pos (suc zero) = omega arith
capped_pos (suc (suc zero)) = omega arith
capped_pos (suc (suc (suc z))) = omega (arith, capped-more z)

pub step_pos : (w : ℕ) {step : ℕ} → step ≡ step_of w → 0 < step
step_pos w e = rw (e, ← step-zeros 0 w refl) (capped_pos _)

-- ---- records of a block
pub per_none : (size w : ℕ) → w ≡ 0 → 1 ≡ per_block size w
unfolding per_block step_of power_in if_eq
per_none size w h = rw (h, div-zero)

pub per_larger : (size w : ℕ) {step : ℕ} → step ≡ step_of w → max step (size / w / step * step) ≡ per_block size w
unfolding per_block
per_larger size w e = rw e

pub per_least : (size w n : ℕ) {full : ℕ} → full ≡ per_block size w → min n full ≡ per_full size w n
unfolding per_full if_le
per_least size w n e = rw (← e) (grind (arith, nat_tests))

pub per_pos : (size w : ℕ) → 0 < per_block size w
unfolding per_block
per_pos size w = le_trans (step_pos w refl) (le-max_left _ _)

-- ---- the number of blocks
pub count_no_width : (size w n : ℕ) → w ≡ 0 → 0 ≡ block_count size w n
unfolding block_count
count_no_width size w n h = eq_yes _ _ _ _ (rw (h, zero-mul)) refl

pub count_no_records : (size w n : ℕ) → n ≡ 0 → 0 ≡ block_count size w n
unfolding block_count
count_no_records size w n h = eq_yes _ _ _ _ (rw (h, mul-zero)) refl

pub count_some : (size w n : ℕ) {full : ℕ} → full ≡ per_block size w → 0 < w → 0 < n → (n - 1) / full + 1 ≡ block_count size w n
unfolding block_count
count_some size w n e h k =
    let up : n + per_block size w - 1 ≡ n - 1 + per_block size w = omega arith in
    let some : 0 < w * n = mul-pos h k in
    eq_no _ _ _ _ (omega arith) (rw (e, up) (sym (add-div_right (n - 1) (per_pos size w))))
