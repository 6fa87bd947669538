-- A byte so many times, a dash, a number at the right.
use Rattle.std.specs.Prelude.{ℕ, zero, suc, ◌+◌, ◌-◌, ◌≤◌, ◌<◌, List, [], ◌∷◌, ◌≡◌, refl, length, replicate}
use Rattle.std.proofs.Math.Path.{sym}
use Rattle.std.proofs.Common.{◌∙◌, sub-one}
use native.Mathlib.Omega.{arith}
use Rattle.base.specs.ChoiceLaws.{lt_yes, lt_no}
use Rattle.base.specs.Field.{le}
use Rattle.base.specs.Blit.{blit, part}
use Rattle.base.specs.BlitLaws.{blit-append, part-blit}
use Rattle.result.specs.Listing.{decimal}
use Rattle.texts.specs.Laid.{Laid}
use Rattle.sheet.specs.Sheet.{ascii, left_in, right_in}
use Rattle.sheets.specs.Piece.{Piece}
use Rattle.sheets.specs.PieceLaws.{piece_then, piece_as, piece_byte}

-- ---- a byte n times: what is left of it, laid over the list as it is now, gives g
module _ (n p b : ℕ) (d : List ℕ) {g : List ℕ} (i : blit p (replicate n b) d ≡ g) where
  pub fill_turn : {m : ℕ} (e : List ℕ) → 0 < n → m ≡ n - 1 → b < 256 → e ≡ blit p (le 1 b) d → blit (p + 1) (replicate m b) e ≡ g
  fill_turn e h x l q = rw x (go n h i)
    where
      one : Piece p (b ∷ []) 1 d e
      one = piece_byte b l q

      go : (k : ℕ) → 0 < k → blit p (replicate k b) d ≡ g → blit (p + 1) (replicate (k - 1) b) e ≡ g
      go zero x y = absurd (omega arith)
      go (suc k) x y = rw (one.is, sub-one) (sym (blit-append (b ∷ []) p (replicate k b) d) ∙ y)

  pub fill_end : n ≤ 0 → d ≡ g
  unfolding blit
  fill_end h = let e : n ≡ 0 = omega arith in rw e at i

-- ---- `-`
pub dash_put : (w : ℕ) {at : ℕ} {d e f : List ℕ} → 1 ≤ w → e ≡ blit at (le 1 45) d → Piece (at + 1) (replicate (w - 1) 32) (w - 1) e f
    → Piece at (left_in w (ascii "-")) w d f
unfolding left_in
dash_put w {at} {d} {e} {f} h p q =
    let t = piece_then (piece_byte 45 (omega arith) p) q in
    let n : 1 + (w - 1) ≡ w = omega arith in
    rw n at t

-- ---- a number
module _ (w n : ℕ) {zeros digits : List ℕ} {count : ℕ} (a : Laid 0 (decimal n) 20 zeros digits (0 + count)) where
  many : count ≡ length (decimal n)
  many = omega (arith, a.past)

  pub right_wide : {at : ℕ} {d e : List ℕ} → w < count → Piece at (replicate w 35) w d e → Piece at (right_in w n) w d e
  unfolding right_in
  right_wide h p = piece_as p (lt_yes _ _ _ _ (rw many at h) refl)

  pub right_fits : {at : ℕ} {d e f : List ℕ} → count ≤ w → 20 ≤ length zeros → Piece at (replicate (w - count) 32) (w - count) d e
      → f ≡ blit (at + (w - count)) (part 0 count digits) e → Piece at (right_in w n) w d f
  unfolding right_in
  right_fits {at} {d} {e} {f} h z p q =
      let c = many in
      let made : part 0 count digits ≡ decimal n = rw (a.is, c) (part-blit 0 (decimal n) zeros (omega (arith, a.small))) in
      let t : Piece (at + (w - count)) (decimal n) count e f = record { is = rw made at q; long = sym c } in
      let l : w - count + count ≡ w = omega arith in
      piece_as (rw l at (piece_then p t)) (lt_no _ _ _ _ (rw c at h) (rw c))
