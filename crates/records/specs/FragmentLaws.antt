-- The fragments that words give, one at a time, and the checks over them.
use Rattle.std.specs.Prelude.{ℕ, suc, ◌+◌, ◌≤◌, ◌<◌, List, [], ◌∷◌, Bool, true, false, ◌≡◌, ◌⊎◌, ltb, eqb, length, get_or, drop, not}
use Rattle.std.proofs.Math.Path.{refl, sym}
use Rattle.std.proofs.Common.{◌∙◌, inl, inr, ltb-true, ltb-false, eqb-true, arith, length-drop, drop-cons}
use Rattle.std.proofs.lemmas.Bool.{eqb-false}
use Rattle.std.proofs.Math.ListN.{get_or-eq_default}
use Rattle.base.specs.Choice.{pick, if_eq}
use Rattle.base.specs.ChoiceLaws.{lt_yes, lt_no, lt_back}
use Rattle.base.specs.Checked.{refused, Verdict, fine}
use Rattle.mdf.specs.Chain.{Kind, dt, dv, Fragment}
use Rattle.work_words.specs.Words.{kind_of, fragments_of}
use Rattle.records.specs.Ahead.{fragment_at, fragments_from}
use Rattle.records.specs.Straddle.{kind_if}
use Rattle.mdf.specs.Records.{ranges_in, is_dv, any_dv}

pub lt_or_le : (m n : ℕ) → (m < n) ⊎ (n ≤ m)
lt_or_le m n = go (ltb m n) refl
  where
    go : (t : Bool) → ltb m n ≡ t → (m < n) ⊎ (n ≤ m)
    go true q = inl (ltb-true m n q)
    go false q = inr (ltb-false m n q)

pub eq_or_ne : (m n : ℕ) → (m ≡ n) ⊎ (m ≡ n → ⊥)
eq_or_ne m n = go (eqb m n) refl
  where
    go : (t : Bool) → eqb m n ≡ t → (m ≡ n) ⊎ (m ≡ n → ⊥)
    go true q = inl (eqb-true m n q)
    go false q = inr (eqb-false m n q)

pub past_end : (ws : List ℕ) (i : ℕ) → length ws ≤ i → 0 ≡ get_or ws i 0
past_end ws i h = sym (get_or-eq_default ws 0 h)

pub from_start : (ws : List ℕ) → fragments_from ws 0 ≡ fragments_of ws
unfolding fragments_from
from_start ws = refl

pub from_more : (ws : List ℕ) (i : ℕ) → i + 3 ≤ length ws → fragments_from ws i ≡ fragment_at ws i ∷ fragments_from ws (i + 3)
unfolding fragments_from fragments_of
from_more ws i h =
    let a = drop-cons ws i 0 (omega arith) in
    let b = drop-cons ws (suc i) 0 (omega arith) in
    let c = drop-cons ws (suc (suc i)) 0 (omega arith) in
    let e : i + 3 ≡ suc (suc (suc i)) = omega arith in
    let f : i + 1 ≡ suc i = omega arith in
    let g : i + 2 ≡ suc (suc i) = omega arith in
    rw (a, b, c, e, f, g)

short : (ws : List ℕ) → length ws < 3 → fragments_of ws ≡ []
unfolding fragments_of
short [] h = refl
short (a ∷ []) h = refl
short (a ∷ b ∷ []) h = refl
short (a ∷ b ∷ c ∷ ws) h = absurd (omega arith)

pub from-none : (ws : List ℕ) (i : ℕ) → length ws < i + 3 → fragments_from ws i ≡ []
unfolding fragments_from
from-none ws i h = short (drop i ws) (simp length-drop (omega arith))

refused≢fine : {n p : ℕ} → ◌≡◌ {A = Verdict} (refused n p) fine → ⊥
refused≢fine e = let z : ◌≡◌ {A = ℕ} 0 1 = cc in omega arith

-- ---- ranges: what is left of the check gives what the whole gives
module _ (s ws : List ℕ) (i : ℕ) {v : Verdict} (rest : ranges_in s (fragments_from ws i) ≡ v) where
  pub ranges_out : {o z : ℕ} → i + 3 ≤ length ws → o ≡ get_or ws i 0 → z ≡ get_or ws (i + 1) 0 → length s < o + z → refused 4 o ≡ v
  unfolding ranges_in
  ranges_out h p q l = rw p (lt_yes _ _ _ _ (rw (p, q) at l) refl ∙ (rw (from_more ws i h) at rest))

  pub ranges_next : {o z : ℕ} → i + 3 ≤ length ws → o ≡ get_or ws i 0 → z ≡ get_or ws (i + 1) 0 → o + z ≤ length s
      → ranges_in s (fragments_from ws (i + 3)) ≡ v
  unfolding ranges_in
  ranges_next h p q l = lt_no _ _ _ _ (rw (p, q) at l) refl ∙ (rw (from_more ws i h) at rest)

  pub ranges_end : length ws < i + 3 → fine ≡ v
  unfolding ranges_in
  ranges_end h = rw (from-none ws i h) at rest

-- the ranges of all are those of each
pub ranges_head : (s : List ℕ) (f : Fragment) (fs : List Fragment) → ranges_in s (f ∷ fs) ≡ fine → f.offset + f.size ≤ length s
unfolding ranges_in
ranges_head s f fs e = (lt_back _ _ _ _ e refused≢fine).0

pub ranges_tail : (s : List ℕ) (f : Fragment) (fs : List Fragment) → ranges_in s (f ∷ fs) ≡ fine → ranges_in s fs ≡ fine
unfolding ranges_in
ranges_tail s f fs e = (lt_back _ _ _ _ e refused≢fine).1

-- ---- DV
module _ (ws : List ℕ) (i : ℕ) {b : Bool} (rest : any_dv (fragments_from ws i) ≡ b) where
  module _ {a : Bool} (h : i + 3 ≤ length ws) (p : a ≡ is_dv (kind_of (get_or ws (i + 2) 0))) where
    pub dv_met : a ≡ true → true ≡ b
    unfolding any_dv
    dv_met q = rw (from_more ws i h, ← p, q) at rest

    pub dv-next : a ≡ false → any_dv (fragments_from ws (i + 3)) ≡ b
    unfolding any_dv
    dv-next q = rw (from_more ws i h, ← p, q) at rest

  pub dv_end : length ws < i + 3 → false ≡ b
  unfolding any_dv
  dv_end h = rw (from-none ws i h) at rest

-- the kind of a word
pub dv_word : (w : ℕ) {k : ℕ} → k ≡ w → not (eqb k 0) ≡ is_dv (kind_of w)
unfolding kind_of if_eq
dv_word w e = rw e (go (eqb w 0))
  where
    go : (t : Bool) → not t ≡ is_dv (pick t dt dv)
    go true = refl
    go false = refl

pub kind_if_lem : {b : Bool} (k : Kind) → b ≡ is_dv k → k ≡ kind_if b
kind_if_lem dt e = rw e
kind_if_lem dv e = rw e
