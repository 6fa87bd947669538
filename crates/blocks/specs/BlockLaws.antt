-- The cases of a block's definitions, one law for each way of the code; and what is known of a block that passed its checks.
use Rattle.std.specs.Prelude.{ℕ, ◌+◌, ◌*◌, ◌^◌, ◌≤◌, ◌<◌, min, List, ◌≡◌, refl, Bool, true, false, ltb}
use Rattle.std.proofs.Math.Path.{sym}
use Rattle.std.proofs.Common.{◌∙◌, ap, le_of_lt, ltb-true, ltb-false}
use Rattle.std.proofs.Math.Nat.{min-eq_left, min-eq_right, min-le_right}
use native.Mathlib.Omega.{arith}
use Rattle.std.proofs.Math.ListN.{length}
use Rattle.base.specs.ChoiceLaws.{lt_back, le-first}
use Rattle.base.specs.Checked.{Verdict, fine}
use Rattle.base.specs.Field.{le_at, Field}
use Rattle.base.specs.FieldLaws.{le-past}
use Rattle.std.specs.Prelude.{Result, Ok, Err, ⊤}
use Rattle.fields.specs.declared.refusal.Refusal.{Refusal}
use Rattle.fields.specs.Answer.{verdict_of, refused_by}
use Rattle.mdf.specs.Block.{Wanted, size_at, links_at, link_at, data_at, header_in, length_in, most_bytes, whole_at, wanted_at, block_at}
use Rattle.blocks.specs.AnswerLaws.{refused≢ok, so_fine, so_refused, then_fine}

-- ---- past the image every field is 0
module _ (s : List ℕ) (a : ℕ) (past : length s < a) where
  pub size-past : 0 ≡ size_at s a
  unfolding size_at
  size-past = sym (le-past 8 s (a + 8) (omega arith))

  pub links_past : 0 ≡ links_at s a
  unfolding links_at
  links_past = sym (le-past 8 s (a + 16) (omega arith))

pub link-past : (s : List ℕ) (a i : ℕ) → length s ≤ a + 24 + 8 * i → 0 ≡ link_at s a i
unfolding link_at
link-past s a i h = sym (le-past 8 s (a + 24 + 8 * i) h)

-- ---- where the data begins, in the image or at its end
module _ (s : List ℕ) (a : ℕ) where
  pub begins_in : {l r : ℕ} → l ≡ links_at s a → r ≡ a + 24 + 8 * l → r ≤ length s → r ≡ min (data_at s a) (length s)
  unfolding data_at
  begins_in p q h =
      let e : a + 24 + 8 * links_at s a ≤ length s = omega arith in
      omega (arith, min-eq_left e)

  pub begins-past : length s ≤ data_at s a → length s ≡ min (data_at s a) (length s)
  begins-past h = sym (min-eq_right h)

  -- the field at byte i of the data, read from there: past the image both are 0
  pub data_field : (n i : ℕ) → le_at n s (min (data_at s a) (length s) + i) ≡ le_at n s (data_at s a + i)
  data_field n i = go (ltb (length s) (data_at s a)) refl
    where
      go : (t : Bool) → ltb (length s) (data_at s a) ≡ t → le_at n s (min (data_at s a) (length s) + i) ≡ le_at n s (data_at s a + i)
      go true q =
          let h = ltb-true (length s) (data_at s a) q in
          let e : min (data_at s a) (length s) ≡ length s = min-eq_right (le_of_lt h) in
          rw e (le-past n s (length s + i) (omega arith) ∙ sym (le-past n s (data_at s a + i) (omega arith)))
      go false q = ap (λ (m : ℕ). le_at n s (m + i)) (min-eq_left (ltb-false (length s) (data_at s a) q))

  pub begins-within : {r : ℕ} → r ≡ min (data_at s a) (length s) → r ≤ length s
  begins-within e = omega (arith, min-le_right (data_at s a) (length s))

  -- what is read there, as a field of the data
  pub data_read : (n i : ℕ) {b r : ℕ} → b ≡ min (data_at s a) (length s) → Field n s (b + i) r → Field n s (data_at s a + i) r
  data_read n i e f = record { is = f.is ∙ rw e (data_field n i); small = f.small }

  -- past the image it is 0
  pub data_past : (n i : ℕ) → length s < i → 0 < 256 ^ n → Field n s (data_at s a + i) 0
  data_past n i h small = record { is = sym (le-past n s (data_at s a + i) (omega arith)); small = small }

-- ---- a check after a check: a refusal of the first is the answer, else the second's answer is
module _ (s : List ℕ) (a : ℕ) where
  pub whole_refused : {o : Result ⊤ Refusal} {x : Refusal} → verdict_of o ≡ header_in s a → o ≡ Err x → refused_by x ≡ whole_at s a
  unfolding whole_at
  whole_refused e q = rw (so_refused e q)

  pub whole_checked : {u : ⊤} {o : Result ⊤ Refusal} {v : Verdict} → verdict_of o ≡ header_in s a → o ≡ Ok u → v ≡ length_in most_bytes s a → v ≡ whole_at s a
  unfolding whole_at
  whole_checked e q k = rw (so_fine e q) k

module _ (w : Wanted) (s : List ℕ) (a : ℕ) where
  pub block_refused : {o : Result ⊤ Refusal} {x : Refusal} → verdict_of o ≡ whole_at s a → o ≡ Err x → refused_by x ≡ block_at w s a
  unfolding block_at
  block_refused e q = rw (so_refused e q)

  pub block_checked : {u : ⊤} {o : Result ⊤ Refusal} {v : Verdict} → verdict_of o ≡ whole_at s a → o ≡ Ok u → v ≡ wanted_at w s a → v ≡ block_at w s a
  unfolding block_at
  block_checked e q k = rw (so_fine e q) k

-- ---- what is known of a block that passed
pub header-fits : (s : List ℕ) (a : ℕ) → header_in s a ≡ fine → a + 24 ≤ length s
unfolding header_in
header-fits s a e = (le-first _ _ _ _ e refused≢ok).0

-- after header range, 8, 9 and range
pub record Whole (s : List ℕ) (a : ℕ) : Type 0 where
  pub range : a + size_at s a ≤ length s
  pub within : 24 + 8 * links_at s a ≤ size_at s a
  pub short : size_at s a ≤ 268435456

-- 8, 9 and range with another greatest length
pub length-fits : (most : ℕ) (s : List ℕ) (a : ℕ) → length_in most s a ≡ fine
    → (24 + 8 * links_at s a ≤ size_at s a) × (size_at s a ≤ most) × (a + size_at s a ≤ length s)
unfolding length_in
length-fits most s a e =
    let b = lt_back _ _ _ _ e refused≢ok in
    let c = lt_back _ _ _ _ b.1 refused≢ok in
    let d = lt_back _ _ _ _ c.1 refused≢ok in
    (b.0, c.0, d.0)

pub whole_fits : (s : List ℕ) (a : ℕ) → whole_at s a ≡ fine → Whole s a
unfolding whole_at
whole_fits s a e =
    let b = length-fits most_bytes s a (then_fine (header_in s a) (λ _. length_in most_bytes s a) e).1 in
    record { range = b.2; within = b.0; short = b.1 }
