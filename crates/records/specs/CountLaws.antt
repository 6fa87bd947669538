-- The bytes of the DT and of the DV, fragment by fragment, and the count of a group that is alone in its DG.
use Rattle.std.specs.Prelude.{ℕ, ◌+◌, ◌/◌, ◌≤◌, ◌<◌, List, [], ◌∷◌, Bool, true, false, ◌≡◌, length, get_or, Option, Some, None, Result, Ok, Err}
use Rattle.std.specs.Option.{SomeIff, ok_or}
use mathlib.Core.Bool.{beq}
use Rattle.std.proofs.Math.Path.{refl, sym}
use Rattle.std.proofs.Common.{◌∙◌, add-zero, add_assoc, arith}
use Rattle.base.specs.ChoiceLaws.{lt_yes, lt_no, lt_back, lt_first, eq_yes, eq_no}
use Rattle.base.specs.Checked.{Checked, ok, refused}
use Rattle.mdf.specs.Chain.{Kind, dt, dv, Fragment}
use Rattle.work_words.specs.Words.{kind_of, fragments_of}
use Rattle.mdf.specs.Records.{is_dv, most64, record_size}
use Rattle.mdf.specs.Count.{size_dt, size_dv, quotient, sorted_count, count_one}
use Rattle.fields.specs.declared.refusal.Refusal.{Refusal}
use Rattle.fields.specs.declared.refusal.Refusal.TheVariants.{OverLimit}
use Rattle.fields.specs.Answer.{number_of, place_of}
use Rattle.records.specs.Answer.{counted_of}
use Rattle.records.specs.Counted.{bytes_of, own_bytes, within64}
use Rattle.records.specs.Ahead.{fragments_from}
use Rattle.records.specs.FragmentLaws.{from_start, from_more, from-none}

pub bytes-start : (b : Bool) (ws : List ℕ) → bytes_of b (fragments_from ws 0) ≡ bytes_of b (fragments_of ws)
bytes-start b ws = rw (from_start ws)

bytes_cons : (b : Bool) (o n : ℕ) (k : Kind) (fs : List Fragment)
    → bytes_of b (record { offset = o; size = n; kind = k } ∷ fs) ≡ own_bytes b k n + bytes_of b fs
unfolding size_dt size_dv
bytes_cons false o n dt fs = refl
bytes_cons false o n dv fs = refl
bytes_cons true o n dt fs = refl
bytes_cons true o n dv fs = refl

bytes_nil : (b : Bool) → bytes_of b [] ≡ 0
unfolding size_dt size_dv
bytes_nil false = refl
bytes_nil true = refl

-- one fragment more, and the end
module _ (b : Bool) (ws : List ℕ) (i n : ℕ) {m : ℕ} (rest : n + bytes_of b (fragments_from ws i) ≡ m) where
  pub bytes_next : i + 3 ≤ length ws
      → n + own_bytes b (kind_of (get_or ws (i + 2) 0)) (get_or ws (i + 1) 0) + bytes_of b (fragments_from ws (i + 3)) ≡ m
  bytes_next h =
      add_assoc n _ _ ∙ (rw (
        from_more ws i h,
        bytes_cons b (get_or ws i 0) (get_or ws (i + 1) 0) (kind_of (get_or ws (i + 2) 0))
            (fragments_from ws (i + 3)),
      ) at rest)

  pub bytes_end : length ws < i + 3 → n ≡ m
  bytes_end h = sym (add-zero n) ∙ (rw (from-none ws i h, bytes_nil b) at rest)

-- within 2^64 - 1 or not
pub within-over : (d n : ℕ) → most64 < n → refused 19 d ≡ within64 d n
unfolding within64
within-over d n h = lt_yes _ _ _ _ h refl

pub within_in : (d n : ℕ) → n ≤ most64 → ok (n ∷ []) ≡ within64 d n
unfolding within64
within_in d n h = lt_no _ _ _ _ h refl

ok≢refused : {A : Type 0} {a : A} {n p : ℕ} → ok a ≡ refused n p → ⊥
ok≢refused e = let z : ◌≡◌ {A = ℕ} 0 1 = cc in omega arith

refused≢ok : {A : Type 0} {a : A} {n p : ℕ} → refused n p ≡ ok a → ⊥
refused≢ok e = let z : ◌≡◌ {A = ℕ} 0 1 = cc in omega arith

within_refused : (d n : ℕ) {number place : ℕ} → within64 d n ≡ refused number place
    → (most64 < n) × ◌≡◌ {A = Checked (List ℕ)} (refused 19 d) (refused number place)
unfolding within64
within_refused d n e = lt_first _ _ _ _ e ok≢refused

same_count : {a n : ℕ} → ok (n ∷ []) ≡ ok (a ∷ []) → n ≡ a
same_count e = cc

within_ok : (d n : ℕ) {a : ℕ} → within64 d n ≡ ok (a ∷ []) → (n ≤ most64) × (n ≡ a)
unfolding within64
within_ok d n e = let b = lt_back _ _ _ _ e refused≢ok in (b.0, same_count b.1)

-- ---- the count of one group
module _ (s : List ℕ) (d g : ℕ) (fs : List Fragment) where
  pub one-dt : {number place : ℕ} → within64 d (bytes_of false fs) ≡ refused number place → refused number place ≡ count_one s d g fs
  unfolding count_one
  one-dt e = let w = within_refused d _ e in sym w.1 ∙ lt_yes _ _ _ _ w.0 refl

  pub one-dv : {a number place : ℕ} → within64 d (bytes_of false fs) ≡ ok (a ∷ []) → within64 d (bytes_of true fs) ≡ refused number place
      → refused number place ≡ count_one s d g fs
  unfolding count_one
  one-dv e q = let v = within_ok d _ e in let w = within_refused d _ q in sym w.1 ∙ lt_no _ _ _ _ v.0 (lt_yes _ _ _ _ w.0 refl)

  pub one_count : {a b x y : ℕ} {r : Checked (List ℕ)} → within64 d (bytes_of false fs) ≡ ok (a ∷ [])
      → within64 d (bytes_of true fs) ≡ ok (b ∷ [])
      → x ≡ quotient a (record_size s d g dt) → y ≡ quotient b (record_size s d g dv) → r ≡ within64 d (x + y) → r ≡ count_one s d g fs
  unfolding count_one sorted_count within64
  one_count e q m n k =
      let v = within_ok d _ e in
      let w = within_ok d _ q in
      lt_no _ _ _ _ v.0 (lt_no _ _ _ _ w.0 (k ∙ rw (m, n, ← v.1, ← w.1)))

-- ---- a fragment's own bytes
module _ (k : Kind) (n : ℕ) {a : Bool} (is : a ≡ is_dv k) (b : Bool) where
  pub own : {r : ℕ} → beq a b ≡ true → r ≡ n → r ≡ own_bytes b k n
  own q e = go k b (rw is at q) e
    where
      go : (k : Kind) (b : Bool) → beq (is_dv k) b ≡ true → {r : ℕ} → r ≡ n → r ≡ own_bytes b k n
      go dt false h e = e
      go dt true h e = absurd (let z : ◌≡◌ {A = ℕ} 0 1 = cc in omega arith)
      go dv false h e = absurd (let z : ◌≡◌ {A = ℕ} 0 1 = cc in omega arith)
      go dv true h e = e

  pub other : beq a b ≡ false → 0 ≡ own_bytes b k n
  other q = go k b (rw is at q)
    where
      go : (k : Kind) (b : Bool) → beq (is_dv k) b ≡ false → 0 ≡ own_bytes b k n
      go dt false h = absurd (let z : ◌≡◌ {A = ℕ} 0 1 = cc in omega arith)
      go dt true h = refl
      go dv false h = refl
      go dv true h = absurd (let z : ◌≡◌ {A = ℕ} 0 1 = cc in omega arith)

pub quotient-none : (n m : ℕ) → m ≡ 0 → 0 ≡ quotient n m
unfolding quotient
quotient-none n m e = eq_yes _ _ _ _ e refl

pub quotient-some : (n m : ℕ) → (m ≡ 0 → ⊥) → n / m ≡ quotient n m
unfolding quotient
quotient-some n m h = eq_no _ _ _ _ h refl

-- ---- from the answer to the count
pub so_over : {o : Result ℕ Refusal} {v : Checked (List ℕ)} {x : Refusal} → counted_of o ≡ v → o ≡ Err x → v ≡ refused (number_of x) (place_of x)
so_over e q = sym e ∙ rw q

pub so_counted : {o : Result ℕ Refusal} {v : Checked (List ℕ)} {n : ℕ} → counted_of o ≡ v → o ≡ Ok n → v ≡ ok (n ∷ [])
so_counted e q = sym e ∙ rw q

pub sum_tested : (d n : ℕ) (o : Option ℕ) {r : Result ℕ Refusal} → SomeIff o (n < 18446744073709551616) n → r ≡ ok_or o (OverLimit d) → counted_of r ≡ within64 d n
sum_tested d n None h e = rw e (within-over d n (omega (arith, h)))
sum_tested d n (Some x) h e = let p = h.0 in rw (e, h.1) (within_in d n (omega arith))

-- a sum that is too large
pub record Over (d n : ℕ) (x : Refusal) : Type 0 where
  pub over : most64 < n
  pub number : number_of x ≡ 19
  pub place : place_of x ≡ d

same_refusal : {d x p : ℕ} → ◌≡◌ {A = Checked (List ℕ)} (refused 19 d) (refused x p) → (x ≡ 19) × (p ≡ d)
same_refusal e = (cc, cc)

pub sum_over : (d n : ℕ) {o : Result ℕ Refusal} {x : Refusal} → counted_of o ≡ within64 d n → o ≡ Err x → Over d n x
sum_over d n e q =
    let w = within_refused d n (so_over e q) in
    let s = same_refusal w.1 in
    record { over = w.0; number = s.0; place = s.1 }

pub sum_is : (d n : ℕ) {o : Result ℕ Refusal} {x : ℕ} → counted_of o ≡ within64 d n → o ≡ Ok x → (n ≤ most64) × (n ≡ x)
sum_is d n e q = within_ok d n (so_counted e q)

pub quotient-at : (n m : ℕ) {k r : ℕ} → r ≡ quotient n m → m ≡ k → r ≡ quotient n k
quotient-at n m e q = rw (← q) e
