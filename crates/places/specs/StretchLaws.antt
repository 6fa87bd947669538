-- Stretches: none, one record, one record more; and the number of a group.
use Rattle.std.specs.Prelude.{ℕ, zero, suc, ◌+◌, ◌*◌, ◌-◌, ◌≤◌, ◌<◌, List, [], ◌∷◌, ◌++◌, false, ◌≡◌, refl, ◌⊎◌, length, get_or, take, drop}
use Rattle.std.proofs.Common.{sym, ap, ◌∙◌, inl, inr, add-zero, zero-add, zero-mul, suc-mul, arith, length-drop, take-add, drop-drop}
use Rattle.base.specs.Blit.{part}
use Rattle.mdf.specs.Group.{record_id}
use Rattle.mdf.specs.Records.{joined, known, equal_ids}
use Rattle.result.specs.Payload.{group_records}
use Rattle.work_words.specs.Words.{fragments_of}
use Rattle.payload_laws.specs.Answers.{eq_cases}
use Rattle.records.specs.TableLaws.{with_apart}
use Rattle.places.specs.Stretch.{spaced, records_at, body_bytes, number_in, StretchOf}

-- ---- places at equal distances
pub spaced-more : (first stride n : ℕ) → spaced first stride (n + 1) ≡ spaced first stride n ++ ((first + n * stride) ∷ [])
unfolding spaced
spaced-more first stride zero = let e : first + 0 * stride ≡ first = omega (arith, zero-mul stride) in rw e
spaced-more first stride (suc n) =
    let e : first + stride + n * stride ≡ first + suc n * stride = omega (arith, suc-mul n stride) in
    let q : suc n + 1 ≡ suc (n + 1) = omega arith in
    rw q (ap (λ (l : List ℕ). first ∷ l) (spaced-more (first + stride) stride n ∙ rw e))

pub length-spaced : (first stride n : ℕ) → length (spaced first stride n) ≡ n
unfolding spaced
length-spaced first stride zero = refl
length-spaced first stride (suc n) = ap suc (length-spaced (first + stride) stride n)

pub spaced-add : (first stride m n : ℕ)
    → spaced first stride (m + n) ≡ spaced first stride m ++ spaced (first + m * stride) stride n
unfolding spaced
spaced-add first stride zero n = let e : first + 0 * stride ≡ first = omega (arith, zero-mul stride) in rw (zero-add n, e)
spaced-add first stride (suc m) n =
    let e : first + stride + m * stride ≡ first + suc m * stride = omega (arith, suc-mul m stride) in
    let q : suc m + n ≡ suc (m + n) = omega arith in
    rw q (ap (λ (l : List ℕ). first ∷ l) (spaced-add (first + stride) stride m n ∙ rw e))

-- up to one place has no distance
spaced_any : (first a b n : ℕ) → n ≤ 1 → spaced first a n ≡ spaced first b n
unfolding spaced
spaced_any first a b zero h = refl
spaced_any first a b (suc zero) h = refl
spaced_any first a b (suc (suc n)) h = absurd (omega arith)

pub records_at-append : (l : List ℕ) (n : ℕ) (ps qs : List ℕ) → records_at l n (ps ++ qs) ≡ records_at l n ps ++ records_at l n qs
unfolding records_at
records_at-append l n [] qs = refl
records_at-append l n (p ∷ ps) qs = ap (λ (rs : List (List ℕ)). part p n l ∷ rs) (records_at-append l n ps qs)

pub length-records_at : (l : List ℕ) (n : ℕ) (ps : List ℕ) → length (records_at l n ps) ≡ length ps
unfolding records_at
length-records_at l n [] = refl
length-records_at l n (p ∷ ps) = ap suc (length-records_at l n ps)

pub records_at-more : (l : List ℕ) (n first stride c : ℕ)
    → records_at l n (spaced first stride (c + 1)) ≡ records_at l n (spaced first stride c) ++ (part (first + c * stride) n l ∷ [])
unfolding records_at
records_at-more l n first stride c =
    ap (records_at l n) (spaced-more first stride c) ∙ records_at-append l n (spaced first stride c) ((first + c * stride) ∷ [])

-- ---- a list of which the rest is known
rest_there : {A : Type 0} (m : ℕ) (l : List A) (x : A) (more : List A) → drop m l ≡ x ∷ more → m < length l
rest_there m l x more e = let a = length-drop m l in let b = ap length e in omega arith

take_rest : {A : Type 0} (n c : ℕ) (l : List A) (x : A) (more : List A) → drop (n + c) l ≡ x ∷ more
    → take (c + 1) (drop n l) ≡ take c (drop n l) ++ (x ∷ [])
take_rest n c l x more e =
    take-add c 1 (drop n l) ∙ ap (λ (z : List _). take c (drop n l) ++ z) (rw (drop-drop c n l, e))

-- ---- stretches
module _ {s : List ℕ} {d k : ℕ} {gs ws : List ℕ} where
  -- none
  pub stretch_none : (number first stride : ℕ) → number ≤ length (group_records s d k gs (fragments_of ws))
      → StretchOf s d k gs ws (record { number = number; first = first; stride = stride; count = 0 })
  unfolding spaced records_at
  stretch_none number first stride h = record { few = omega arith; are = refl; inside = λ z. absurd (omega arith) }

  -- one record more
  pub stretch_more : {number first stride count : ℕ} (more : List (List ℕ))
      → StretchOf s d k gs ws (record { number = number; first = first; stride = stride; count = count })
      → drop (number + count) (group_records s d k gs (fragments_of ws))
      ≡ part (first + count * stride) (body_bytes s (get_or gs k 0)) (joined s (fragments_of ws)) ∷ more
      → first + count * stride + body_bytes s (get_or gs k 0) ≤ length (joined s (fragments_of ws))
      → StretchOf s d k gs ws (record { number = number; first = first; stride = stride; count = count + 1 })
  stretch_more {number} {first} {stride} {count} more t e h =
      let j : List ℕ = joined s (fragments_of ws) in
      let b : ℕ = body_bytes s (get_or gs k 0) in
      let l = rest_there (number + count) _ _ more e in
      let c : count + 1 - 1 ≡ count = omega arith in
      record {
        few = omega arith;
        are = take_rest number count _ _ more e ∙ ap (λ (z : List (List ℕ)). z ++ (part (first + count * stride) b j ∷ [])) t.are
            ∙ sym (records_at-more j b first stride count);
        inside = λ _. rw c h;
      }

  -- up to one record is at any distance
  pub stretch_any : {number first a count : ℕ} (b : ℕ) → count ≤ 1
      → StretchOf s d k gs ws (record { number = number; first = first; stride = a; count = count })
      → StretchOf s d k gs ws (record { number = number; first = first; stride = b; count = count })
  stretch_any {number} {first} {a} {count} b h t =
      let z : count - 1 ≡ 0 = omega arith in
      record {
        few = t.few;
        are = rw (← spaced_any first a b count h) t.are;
        inside = λ q. rw (z, zero-mul b) (rw (z, zero-mul a) at (t.inside q));
      }

  -- one record
  pub stretch_one : (number first stride : ℕ) (more : List (List ℕ))
      → drop number (group_records s d k gs (fragments_of ws))
      ≡ part first (body_bytes s (get_or gs k 0)) (joined s (fragments_of ws)) ∷ more
      → first + body_bytes s (get_or gs k 0) ≤ length (joined s (fragments_of ws))
      → StretchOf s d k gs ws (record { number = number; first = first; stride = stride; count = 1 })
  stretch_one number first stride more e h =
      let l = rest_there number _ _ more e in
      let z : first + 0 * stride ≡ first = omega (arith, zero-mul stride) in
      stretch_more more (stretch_none number first stride (omega arith)) (rw (add-zero number, z) e) (rw z h)

-- ---- the number of a group
pub number-found : (g : ℕ) (gs : List ℕ) (j : ℕ) → j < length gs → get_or gs j 0 ≡ g
    → (number_in g gs < length gs) × (get_or gs (number_in g gs) 0 ≡ g)
unfolding number_in
number-found g [] j h e = absurd (omega arith)
number-found g (f ∷ gs) j h e = go (eq_cases f g 0 (suc (number_in g gs)) refl) (λ i l q. number-found g gs i l q) j h e
  where
    go : ((f ≡ g) × (0 ≡ number_in g (f ∷ gs))) ⊎ ((f ≡ g → ⊥) × (suc (number_in g gs) ≡ number_in g (f ∷ gs)))
        → ((i : ℕ) → i < length gs → get_or gs i 0 ≡ g → (number_in g gs < length gs) × (get_or gs (number_in g gs) 0 ≡ g))
        → (j : ℕ) → j < length (f ∷ gs)
        → get_or (f ∷ gs) j 0 ≡ g → (number_in g (f ∷ gs) < length (f ∷ gs)) × (get_or (f ∷ gs) (number_in g (f ∷ gs)) 0 ≡ g)
    go (inl q) ih j h e = (rw (← q.1) (omega arith), rw (← q.1) q.0)
    go (inr q) ih zero h e = absurd (q.0 e)
    go (inr q) ih (suc j) h e = let m = ih j (omega arith) e in (rw (← q.1) (omega (arith, m.0)), rw (← q.1) m.1)

known_same : {i j a b : ℕ} → known i a ≡ known j b → i ≡ j
known_same e = cc

-- where no two ids are equal, a group's number is its place
pub number_apart : (s gs : List ℕ) (j : ℕ) → equal_ids s gs ≡ false → j < length gs → number_in (get_or gs j 0) gs ≡ j
number_apart s gs j a h =
    let g : ℕ = get_or gs j 0 in
    let m = number-found g gs j h refl in
    let x = with_apart s (record_id s g) 0 gs (number_in g gs) a m.0 (ap (record_id s) m.1) in
    let y = with_apart s (record_id s g) 0 gs j a h refl in
    let z = known_same (sym x ∙ y) in
    omega arith
