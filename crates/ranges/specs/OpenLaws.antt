-- The laws of opening: what the words give is what the definition gives.
use Rattle.std.specs.Prelude.{ℕ, zero, suc, ◌+◌, ◌*◌, ◌-◌, ◌/◌, ◌%◌, ◌≤◌, ◌<◌, Bool, true, false, ◌≡◌, get_or}
use mathlib.Core.List.{List, [], ◌∷◌, ◌++◌, append-nil, append_assoc}
use Rattle.std.proofs.Math.Path.{refl}
use Rattle.std.proofs.Common.{sym, ap, ◌∙◌, add-zero, zero-add, sub-one}
use native.Mathlib.Omega.{arith}
use borrow.Author.Tests.{lt-ltb, le-ltb, eq-eqb, ne_eqb}
use Rattle.base.specs.Choice.{pick}
use Rattle.base.specs.ChoiceLaws.{lt_yes, lt_no}
use Rattle.base.specs.Checked.{Checked, ok, refused, and_then, Verdict, fine}
use Rattle.mdf.specs.Block.{link_at}
use Rattle.work_words.specs.Words.{marks_at}
use Rattle.std.specs.Prelude.{Result, Ok, Err, ⊤}
use Rattle.fields.specs.declared.refusal.Refusal.{Refusal}
use Rattle.fields.specs.Answer.{refused_by, verdict_of}
use Rattle.blocks.specs.AnswerLaws.{so_fine, so_refused}
use Rattle.file.specs.Form.{FileColumn, formed}
use Rattle.ranges.specs.Blocks.{column_of}
use Rattle.ranges.specs.Ranged.{chain_ranges}
use Rattle.ranges.specs.Open.{item_range, word_ranges, column_at, column_formed, form_from, columns_of}

-- ---- the ranges of a block's chain
module _ (s : List ℕ) (a mark : ℕ) where
  pub item-dg : {x : ℕ} {v : Verdict} → 1 < mark → x ≡ link_at s a 2 → v ≡ chain_ranges s 258 x → v ≡ item_range s a mark
  unfolding item_range
  item-dg h q e = lt_yes _ _ _ _ h (e ∙ rw q)

  pub item-other : mark ≤ 1 → fine ≡ item_range s a mark
  unfolding item_range
  item-other h = lt_no _ _ _ _ h refl

-- ---- of all: m is what the whole pass gives
word_open : (s w : List ℕ) (k i : ℕ) → 0 < k
    → word_ranges s w k i ≡ and_then (item_range s (get_or w i 0) (get_or w (marks_at + i) 0)) (λ _. word_ranges s w (k - 1) (i + 1))
unfolding word_ranges
word_open s w zero i h = absurd (omega arith)
word_open s w (suc k) i h = rw (sub-one (suc k))

module _ (s w : List ℕ) (n i : ℕ) {m : Verdict} (e : word_ranges s w (n - i) i ≡ m) where
  pub word_end : n ≤ i → fine ≡ m
  unfolding word_ranges
  word_end h = let k : n - i ≡ 0 = omega arith in rw k at e

  word_next : i < n → m ≡ and_then (item_range s (get_or w i 0) (get_or w (marks_at + i) 0)) (λ _. word_ranges s w (n - (i + 1)) (i + 1))
  word_next h =
      let k : n - i - 1 ≡ n - (i + 1) = omega arith in
      sym e ∙ word_open s w (n - i) i (omega arith) ∙ rw k

  module _ (h : i < n) {o : Result ⊤ Refusal} (f : verdict_of o ≡ item_range s (get_or w i 0) (get_or w (marks_at + i) 0)) where
    pub word_stop : {y : Refusal} → o ≡ Err y → refused_by y ≡ m
    word_stop g = sym (word_next h ∙ rw (so_refused f g))

    pub word_on : {u : ⊤} → o ≡ Ok u → word_ranges s w (n - (i + 1)) (i + 1) ≡ m
    word_on g = sym (word_next h ∙ rw (so_fine f g))

-- ---- the form of a column
last_test : (t : Bool) → pick t true false ≡ t
last_test true = refl
last_test false = refl

module _ (s w : List ℕ) (j : ℕ) where
  pub column-dg : get_or w (marks_at + 3 * j) 0 < 2 → false ≡ column_formed s w j
  unfolding column_formed
  column-dg h = rw (le-ltb 1 (get_or w (marks_at + 3 * j) 0) (omega arith))

  module _ (h : 2 ≤ get_or w (marks_at + 3 * j) 0) where
    pub column-cg : (get_or w (marks_at + 3 * j + 1) 0 ≡ 1 → ⊥) → false ≡ column_formed s w j
    unfolding column_formed
    column-cg g = rw (lt-ltb 1 (get_or w (marks_at + 3 * j) 0) (omega arith), ne_eqb (get_or w (marks_at + 3 * j + 1) 0) 1 g)

    module _ (g : get_or w (marks_at + 3 * j + 1) 0 ≡ 1) where
      pub column-cn : (get_or w (marks_at + 3 * j + 2) 0 ≡ 0 → ⊥) → false ≡ column_formed s w j
      unfolding column_formed
      column-cn f =
          rw (lt-ltb 1 (get_or w (marks_at + 3 * j) 0) (omega arith), eq-eqb (get_or w (marks_at + 3 * j + 1) 0) 1 g, ne_eqb (get_or w (marks_at + 3 * j + 2) 0) 0 f)

      pub column_is : {r : Bool} → get_or w (marks_at + 3 * j + 2) 0 ≡ 0 → r ≡ formed s (column_of s (get_or w (3 * j) 0) (get_or w (3 * j + 1) 0) 0)
          → r ≡ column_formed s w j
      unfolding column_formed
      column_is f e =
          e ∙ rw (lt-ltb 1 (get_or w (marks_at + 3 * j) 0) (omega arith), eq-eqb (get_or w (marks_at + 3 * j + 1) 0) 1 g, eq-eqb (get_or w (marks_at + 3 * j + 2) 0) 0 f)
          (sym (last_test _))

-- ---- the columns of n blocks, where the loop stands
then_all : {A : Type 0} (v : Checked A) → and_then v ok ≡ v
then_all (ok a) = refl
then_all (refused n p) = refl

pub columns_snoc : (s w : List ℕ) (k i : ℕ) → columns_of s w (k + 1) i ≡ columns_of s w k i ++ (column_at s w (i + k) ∷ [])
unfolding columns_of
columns_snoc s w zero i = rw (add-zero i)
columns_snoc s w (suc k) i =
    let e : suc k + 1 ≡ suc (k + 1) = omega arith in
    let d : i + 1 + k ≡ i + suc k = omega arith in
    rw (e, ← d, columns_snoc s w k (i + 1))

pub form_open : (s w : List ℕ) (n j : ℕ) → 3 ≤ n
    → form_from s w n j ≡ pick (column_formed s w j) (and_then (form_from s w (n - 3) (j + 1)) (λ cs. ok (column_at s w j ∷ cs))) (refused 24 0)
unfolding form_from
form_open s w zero j h = absurd (omega arith)
form_open s w (suc zero) j h = absurd (omega arith)
form_open s w (suc (suc zero)) j h = absurd (omega arith)
form_open s w (suc (suc (suc n))) j h = let k : suc (suc (suc n)) - 3 ≡ n = omega arith in rw k

pub form_few : (s w : List ℕ) (n j : ℕ) → 0 < n → n < 3 → form_from s w n j ≡ refused 24 0
unfolding form_from
form_few s w zero j g h = absurd (omega arith)
form_few s w (suc zero) j g h = refl
form_few s w (suc (suc zero)) j g h = refl
form_few s w (suc (suc (suc n))) j g h = absurd (omega arith)

-- columns 0 to j of n blocks are formed: what is left behind them gives what all give
pub record Forming (s w : List ℕ) (n j : ℕ) : Type 0 where
  pub rest : and_then (form_from s w (n - 3 * j) j) (λ cs. ok (columns_of s w j 0 ++ cs)) ≡ form_from s w n 0

pub form_begin : (s w : List ℕ) (n : ℕ) → Forming s w n 0
unfolding columns_of
form_begin s w n = let k : n - 3 * 0 ≡ n = omega arith in record { rest = rw k (then_all (form_from s w n 0)) }

module _ {s w : List ℕ} {n j : ℕ} (t : Forming s w n j) where
  pub form_short : n / 3 ≤ j → j ≤ n / 3 → (n % 3 ≡ 0 → ⊥) → refused 24 0 ≡ form_from s w n 0
  form_short g h z = rw (form_few s w (n - 3 * j) j (omega (arith, z)) (omega arith)) at t.rest

  pub form_end : n / 3 ≤ j → j ≤ n / 3 → n % 3 ≡ 0 → ok (columns_of s w (n / 3) 0) ≡ form_from s w n 0
  unfolding form_from
  form_end g h z = (let k : n - 3 * j ≡ 0 = omega arith in let m : j ≡ n / 3 = omega arith in go (rw (k, m) at t.rest))
    where
      go : and_then (form_from s w 0 (n / 3)) (λ cs. ok (columns_of s w (n / 3) 0 ++ cs)) ≡ form_from s w n 0 → ok (columns_of s w (n / 3) 0) ≡ form_from s w n 0
      go e = rw append-nil at e

  module _ (h : j < n / 3) {r : Bool} (q : r ≡ column_formed s w j) where
    some : 3 ≤ n - 3 * j
    some = omega arith

    pub form_no : r ≡ false → refused 24 0 ≡ form_from s w n 0
    form_no e =
        let k : form_from s w (n - 3 * j) j ≡ refused 24 0 = form_open s w (n - 3 * j) j some ∙ rw (← q, e) in
        rw k at t.rest

    pub form_on : r ≡ true → Forming s w n (j + 1)
    form_on e =
        let left : n - 3 * j - 3 ≡ n - 3 * (j + 1) = omega arith in
        let k : form_from s w (n - 3 * j) j ≡ and_then (form_from s w (n - 3 * (j + 1)) (j + 1)) (λ cs. ok (column_at s w j ∷ cs)) =
        form_open s w (n - 3 * j) j some ∙ rw (← q, e, left) in
        record { rest = go (form_from s w (n - 3 * (j + 1)) (j + 1)) ∙ (rw k at t.rest) }
      where
        more : (cs : List FileColumn) → columns_of s w (j + 1) 0 ++ cs ≡ columns_of s w j 0 ++ (column_at s w j ∷ cs)
        more cs = let z : 0 + j ≡ j = zero-add j in rw (columns_snoc s w j 0, z) (append_assoc (columns_of s w j 0) (column_at s w j ∷ []) cs)

        go : (v : Checked (List FileColumn)) → and_then v (λ cs. ok (columns_of s w (j + 1) 0 ++ cs))
            ≡ and_then (and_then v (λ cs. ok (column_at s w j ∷ cs))) (λ cs. ok (columns_of s w j 0 ++ cs))
        go (ok cs) = ap ok (more cs)
        go (refused x p) = refl
