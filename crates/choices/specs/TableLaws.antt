-- Ways through the definitions of a table of treatments.
use Rattle.std.specs.Prelude.{ℕ, zero, suc, ◌+◌, ◌*◌, ◌-◌, ◌≤◌, ◌<◌, List, Bool, true, false, not, ◌≡◌, refl, eqb, length}
use Rattle.std.proofs.Common.{sym, ◌∙◌, sub-one, arith}
use Rattle.std.proofs.Math.Numerals.{add-one}
use borrow.Author.Tests.{lt-ltb, le-leb, lt-leb}
use Rattle.base.specs.Choice.{pick, if_eq}
use Rattle.base.specs.ChoiceLaws.{lt_yes, lt_no, eq_yes, eq_no}
use Rattle.base.specs.Checked.{refused, fine}
use Rattle.base.specs.Field.{Field, le_at}
use Rattle.plan.specs.Table.{count_in, type_at, treated_at, entry_of, is_sized, is_entry, is_allowed, are_entries, table_in, built_in_for, chosen_by, treatment}

-- ---- bytes of a table
count_read : {s : List ℕ} {n : ℕ} → Field 1 s 0 n → n ≡ count_in s
unfolding le_at count_in
count_read f = omega (arith, f.is)

type_read : {s : List ℕ} (k : ℕ) {t : ℕ} → Field 1 s (1 + k) t → t ≡ type_at s k
unfolding le_at type_at
type_read k f = omega (arith, f.is)

treated_read : {s : List ℕ} {n : ℕ} (k : ℕ) {v : ℕ} → Field 1 s 0 n → Field 1 s (1 + n + k) v → v ≡ treated_at s k
unfolding le_at treated_at
treated_read k c f = rw (← count_read c) (omega (arith, f.is))

-- ---- the search for an entry: what is left gives what all give
entry_open : (s : List ℕ) (t k n : ℕ) → 0 < n → entry_of s t k n ≡ if_eq (type_at s k) t k (entry_of s t (k + 1) (n - 1))
unfolding entry_of
entry_open s t k zero h = absurd (omega arith)
entry_open s t k (suc n) h = rw (add-one, sub-one)

module _ (s : List ℕ) (t k n : ℕ) {r : ℕ} (i : entry_of s t k n ≡ r) where
  pub entry_end : n ≡ 0 → k ≡ r
  unfolding entry_of
  entry_end e = rw e at i

  pub entry_hit : 0 < n → {b : ℕ} → Field 1 s (1 + k) b → b ≡ t → k ≡ r
  entry_hit h f e = eq_yes _ _ _ _ (sym (type_read k f) ∙ e) refl ∙ (sym (entry_open s t k n h) ∙ i)

  pub entry_miss : 0 < n → {b : ℕ} → Field 1 s (1 + k) b → (b ≡ t → ⊥) → entry_of s t (k + 1) (n - 1) ≡ r
  entry_miss h f e = eq_no _ _ _ _ (λ q. e (type_read k f ∙ q)) refl ∙ (sym (entry_open s t k n h) ∙ i)

-- ---- how a type is treated
module _ (s : List ℕ) (t : ℕ) {n k : ℕ} (c : Field 1 s 0 n) (q : k ≡ entry_of s t 0 n) where
  pub treatment_omit : k < n → {v : ℕ} → Field 1 s (1 + n + k) v → v ≡ 1 → 8 ≡ treatment s t
  unfolding treatment chosen_by
  treatment_omit h f z = rw (← count_read c, ← q) (lt_yes _ _ _ _ h (eq_yes _ _ _ _ (sym (treated_read k c f) ∙ z) refl))

  pub treatment-listed : k < n → {v : ℕ} → Field 1 s (1 + n + k) v → (v ≡ 1 → ⊥) → v ≡ treatment s t
  unfolding treatment chosen_by
  treatment-listed h f z =
      rw (← count_read c, ← q) (lt_yes _ _ _ _ h (eq_no _ _ _ _ (λ o. z (treated_read k c f ∙ o)) (treated_read k c f)))

  pub treatment_unlisted : n ≤ k → {r : ℕ} → r ≡ built_in_for t → r ≡ treatment s t
  unfolding treatment
  treatment_unlisted h z = rw (← count_read c, ← q) (lt_no _ _ _ _ h z)

-- ---- count and length, and what a type may have
pub differs : (v w : ℕ) → not (eqb v w) ≡ if_eq v w false true
unfolding if_eq
differs v w = go (eqb v w)
  where
    go : (b : Bool) → not b ≡ pick b false true
    go true = refl
    go false = refl

pub sized-none : (s : List ℕ) → length s ≡ 0 → true ≡ is_sized s
unfolding is_sized
sized-none s h = eq_yes _ _ _ _ h refl

module _ (s : List ℕ) {n : ℕ} (l : length s ≡ 0 → ⊥) (f : Field 1 s 0 n) where
  pub sized-zero : n ≡ 0 → false ≡ is_sized s
  unfolding is_sized
  sized-zero h = eq_no _ _ _ _ l (rw (← count_read f, h))

  pub sized-over : 7 < n → false ≡ is_sized s
  unfolding is_sized
  sized-over h = eq_no _ _ _ _ l (rw (← count_read f, lt-ltb 0 n (omega arith), lt-leb n 7 h))

  pub sized_whole : (n ≡ 0 → ⊥) → n ≤ 7 → eqb (length s) (1 + 2 * n) ≡ is_sized s
  unfolding is_sized
  sized_whole z h = eq_no _ _ _ _ l (rw (← count_read f, lt-ltb 0 n (omega arith), le-leb n 7 h))

-- ---- one entry
module _ (s : List ℕ) (k n : ℕ) {t o : ℕ} (f : Field 1 s (1 + k) t) (q : o ≡ entry_of s t (k + 1) n) where
  pub entry-again : o < k + 1 + n → false ≡ is_entry s k n
  unfolding is_entry
  entry-again h = rw (← type_read k f, ← add-one k, ← q) (lt_yes _ _ _ _ h refl)

  pub entry_type : k + 1 + n ≤ o → 6 < t → false ≡ is_entry s k n
  unfolding is_entry
  entry_type h p = rw (← type_read k f, ← add-one k, ← q) (lt_no _ _ _ _ h (lt_yes _ _ _ _ p refl))

  pub entry_treated : k + 1 + n ≤ o → t ≤ 6 → {m v : ℕ} → Field 1 s 0 m → Field 1 s (1 + m + k) v → 2 < v → false ≡ is_entry s k n
  unfolding is_entry
  entry_treated h p z g w =
      rw (← type_read k f, ← add-one k, ← q, ← treated_read k z g) (lt_no _ _ _ _ h (lt_no _ _ _ _ p (lt_yes _ _ _ _ w refl)))

  pub entry-allowed : k + 1 + n ≤ o → t ≤ 6 → {m v : ℕ} → Field 1 s 0 m → Field 1 s (1 + m + k) v → v ≤ 2 → {r : Bool}
      → r ≡ is_allowed t v → r ≡ is_entry s k n
  unfolding is_entry
  entry-allowed h p z g w a =
      rw (← type_read k f, ← add-one k, ← q, ← treated_read k z g) (lt_no _ _ _ _ h (lt_no _ _ _ _ p (lt_no _ _ _ _ w a)))

-- ---- entries: what is left gives what all give
entries_open : (s : List ℕ) (k n : ℕ) → 0 < n → are_entries s k n ≡ pick (is_entry s k (n - 1)) (are_entries s (k + 1) (n - 1)) false
unfolding are_entries
entries_open s k zero h = absurd (omega arith)
entries_open s k (suc n) h = rw (add-one, sub-one)

module _ (s : List ℕ) (k n : ℕ) {r : Bool} (i : are_entries s k n ≡ r) where
  pub entries_end : n ≡ 0 → true ≡ r
  unfolding are_entries
  entries_end e = rw e at i

  pub entries-good : 0 < n → {b : Bool} → b ≡ is_entry s k (n - 1) → b ≡ true → are_entries s (k + 1) (n - 1) ≡ r
  entries-good h e q = rw (entries_open s k n h, ← e, q) at i

  pub entries_bad : 0 < n → {b : Bool} → b ≡ is_entry s k (n - 1) → b ≡ false → false ≡ r
  entries_bad h e q = rw (entries_open s k n h, ← e, q) at i

-- ---- 27
module _ (s : List ℕ) {a : Bool} (e : a ≡ is_sized s) where
  pub table_size : a ≡ false → refused 27 0 ≡ table_in s
  unfolding table_in
  table_size p = rw (← e, p)

  module _ (p : a ≡ true) {n : ℕ} (c : Field 1 s 0 n) {b : Bool} (q : b ≡ are_entries s 0 n) where
    pub table_entries : b ≡ false → refused 27 0 ≡ table_in s
    unfolding table_in
    table_entries z = rw (← e, p, ← count_read c, ← q, z)

    pub table_fine : b ≡ true → fine ≡ table_in s
    unfolding table_in
    table_fine z = rw (← e, p, ← count_read c, ← q, z)
