-- What an accepted table of treatments says of types, and what accepted choices are.
use Rattle.std.specs.Prelude.{ℕ, zero, suc, ◌+◌, ◌*◌, ◌-◌, ◌≤◌, ◌<◌, List, Bool, true, false, ◌⊎◌, ◌≡◌, refl, leb, ltb, length}
use Rattle.std.proofs.Common.{inl, inr, ⊎_elim, sym, ap, ◌∙◌, arith, ltb-true, ltb-false, leb-true, eqb-true}
use Rattle.base.specs.ChoiceLaws.{lt_yes, lt_no, eq_yes, eq_no, lt_back}
use Rattle.base.specs.Checked.{fine}
use Rattle.plan.specs.Table.{count_in, type_at, treated_at, entry_of, is_sized, is_allowed, is_entry, are_entries, table_in, built_in_for, chosen_by, treatment}
use Rattle.plan.specs.Rules.{Rules, unit_in, choices_in}
use Rattle.result.specs.Recording.{Treats}
use Rattle.plan_laws.specs.Answers.{true≢false, then_fine, refused≢ok, eq_cases, pick_cases, or_not}

false≢true : false ≡ true → ⊥
false≢true e = true≢false (sym e)

-- ---- the search for an entry: nothing before it lists the type, and it does
entry_first : (s : List ℕ) (t k n j : ℕ) → k ≤ j → j < k + n → type_at s j ≡ t → entry_of s t k n ≤ j
unfolding entry_of
entry_first s t k zero j l h e = absurd (omega arith)
entry_first s t k (suc n) j l h e =
    eq_cases (type_at s k) t k (entry_of s t (suc k) n) refl (λ p q. omega arith)
    (λ p q. or_not k j (λ z. absurd (p (ap (type_at s) z ∙ e))) (λ z. omega (arith, entry_first s t (suc k) n j (omega arith) (omega arith) e)))

entry_lists : (s : List ℕ) (t k n : ℕ) → entry_of s t k n < k + n → type_at s (entry_of s t k n) ≡ t
unfolding entry_of
entry_lists s t k zero h = absurd (omega arith)
entry_lists s t k (suc n) h =
    eq_cases (type_at s k) t k (entry_of s t (suc k) n) refl (λ p q. ap (type_at s) (sym q) ∙ p)
    (λ p q. ap (type_at s) (sym q) ∙ entry_lists s t (suc k) n (omega arith))

-- ---- entries of an accepted table
record Accepted (s : List ℕ) (k n : ℕ) : Type 0 where
  once : suc k + n ≤ entry_of s (type_at s k) (suc k) n
  few : treated_at s k ≤ 2
  allowed : is_allowed (type_at s k) (treated_at s k) ≡ true

entry_accepted : (s : List ℕ) (k n : ℕ) → is_entry s k n ≡ true → Accepted s k n
unfolding is_entry
entry_accepted s k n e =
    let a = lt_back _ _ _ _ e false≢true in
    let b = lt_back _ _ _ _ a.1 false≢true in
    let c = lt_back _ _ _ _ b.1 false≢true in
    record { once = a.0; few = c.0; allowed = c.1 }

-- entry j of those from entry k on, m behind it
entries_accepted : (s : List ℕ) (k n j m : ℕ) → are_entries s k n ≡ true → k ≤ j → suc j + m ≡ k + n → Accepted s j m
unfolding are_entries
entries_accepted s k zero j m e l h = absurd (omega arith)
entries_accepted s k (suc n) j m e l h =
    pick_cases (is_entry s k n) (are_entries s (suc k) n) false e
    (λ y later.
    or_not k j
    (λ z. let o : n ≡ m = omega arith in entry_accepted s j m (rw (z, o) at y))
    (λ z. entries_accepted s (suc k) n j m later (omega arith) (omega arith)))
    (λ y later. absurd (false≢true later))

-- each type is listed once: the search finds its entry
entry-own : (s : List ℕ) (n k : ℕ) → are_entries s 0 n ≡ true → k < n → entry_of s (type_at s k) 0 n ≡ k
entry-own s n k e h =
    let j = entry_of s (type_at s k) 0 n in
    let l = entry_first s (type_at s k) 0 n k (omega arith) (omega arith) refl in
    let same = entry_lists s (type_at s k) 0 n (omega arith) in
    let once = (entries_accepted s 0 n j (n - 1 - j) e (omega arith) (omega arith)).once in
    or_not j k (λ z. z)
    (λ z. absurd (omega (arith, entry_first s (type_at s j) (suc j) (n - 1 - j) k (omega arith) (omega arith) (sym same))))

-- ---- an accepted table: its size and its entries
record Tabled (s : List ℕ) : Type 0 where
  sized : is_sized s ≡ true
  entries : are_entries s 0 (count_in s) ≡ true

tabled : (s : List ℕ) → table_in s ≡ fine → Tabled s
unfolding table_in
tabled s e =
    pick_cases (is_sized s) _ _ e
    (λ y f. pick_cases (are_entries s 0 (count_in s)) _ _ f (λ z _. record { sized = y; entries = z }) (λ z g. absurd (refused≢ok g)))
    (λ y f. absurd (refused≢ok f))

table_sized : (s : List ℕ) → is_sized s ≡ true
    → (length s ≡ 0) ⊎ ((1 ≤ count_in s) × (count_in s ≤ 7) × (length s ≡ 1 + 2 * count_in s))
unfolding is_sized
table_sized s e =
    eq_cases (length s) 0 _ _ e (λ h _. inl h)
    (λ h f. pick_cases (ltb 0 (count_in s)) _ _ f
    (λ y g. pick_cases (leb (count_in s) 7) _ _ g
    (λ z o. inr (ltb-true 0 (count_in s) y, leb-true (count_in s) 7 z, eqb-true _ _ o))
    (λ z o. absurd (false≢true o)))
    (λ y g. absurd (false≢true g)))

table_entry : {s : List ℕ} → Tabled s → (k : ℕ) → k < count_in s → Accepted s k (count_in s - 1 - k)
table_entry {s} a k h = entries_accepted s 0 (count_in s) k (count_in s - 1 - k) a.entries (omega arith) (omega arith)

-- ---- how a type is treated: listed, or built in
treatment-listed : {s : List ℕ} → Tabled s → (k : ℕ) → k < count_in s → treatment s (type_at s k) ≡ chosen_by (treated_at s k)
unfolding treatment
treatment-listed {s} a k h = rw (entry-own s (count_in s) k a.entries h) (sym (lt_yes _ _ _ _ h refl))

treatment_cases : {R : Type 0} (s : List ℕ) (t : ℕ)
    → ((k : ℕ) → k < count_in s → type_at s k ≡ t → treatment s t ≡ chosen_by (treated_at s k) → R) → (treatment s t ≡ built_in_for t → R) → R
unfolding treatment
treatment_cases {R} s t y z = go (ltb k n) refl
  where
    n : ℕ
    n = count_in s

    k : ℕ
    k = entry_of s t 0 n

    go : (b : Bool) → ltb k n ≡ b → R
    go true q = let h = ltb-true k n q in y k h (entry_lists s t 0 n (omega arith)) (sym (lt_yes _ _ _ _ h refl))
    go false q = z (sym (lt_no _ _ _ _ (ltb-false k n q) refl))

chosen : (v w : ℕ) → v ≡ w → (w ≡ 1 → ⊥) → chosen_by v ≡ w
unfolding chosen_by
chosen v w e h = sym (eq_no _ _ _ _ (λ o. h (sym e ∙ o)) (sym e))

-- ---- masters are kept
allowed-kept : (t v : ℕ) → is_allowed t v ≡ true → (t ≡ 2) ⊎ (t ≡ 3) → v ≡ 0
unfolding is_allowed
allowed-kept t v e m =
    eq_cases t 2 _ _ e (λ p f. eqb-true v 0 f)
    (λ p f. eq_cases t 3 _ _ f (λ q g. eqb-true v 0 g) (λ q g. absurd (⊎_elim p q m)))

built_in_kept : (t : ℕ) → (t ≡ 2) ⊎ (t ≡ 3) → built_in_for t ≡ 0
unfolding built_in_for
built_in_kept t m =
    let no4 : t ≡ 4 → ⊥ = λ e. ⊎_elim (λ w. omega arith) (λ w. omega arith) m in
    let no5 : t ≡ 5 → ⊥ = λ e. ⊎_elim (λ w. omega arith) (λ w. omega arith) m in
    sym (eq_no _ _ _ _ no4 (eq_no _ _ _ _ no5 refl))

master_kept_lem : (table : List ℕ) → table_in table ≡ fine → (t : ℕ) → (t ≡ 2) ⊎ (t ≡ 3) → treatment table t ≡ 0
master_kept_lem s e t m =
    treatment_cases s t
    (λ k h o q. q ∙ chosen _ 0 (allowed-kept t (treated_at s k) (rw o at (table_entry (tabled s e) k h).allowed) m) (λ z. omega arith))
    (λ q. q ∙ built_in_kept t m)

pub treats : (table : List ℕ) → table_in table ≡ fine → Treats table
unfolding count_in type_at treated_at built_in_for chosen_by
treats s e =
    let a = tabled s e in
    record {
      sized = table_sized s a.sized;
      listed = λ k h. (table_entry a k h).few;
      kept = λ k h v. treatment-listed a k h ∙ chosen _ 0 v (λ o. omega arith);
      omitted = λ k h v. treatment-listed a k h ∙ sym (eq_yes _ _ _ _ v refl);
      stored = λ k h v. treatment-listed a k h ∙ chosen _ 2 v (λ o. omega arith);
      unlisted = λ t none. treatment_cases s t (λ k h o _. absurd (none k h o)) (λ o. o);
      masters = master_kept_lem s e;
    }

-- ---- accepted choices
pub choices_unit : (o : Rules) → choices_in o ≡ fine → unit_in o.unit ≡ fine
unfolding choices_in
choices_unit o e = (then_fine (unit_in o.unit) (λ _. table_in o.table) e).0

pub choices_table : (o : Rules) → choices_in o ≡ fine → table_in o.table ≡ fine
unfolding choices_in
choices_table o e = (then_fine (unit_in o.unit) (λ _. table_in o.table) e).1
