-- Numbers of columns in the file and in the new one, and masters: a kept column's master is kept.
use Rattle.std.specs.Prelude.{ℕ, zero, suc, ◌+◌, ◌≤◌, ◌<◌, List, [], ◌∷◌, Bool, true, false, ◌≡◌, refl, length}
use Rattle.std.proofs.Math.Option.{none, some}
use Rattle.std.proofs.Common.{sym, ap, ◌∙◌, zero-add, arith}
use Rattle.base.specs.Choice.{pick}
use Rattle.base.specs.Checked.{refused, fine}
use Rattle.mdf.specs.Chain.{is_in}
use Rattle.plan.specs.Columns.{remote_link}
use Rattle.plan_laws.specs.DecideLaws.{none≢some, some_same}
use Rattle.plan_laws.specs.Answers.{pick_no, eq_cases}
use Rattle.file.specs.Form.{FileColumn}
use Rattle.sheet.specs.Sheet.{number_at, master_of}
use Rattle.thin.specs.Kept.{is_taken, masters_kept, new_number, kept_column, kept_from, kept_columns}

-- ---- how many columns are kept

-- among so many from number k on
unfoldable pub kept_among : List ℕ → ℕ → ℕ → ℕ
kept_among numbers k zero = 0
kept_among numbers k (suc n) = pick (is_in k numbers) 0 1 + kept_among numbers (suc k) n

number-after : (numbers : List ℕ) (k n : ℕ) → new_number numbers (k + n) ≡ new_number numbers k + kept_among numbers k n
unfolding new_number kept_among
number-after numbers k zero = let e : k + 0 ≡ k = omega arith in rw e (omega arith)
number-after numbers k (suc n) =
    let e : k + suc n ≡ suc k + n = omega arith in
    let h : new_number numbers (suc k + n) ≡ pick (is_in k numbers) 0 1 + new_number numbers k + kept_among numbers (suc k) n =
    number-after numbers (suc k) n in
    rw e (omega arith)

pub number-from-start : (numbers : List ℕ) (m : ℕ) → new_number numbers m ≡ kept_among numbers 0 m
unfolding new_number
number-from-start numbers m = ap (new_number numbers) (sym (zero-add m)) ∙ number-after numbers 0 m ∙ zero-add (kept_among numbers 0 m)

kept-many : (s numbers : List ℕ) (all : List FileColumn) (k : ℕ) (cs : List FileColumn)
    → length (kept_from s numbers all k cs) ≡ kept_among numbers k (length cs)
unfolding kept_from kept_among
kept-many s numbers all k [] = refl
kept-many s numbers all k (c ∷ cs) = go (is_in k numbers) (kept-many s numbers all (suc k) cs)
  where
    go : (t : Bool) → length (kept_from s numbers all (suc k) cs) ≡ kept_among numbers (suc k) (length cs)
        → length (pick t (kept_from s numbers all (suc k) cs) (kept_column s numbers all c ∷ kept_from s numbers all (suc k) cs))
        ≡ pick t 0 1 + kept_among numbers (suc k) (length cs)
    go true h = omega arith
    go false h = omega arith

-- no more are kept than there are
pub kept-few : (s numbers : List ℕ) (all : List FileColumn) (k : ℕ) (cs : List FileColumn) → length (kept_from s numbers all k cs) ≤ length cs
unfolding kept_from
kept-few s numbers all k [] = omega arith
kept-few s numbers all k (c ∷ cs) = go (is_in k numbers) (kept-few s numbers all (suc k) cs)
  where
    go : (t : Bool) → length (kept_from s numbers all (suc k) cs) ≤ length cs
        → length (pick t (kept_from s numbers all (suc k) cs) (kept_column s numbers all c ∷ kept_from s numbers all (suc k) cs)) ≤ suc (length cs)
    go true h = omega arith
    go false h = omega arith

among_more : (numbers : List ℕ) (k n m : ℕ) → n < m → is_in (k + n) numbers ≡ false → kept_among numbers k n < kept_among numbers k m
unfolding kept_among
among_more numbers k n zero h e = absurd (omega arith)
among_more numbers k zero (suc m) h e =
    let z : is_in k numbers ≡ false = ap (λ (a : ℕ). is_in a numbers) (omega arith) ∙ e in
    rw z (omega arith)
among_more numbers k (suc n) (suc m) h e =
    let z : is_in (suc k + n) numbers ≡ false = ap (λ (a : ℕ). is_in a numbers) (omega arith) ∙ e in
    omega (arith, among_more numbers (suc k) n m (omega arith) z)

-- the new number of a column that is kept is that of a column of the new file
pub number-kept : (s numbers : List ℕ) (all : List FileColumn) (m : ℕ) → m < length all → is_in m numbers ≡ false
    → new_number numbers m < length (kept_columns s numbers all)
unfolding kept_columns
number-kept s numbers all m h e =
    let q : is_in (0 + m) numbers ≡ false = rw zero-add e in
    omega (arith, number-from-start numbers m, kept-many s numbers all 0 all, among_more numbers 0 m (length all) h q)

-- ---- masters
number-below : (a k : ℕ) (cs : List FileColumn) (n : ℕ) → number_at a k cs ≡ some n → n < k + length cs
unfolding number_at
number-below a k [] n e = absurd (none≢some e)
number-below a k (c ∷ cs) n e =
    eq_cases c.cg a (some k) (number_at a (k + 1) cs) e
    (λ _ q. omega (arith, some_same q))
    (λ _ q. omega (arith, number-below a (k + 1) cs n q))

-- a master is one of the columns
pub master_below : (s : List ℕ) (all : List FileColumn) (g m : ℕ) → master_of s all g ≡ some m → m < length all
unfolding master_of
master_below s all g m e =
    eq_cases (remote_link s g) 0 none (number_at (remote_link s g) 0 all) e
    (λ _ q. absurd (none≢some q))
    (λ _ q. omega (arith, number-below (remote_link s g) 0 all m q))

-- a column's test, and those of the columns after it
pub masters-next : (s numbers : List ℕ) (all : List FileColumn) (k : ℕ) (c : FileColumn) (cs : List FileColumn)
    → masters_kept s numbers all k (c ∷ cs) ≡ fine
    → (is_in k numbers ≡ false → is_taken (master_of s all c.cg) numbers ≡ false) × (masters_kept s numbers all (suc k) cs ≡ fine)
unfolding masters_kept
masters-next s numbers all k c cs e = go (is_in k numbers) e
  where
    go : (t : Bool) → pick t (masters_kept s numbers all (suc k) cs)
        (pick (is_taken (master_of s all c.cg) numbers) (refused 34 0) (masters_kept s numbers all (suc k) cs)) ≡ fine
        → (t ≡ false → is_taken (master_of s all c.cg) numbers ≡ false) × (masters_kept s numbers all (suc k) cs ≡ fine)
    go true h = (λ q. let z : ◌≡◌ {A = ℕ} 0 1 = cc in absurd (omega arith), h)
    go false h = let r = pick_no (is_taken (master_of s all c.cg) numbers) 34 0 _ h in (λ _. r.0, r.1)
