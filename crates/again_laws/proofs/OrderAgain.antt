-- A result's columns stand one after the other, so that a CG is that of just one: which group is found at its address, and which time column.
use Prim.{Unit, tt}
use Rattle.std.specs.Prelude.{ℕ, zero, suc, ◌+◌, ◌≤◌, ◌<◌, List, [], ◌∷◌, ◌++◌, Bool, true, false, ◌≡◌, refl, length, get_or}
use Rattle.std.proofs.Math.Option.{Option, none, some}
use Rattle.std.proofs.Common.{sym, ap, subst, ◌∙◌, arith, eq-eqb, ne_eqb}
use Rattle.base.specs.ChoiceLaws.{eq_yes, eq_no}
use Rattle.plan.specs.Channel.{both}
use Rattle.plan.specs.Columns.{group_at, Column, time_column}
use Rattle.plan.specs.Layout.{Placed, cg_of, cn_of, cg_size}
use Rattle.plan.specs.Photos.{photos_of}
use Rattle.result.specs.Due.{placed_c_gs}
use Rattle.plan_laws.specs.DecideLaws.{none≢some, some_same}
use Rattle.file_laws.specs.Standing.{AllStand}
use Rattle.file_guarantee.specs.ColumnForm.{file_column}
use Rattle.file_guarantee.specs.Columns.{file_columns}
use Rattle.again_laws.proofs.DataAgain.{group_again, groups_again}
use Rattle.again_laws.proofs.DecideAgain.{signal_again}
use Rattle.again_laws.specs.Origin.{placed_number}

-- ---- the columns of the second call

-- that of column p
unfoldable pub column_again : Bool → List ℕ → List ℕ → ℕ → Placed → Column
column_again photos f s size p =
    record {
      group = group_again s size p;
      channel = cn_of p;
      is_time_lem = p.column.is_time_lem;
      master = p.column.master;
      signal_of = signal_again s p.column.signal_of p.sd;
      photos = photos_of photos f (cn_of p);
    }

unfoldable pub columns_again : Bool → List ℕ → List ℕ → ℕ → List Placed → List Column
columns_again photos f s size [] = []
columns_again photos f s size (p ∷ ps) = column_again photos f s size p ∷ columns_again photos f s size ps

pub again-append : (photos : Bool) (f s : List ℕ) (size : ℕ) (xs ys : List Placed)
    → columns_again photos f s size (xs ++ ys) ≡ columns_again photos f s size xs ++ columns_again photos f s size ys
unfolding columns_again
again-append photos f s size [] ys = refl
again-append photos f s size (x ∷ xs) ys = ap (λ (l : List Column). column_again photos f s size x ∷ l) (again-append photos f s size xs ys)

-- ---- order
unfoldable pub Ascending : ℕ → List Placed → Type 0
Ascending a [] = Unit {0}
Ascending a (p ∷ ps) = (a ≤ p.dg) × Ascending (suc (cn_of p)) ps

pub stand_ascending : (f s : List ℕ) (size a : ℕ) (ps : List Placed) → AllStand f a (file_columns s size ps) → Ascending a ps
unfolding AllStand file_columns file_column Ascending
stand_ascending f s size a [] h = tt
stand_ascending f s size a (p ∷ ps) h = (h.0, stand_ascending f s size (suc (cn_of p)) ps h.2)

pub ascending_front : (a : ℕ) (xs ys : List Placed) → Ascending a (xs ++ ys) → Ascending a xs
unfolding Ascending
ascending_front a [] ys h = tt
ascending_front a (x ∷ xs) ys h = (h.0, ascending_front (suc (cn_of x)) xs ys h.1)

pub cg_before : (p : Placed) → cg_of p < cn_of p
cg_before p = go p.column.master
  where
    go : (m : Option ℕ) → cg_of p < cg_of p + cg_size m
    go none = omega arith
    go (some m) = omega arith

-- a column of them begins at or past a
pub ascending_from : (a k : ℕ) (ps : List Placed) (q : Placed) → Ascending a ps → placed_number k ps ≡ some q → a ≤ q.dg
unfolding Ascending placed_number
ascending_from a k [] q h e = absurd (none≢some e)
ascending_from a zero (p ∷ ps) q h e = subst (λ (r : Placed). a ≤ r.dg) (some_same e) h.0
ascending_from a (suc k) (p ∷ ps) q h e = let l = ascending_from (suc (cn_of p)) k ps q h.1 e in omega (arith, h.0, cg_before p)

-- ---- the group at a column's CG
pub group-none : (s : List ℕ) (size : ℕ) (ps : List Placed) → group_at 0 (groups_again s size ps) ≡ none
unfolding group_at groups_again group_again
group-none s size [] = refl
group-none s size (p ∷ ps) = sym (eq_no _ _ _ _ (λ q. omega arith) (sym (group-none s size ps)))

pub group-found : (s : List ℕ) (size a k : ℕ) (ps : List Placed) (q : Placed) → Ascending a ps → placed_number k ps ≡ some q
    → group_at (cg_of q) (groups_again s size ps) ≡ some (group_again s size q)
unfolding group_at groups_again Ascending placed_number group_again
group-found s size a k [] q h e = absurd (none≢some e)
group-found s size a zero (p ∷ ps) q h e =
    let r : p ≡ q = some_same e in
    sym (eq_yes _ _ _ _ (ap cg_of r) (ap (λ (x : Placed). some (group_again s size x)) (sym r)))
group-found s size a (suc k) (p ∷ ps) q h e =
    let l = ascending_from (suc (cn_of p)) k ps q h.1 e in
    sym (eq_no _ _ _ _ (λ x. omega (arith, cg_before p)) (sym (group-found s size (suc (cn_of p)) k ps q h.1 e)))

-- ---- the time column of a column's group

-- the CG of column number k
pub number-cg : (k : ℕ) (ps : List Placed) (q : Placed) → placed_number k ps ≡ some q → get_or (placed_c_gs ps) k 0 ≡ cg_of q
unfolding placed_number placed_c_gs
number-cg k [] q e = absurd (none≢some e)
number-cg zero (p ∷ ps) q e = ap cg_of (some_same e)
number-cg (suc k) (p ∷ ps) q e = number-cg k ps q e

both_no : (t : Bool) → both t false ≡ false
both_no true = refl
both_no false = refl

-- none before it is planned
pub time_none : (photos : Bool) (f s : List ℕ) (size a j : ℕ) (done rest : List Placed) (p : Placed) → Ascending a (done ++ (p ∷ rest))
    → time_column (cg_of p) j (columns_again photos f s size done) ≡ none
unfolding time_column columns_again column_again group_again Ascending
time_none photos f s size a j [] rest p h = refl
time_none photos f s size a j (q ∷ done) rest p h =
    let l : suc (cn_of q) ≤ p.dg = last (suc (cn_of q)) done h.1 in
    rw (ne_eqb (cg_of q) (cg_of p) (λ e. omega (arith, cg_before q)), both_no) (time_none photos f s size (suc (cn_of q)) (j + 1) done rest p h.1)
  where
    last : (b : ℕ) (xs : List Placed) → Ascending b (xs ++ (p ∷ rest)) → b ≤ p.dg
    last b [] k = k.0
    last b (x ∷ xs) k = let m = last (suc (cn_of x)) xs k.1 in omega (arith, k.0, cg_before x)

-- its number once it is
pub time_found : (photos : Bool) (f s : List ℕ) (size a j k : ℕ) (ps : List Placed) (q : Placed) → Ascending a ps → placed_number k ps ≡ some q
    → q.column.is_time_lem ≡ true → time_column (cg_of q) j (columns_again photos f s size ps) ≡ some (j + k)
unfolding time_column columns_again column_again group_again Ascending placed_number
time_found photos f s size a j k [] q h e t = absurd (none≢some e)
time_found photos f s size a j zero (p ∷ ps) q h e t =
    let r : p ≡ q = some_same e in
    let u : p.column.is_time_lem ≡ true = ap (λ (x : Placed). x.column.is_time_lem) r ∙ t in
    let n : j ≡ j + 0 = omega arith in
    rw (u, eq-eqb (cg_of p) (cg_of q) (ap cg_of r)) (ap some n)
time_found photos f s size a j (suc k) (p ∷ ps) q h e t =
    let l = ascending_from (suc (cn_of p)) k ps q h.1 e in
    let n : j + 1 + k ≡ j + suc k = omega arith in
    rw (ne_eqb (cg_of p) (cg_of q) (λ x. omega (arith, cg_before p)), both_no)
    (time_found photos f s size (suc (cn_of p)) (j + 1) k ps q h.1 e t ∙ ap some n)

-- ---- numbers in a list that is split
pub number-here : (done rest : List Placed) (p : Placed) → placed_number (length done) (done ++ (p ∷ rest)) ≡ some p
unfolding placed_number
number-here [] rest p = refl
number-here (q ∷ done) rest p = number-here done rest p

pub number-front : (k : ℕ) (xs ys : List Placed) (q : Placed) → placed_number k (xs ++ ys) ≡ some q → k < length xs → placed_number k xs ≡ some q
unfolding placed_number
number-front k [] ys q e h = absurd (omega arith)
number-front zero (x ∷ xs) ys q e h = e
number-front (suc k) (x ∷ xs) ys q e h = number-front k xs ys q e (omega arith)
