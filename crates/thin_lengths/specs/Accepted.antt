-- The columns of the file that an accepted call takes columns out of, and those that it keeps.
use Rattle.std.specs.Prelude.{ℕ, suc, List, [], ◌∷◌, Bool, true, false, ◌≡◌, refl, length}
use Rattle.base.specs.Choice.{pick, if_lt}
use Rattle.base.specs.Checked.{ok, refused, fine}
use Rattle.base.specs.CheckedLaws.{then_ok}
use Rattle.mdf.specs.Chain.{is_in}
use Rattle.plan.specs.Columns.{Column}
use Rattle.plan.specs.Layout.{Layout}
use Rattle.plan.specs.Rules.{unit_in}
use Rattle.result.specs.Member.{In, here, there}
use Rattle.plan_laws.specs.Lists.{in_none}
use Rattle.file.specs.Form.{FileColumn}
use Rattle.file.specs.Opened.{opened}
use Rattle.thin.specs.Kept.{kept_column, kept_from, kept_columns}
use Rattle.thin.specs.TakenOut.{most_image, arranged, answer}

-- the file was opened
pub answer_opens : (u : ℕ) (s numbers : List ℕ) (o : ℕ) (l : Layout) → answer u s numbers o ≡ ok l → (all : List FileColumn) × (opened s ≡ ok all)
unfolding answer arranged
answer_opens u s numbers o l e =
    let a = then_ok (arranged u s numbers) _ e in
    let b = then_ok (unit_in u) _ a.1 in
    let c = then_ok (if_lt most_image (length s) (refused 3 0) fine) _ b.2 in
    let d = then_ok (opened s) _ c.2 in
    (d.0, d.1)

column_cases : {c d : Column} {ds : List Column} {P : Type 0} → In c (d ∷ ds) → (c ≡ d → P) → (In c ds → P) → P
column_cases here f g = f refl
column_cases (there i) f g = g i

-- a kept column is one of the file's
pub kept_in_lem : (s numbers : List ℕ) (all : List FileColumn) (k : ℕ) (cs : List FileColumn) (c : Column) → In c (kept_from s numbers all k cs)
    → (d : FileColumn) × In d cs × (c ≡ kept_column s numbers all d)
unfolding kept_from
kept_in_lem s numbers all k [] c i = absurd (in_none i)
kept_in_lem s numbers all k (d ∷ cs) c i = go (is_in k numbers) (λ j. kept_in_lem s numbers all (suc k) cs c j) i
  where
    go : (t : Bool) → (In c (kept_from s numbers all (suc k) cs) → (d : FileColumn) × In d cs × (c ≡ kept_column s numbers all d))
        → In c (pick t (kept_from s numbers all (suc k) cs) (kept_column s numbers all d ∷ kept_from s numbers all (suc k) cs))
        → (e : FileColumn) × In e (d ∷ cs) × (c ≡ kept_column s numbers all e)
    go true f j = let r = f j in (r.0, there r.1, r.2)
    go false f j = column_cases j (λ q. (d, here, q)) (λ h. let r = f h in (r.0, there r.1, r.2))

pub kept_of_lem : (s numbers : List ℕ) (all : List FileColumn) (c : Column) → In c (kept_columns s numbers all)
    → (d : FileColumn) × In d all × (c ≡ kept_column s numbers all d)
unfolding kept_columns
kept_of_lem s numbers all c i = kept_in_lem s numbers all 0 all c i
