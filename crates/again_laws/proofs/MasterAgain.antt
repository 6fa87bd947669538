-- The number of the column that a column names, as links show it, is that of its planned master.
use Prim.{tt}
use Rattle.std.specs.Prelude.{ℕ, zero, suc, ◌+◌, ◌≤◌, List, [], ◌∷◌, ◌≡◌, refl, get_or}
use Rattle.std.proofs.Math.Option.{Option, none, some}
use Rattle.std.proofs.Common.{sym, ap, ◌∙◌, arith}
use Rattle.base.specs.Choice.{if_eq}
use Rattle.base.specs.ChoiceLaws.{eq_yes, eq_no}
use Rattle.plan.specs.Columns.{Column}
use Rattle.plan.specs.Layout.{Placed, cg_of, cn_of, cn_size, Sizes, places_at, past_data, places_from, structure_size, column_sizes, sizes_of, placed_at, with_places, placed_from}
use Rattle.plan.specs.Rules.{Rules}
use Rattle.result.specs.Due.{placed_c_gs, due_master, due, due_all}
use Rattle.plan_laws.specs.DecideLaws.{none≢some, some_same}
use Rattle.again.specs.Same.{number_of, master_number}
use Rattle.again_laws.specs.Origin.{placed_number}
use Rattle.again_laws.proofs.OrderAgain.{Ascending, ascending_from, cg_before, number-cg}

-- ---- columns are placed one after the other
from_earlier : (a b : ℕ) (ps : List Placed) → a ≤ b → Ascending b ps → Ascending a ps
unfolding Ascending
from_earlier a b [] h l = tt
from_earlier a b (p ∷ ps) h l = (omega (arith, l.0), l.1)

cn_least : (c : Column) → 160 ≤ cn_size c
unfolding cn_size
cn_least c = omega arith

pub placed_ascending : (o : Rules) (s : List ℕ) (size a d : ℕ) (cs : List Column) → Ascending a (placed_from o s size a d cs)
unfolding with_places places_from sizes_of structure_size Ascending
placed_ascending o s size a d [] = tt
placed_ascending o s size a d (c ∷ cs) =
    let z : Sizes = column_sizes s size c in
    let p : Placed = placed_at c (places_at o.unit a d z) in (
      omega arith,
      from_earlier (suc (cn_of p)) (a + structure_size s size c) (placed_from o s size (a + structure_size s size c) (past_data o.unit z d) cs) (omega (arith, cn_least c))
          (placed_ascending o s size (a + structure_size s size c) (past_data o.unit z d) cs),
    )

-- ---- the number of a CG among the columns shown
number-shown : (o : Rules) (s : List ℕ) (size : ℕ) (all : List Placed) (a j k : ℕ) (ps : List Placed) (q : Placed) → Ascending a ps → placed_number k ps ≡ some q
    → number_of (cg_of q) j (due_all o s size all ps) ≡ some (j + k)
unfolding number_of due_all due Ascending placed_number
number-shown o s size all a j k [] q h e = absurd (none≢some e)
number-shown o s size all a j zero (p ∷ ps) q h e =
    let r : p ≡ q = some_same e in
    let n : j + 0 ≡ j = omega arith in
    sym (eq_yes _ _ _ _ (ap cg_of r) (ap some n))
number-shown o s size all a j (suc k) (p ∷ ps) q h e =
    let l = ascending_from (suc (cn_of p)) k ps q h.1 e in
    let n : j + 1 + k ≡ j + suc k = omega arith in
    sym (eq_no _ _ _ _ (λ x. omega (arith, cg_before p)) (sym (number-shown o s size all (suc (cn_of p)) (j + 1) k ps q h.1 e ∙ ap some n)))

-- of the column that p names
pub master_number_lem : (o : Rules) (s : List ℕ) (size a : ℕ) (all : List Placed) (p : Placed) → Ascending a all
    → ((k : ℕ) → p.column.master ≡ some k → (q : Placed) × (placed_number k all ≡ some q))
    → master_number (due_all o s size all all) (due o s size all p) ≡ p.column.master
unfolding master_number due
master_number_lem o s size a all p h names = go p.column.master refl
  where
    go : (m : Option ℕ) → p.column.master ≡ m
        → if_eq (due_master all p.column.master) 0 none (number_of (due_master all p.column.master) 0 (due_all o s size all all)) ≡ p.column.master
    go none e = rw e (sym (eq_yes _ _ _ _ refl refl))
    go (some k) e =
        let q = names k e in
        let c : get_or (placed_c_gs all) k 0 ≡ cg_of q.0 = number-cg k all q.0 q.1 in
        let z : 0 + k ≡ k = omega arith in
        let n = number-shown o s size all a 0 k all q.0 h q.1 ∙ ap some z in
        rw (e, c) (sym (eq_no _ _ _ _ (λ x. omega arith) (sym n)))
