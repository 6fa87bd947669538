-- Ways through the test of a unit, and of all choices.
use Rattle.std.specs.Prelude.{ℕ, List, [], ◌∷◌, Bool, true, false, ◌≡◌, refl, eqb, ◌||◌}
use Rattle.std.specs.List.{list_any}
use Rattle.std.proofs.Common.{arith}
use Rattle.std.proofs.lemmas.Bool.Decides.{nat_tests}
use Rattle.base.specs.Choice.{pick, if_eq}
use Rattle.base.specs.Checked.{refused, Verdict}
use Rattle.plan.specs.Table.{table_in}
use Rattle.plan.specs.Rules.{Rules, units, is_among, unit_in, choices_in}

eqb-sym : (a b : ℕ) → eqb a b ≡ eqb b a
eqb-sym a b = grind (arith, nat_tests)

-- std's search of a list
pub among-any : (u : ℕ) (vs : List ℕ) → list_any (λ v. eqb v u) vs ≡ is_among u vs
unfolding is_among if_eq
among-any u [] = refl
among-any u (v ∷ vs) = rw (eqb-sym v u) (go (eqb u v) (among-any u vs))
  where
    go : (t : Bool) → list_any (λ v. eqb v u) vs ≡ is_among u vs → (t || list_any (λ v. eqb v u) vs) ≡ pick t true (is_among u vs)
    go true e = refl
    go false e = e

pub choices_past : (o : Rules) {b : Bool} {v : Verdict} → b ≡ is_among o.unit units → b ≡ true → v ≡ table_in o.table → v ≡ choices_in o
unfolding choices_in unit_in
choices_past o e p q = rw (← e, p) q

pub choices_refused : (o : Rules) {b : Bool} → b ≡ is_among o.unit units → b ≡ false → refused 26 0 ≡ choices_in o
unfolding choices_in unit_in
choices_refused o e p = rw (← e, p)
