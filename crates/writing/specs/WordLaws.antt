-- Laws of a column's numbers that a word of it gives.
use Rattle.std.specs.Prelude.{◌≡◌, ℕ, zero, suc, List, not, ◌≢◌, nat_eq, refl}
use Rattle.std.proofs.Common.{sym, ◌∙◌, arith}
use Rattle.std.proofs.lemmas.Bool.Decides.{nat_tests}
use Rattle.base.specs.ChoiceLaws.{eq_yes, eq_no}
use Rattle.plan.specs.Layout.{cg_size}
use Rattle.result.specs.Fill.{sd_link}
use Rattle.filling.specs.FillLaws.{has_master}
use Rattle.placing.specs.InWords.{cg_bytes}
use Rattle.writing.specs.PlacedIn.{master_in, signal_in}

pub master_by : (w : ℕ) → not (nat_eq w 0) ≡ has_master (master_in w)
unfolding master_in
master_by zero = refl
master_by (suc m) = grind (arith, nat_tests)

pub size_by : (w : ℕ) {x : ℕ} → x ≡ cg_bytes w → x ≡ cg_size (master_in w)
unfolding master_in cg_bytes
size_by zero e = e ∙ sym (eq_yes 0 0 104 112 refl refl)
size_by (suc m) e = e ∙ sym (eq_no (suc m) 0 104 112 (λ q. absurd (omega arith)) refl)

pub sd_no : (w sd : ℕ) → w ≡ 0 → 0 ≡ sd_link (signal_in w) sd
unfolding signal_in
sd_no w sd e = rw e

pub sd_yes : (w sd : ℕ) → (w ≢ 0) → sd ≡ sd_link (signal_in w) sd
unfolding signal_in
sd_yes zero sd h = absurd (h refl)
sd_yes (suc m) sd h = refl
