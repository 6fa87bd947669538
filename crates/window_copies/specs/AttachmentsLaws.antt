-- Laws of the attachments that stand in lent words.
use Rattle.std.specs.Prelude.{ℕ, zero, suc, ◌+◌, ◌-◌, ◌*◌, ◌≤◌, ◌<◌, List, [], ◌∷◌, ◌≡◌, refl, get_or, length}
use Rattle.std.proofs.Common.{⊎_elim, sym, ◌∙◌, sub-one, arith}
use Rattle.std.proofs.Math.ListN.{get_or-eq_default}
use Rattle.stores.specs.Cases.{lt_or_le}
use Rattle.base.specs.Choice.{if_lt}
use Rattle.base.specs.ChoiceLaws.{lt_yes, lt_no}
use Rattle.result.specs.Fill.{next_attachment}
use Rattle.window_copies.specs.Attachments.{attachment, attachments_from, NextPlace}

-- one attachment and the rest; none
pub attachments_cons : (w : List ℕ) (p k n : ℕ) → 0 < n
    → attachments_from w p k n ≡ attachment w p k ∷ attachments_from w (p + 3) (k + get_or w (p + 2) 0) (n - 1)
unfolding attachments_from
attachments_cons w p k zero h = absurd (omega arith)
attachments_cons w p k (suc n) h = rw sub-one

pub attachments-none : (w : List ℕ) (p k n : ℕ) → n ≡ 0 → attachments_from w p k n ≡ []
unfolding attachments_from
attachments-none w p k n e = rw e

-- where the next attachment is placed, 0 past the last
next_of : (w : List ℕ) (p k n : ℕ) {r : ℕ} → r ≡ if_lt 0 n (get_or w (p + 1) 0) 0 → r ≡ next_attachment (attachments_from w p k n)
unfolding attachments_from
next_of w p k zero e = e ∙ sym (lt_no 0 0 (get_or w (p + 1) 0) 0 (omega arith) refl)
next_of w p k (suc n) e = e ∙ sym (lt_yes 0 (suc n) (get_or w (p + 1) 0) 0 (omega arith) refl)

pub next-some : (w : List ℕ) (i n : ℕ) {r : ℕ} → i < n → r ≡ get_or w (4100 + 3 * i + 1) 0 → NextPlace w i n r
next-some w i n h e = record { is = λ k. next_of w (4100 + 3 * i) k (n - i) (lt_yes 0 (n - i) _ _ (omega arith) e) }

pub next-none : (w : List ℕ) (i n : ℕ) → n ≤ i → NextPlace w i n 0
next-none w i n h = record { is = λ k. next_of w (4100 + 3 * i) k (n - i) (lt_no 0 (n - i) _ _ (omega arith) refl) }

-- the place of an attachment whose words aren't there counts as 0
pub next_past : (w : List ℕ) (i n : ℕ) → length w ≤ 4100 + 3 * i + 1 → NextPlace w i n 0
next_past w i n l = ⊎_elim (λ h. next-some w i n h (sym (get_or-eq_default w 0 l))) (λ h. next-none w i n h) (lt_or_le i n)
