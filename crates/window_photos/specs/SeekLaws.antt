-- The place of a moved attachment: what is left of the search gives what the whole gives.
use Prim.Native.Nat.{ℕ, zero, suc, ◌+◌, ◌*◌, ◌-◌, ◌<◌}
use Rattle.std.specs.Prelude.{List, ◌≡◌}
use Rattle.std.proofs.Math.Path.{refl, ap}
use Rattle.std.proofs.Common.{sym, ◌∙◌}
use native.Mathlib.Omega.{arith}
use Rattle.std.proofs.Math.ListN.{get_or}
use Rattle.base.specs.ChoiceLaws.{eq_yes, eq_no}
use Rattle.result.specs.Fill.{moved_to}
use Rattle.window_copies.specs.Attachments.{attachments_from, attachments_in}

-- ---- the search: so many attachments from word p on are left
pub record Seeking (w : List ℕ) (metadata n a p left : ℕ) : Type 0 where
  pub at : p + 3 * left ≡ 4100 + 3 * n
  pub first : ℕ
  pub rest : moved_to a (attachments_from w p first left) ≡ moved_to a (attachments_in w metadata n)

pub seek_begin : (w : List ℕ) (metadata n a : ℕ) → Seeking w metadata n a 4100 n
seek_begin w metadata n a = record { at = refl; first = metadata; rest = refl }

module _ {w : List ℕ} {metadata n a p left : ℕ} (u : Seeking w metadata n a p left) where
  pub seek_none : left ≡ 0 → 0 ≡ moved_to a (attachments_in w metadata n)
  unfolding attachments_from moved_to
  seek_none z = ap (λ (k : ℕ). moved_to a (attachments_from w p u.first k)) (sym z) ∙ u.rest

  pub seek_hit : 0 < left → get_or w p 0 ≡ a → get_or w (p + 1) 0 ≡ moved_to a (attachments_in w metadata n)
  unfolding attachments_from moved_to
  seek_hit h e = go left h u.rest
    where
      go : (left : ℕ) → 0 < left → moved_to a (attachments_from w p u.first left) ≡ moved_to a (attachments_in w metadata n)
          → get_or w (p + 1) 0 ≡ moved_to a (attachments_in w metadata n)
      go zero h q = absurd (omega arith)
      go (suc k) h q = eq_yes (get_or w p 0) a _ _ e refl ∙ q

  pub seek_next : 0 < left → (get_or w p 0 ≡ a → ⊥) → Seeking w metadata n a (p + 3) (left - 1)
  unfolding attachments_from moved_to
  seek_next h d = go left h u.at u.rest
    where
      go : (left : ℕ) → 0 < left → p + 3 * left ≡ 4100 + 3 * n → moved_to a (attachments_from w p u.first left) ≡ moved_to a (attachments_in w metadata n)
          → Seeking w metadata n a (p + 3) (left - 1)
      go zero h x q = absurd (omega arith)
      go (suc k) h x q =
          let e : suc k - 1 ≡ k = omega arith in
          rw e (record { at = omega arith; first = u.first + get_or w (p + 2) 0; rest = eq_no (get_or w p 0) a _ _ d refl ∙ q })
