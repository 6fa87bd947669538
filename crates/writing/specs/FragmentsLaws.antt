-- Laws of the first words of a list, copied one by one.
use Rattle.std.specs.Prelude.{◌≡◌, ℕ, suc, ◌+◌, ◌<◌, ◌≤◌, List, [], ◌∷◌, length, take, slice_index, slice_set, refl}
use Rattle.std.proofs.Common.{sym, ap, ◌∙◌, arith, length-set, get_or-set_same, get_or-set_other, get_or-take, ext_get_or, length-take-le, ⊎_elim}
use Rattle.std.proofs.Math.Seq.{take-set-lt}
use Rattle.base.specs.Blit.{blit}
use Rattle.records.specs.FragmentLaws.{eq_or_ne}

-- the first i of n words were copied
pub record Copied (l : List ℕ) (n : ℕ) (k : List ℕ) (i : ℕ) : Type 0 where
  pub long : length k ≡ n
  pub enough : n ≤ length l
  pub are : (j : ℕ) → j < i → slice_index k j ≡ slice_index l j

pub copied_none : (l : List ℕ) (n : ℕ) (k : List ℕ) → length k ≡ n → n ≤ length l → Copied l n k 0
copied_none l n k e h = record { long = e; enough = h; are = λ j q. absurd (omega arith) }

module _ {l : List ℕ} {n : ℕ} {k : List ℕ} {i : ℕ} (t : Copied l n k i) where
  pub copied_more : i < n → Copied l n (slice_set k i (slice_index l i)) (i + 1)
  copied_more h =
      record {
        long = length-set k i (slice_index l i) ∙ t.long;
        enough = t.enough;
        are = λ j q. ⊎_elim
            (λ (e : j ≡ i). rw e (get_or-set_same k i (slice_index l i) 0 (omega (arith, t.long, h))))
            (λ (e : j ≡ i → ⊥). get_or-set_other k i j (slice_index l i) 0 e ∙ t.are j (omega (arith, q, e)))
            (eq_or_ne j i);
      }

  pub copied_all : n ≤ i → k ≡ take n l
  copied_all h =
      let e = length-take-le n l t.enough in
      ext_get_or 0 k (take n l) (t.long ∙ sym e)
      (λ j q. t.are j (omega (arith, q, h, t.long)) ∙ sym (get_or-take n l j 0 (omega (arith, q, t.long))))

-- what is laid over the first n words
pub take-blit : (bs : List ℕ) (i n : ℕ) (l : List ℕ) → i + length bs ≤ n → take n (blit i bs l) ≡ blit i bs (take n l)
unfolding blit
take-blit [] i n l h = refl
take-blit (b ∷ bs) i n l h = take-blit bs (suc i) n (slice_set l i b) (omega arith) ∙ ap (blit (suc i) bs) (take-set-lt n l i b (omega arith))
