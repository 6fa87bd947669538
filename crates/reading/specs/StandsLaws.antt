-- Parts of what stands in a list.
use Rattle.std.specs.Prelude.{ℕ, zero, suc, ◌+◌, ◌-◌, ◌≤◌, List, [], ◌∷◌, ◌++◌, ◌≡◌, length, take, drop, get_or}
use Rattle.std.proofs.Common.{sym, ap, ◌∙◌, add-zero, arith, length-append, take-take, drop-drop, get_or-take, get_or-drop}
use Rattle.std.proofs.Math.Nat.{sub-zero, zero-sub, suc-sub-suc}
use Rattle.std.proofs.Math.Seq.{take-nil, drop-nil, take-append_seam, drop-append_seam, take-length}
use Rattle.base.specs.Blit.{part}
use Rattle.reading.specs.Holding.{Stands}

module _ {A : Type 0} where
  pub drop-take : (i m : ℕ) (l : List A) → drop i (take m l) ≡ take (m - i) (drop i l)
  drop-take zero m l = rw sub-zero
  drop-take (suc i) zero l = rw (zero-sub, drop-nil)
  drop-take (suc i) (suc m) [] = rw (suc-sub-suc, take-nil)
  drop-take (suc i) (suc m) (x ∷ l) = rw suc-sub-suc (drop-take i m l)

part-part : (a m i n : ℕ) (l : List ℕ) → i + n ≤ m → part i n (part a m l) ≡ part (a + i) n l
unfolding part
part-part a m i n l h = rw (drop-take, drop-drop) (take-take n (m - i) (drop (a + i) l) (omega arith))

pub stands_front : {l : List ℕ} {a : ℕ} (x y : List ℕ) → Stands l a (x ++ y) → Stands l a x
unfolding part
stands_front {l} {a} x y s = record {
  is =
      ap (λ (k : ℕ). part k (length x) l) (sym (add-zero a))
      ∙ sym (part-part a (length (x ++ y)) 0 (length x) l (rw length-append (omega arith)))
      ∙ ap (part 0 (length x)) s.is ∙ take-append_seam x y;
}

pub stands_back : {l : List ℕ} {a : ℕ} (x y : List ℕ) → Stands l a (x ++ y) → Stands l (a + length x) y
unfolding part
stands_back {l} {a} x y s = record {
  is =
      sym (part-part a (length (x ++ y)) (length x) (length y) l (rw length-append (omega arith)))
      ∙ ap (part (length x) (length y)) s.is ∙ ap (take (length y)) (drop-append_seam x y) ∙ take-length y;
}

pub stands_head : {l : List ℕ} {a : ℕ} (x : ℕ) (ys : List ℕ) → Stands l a (x ∷ ys) → get_or l a 0 ≡ x
unfolding part
stands_head {l} {a} x ys s =
    ap (λ (k : ℕ). get_or l k 0) (sym (add-zero a)) ∙ sym (get_or-drop a l 0 0)
    ∙ sym (get_or-take (length (x ∷ ys)) (drop a l) 0 0 (omega arith)) ∙ ap (λ (k : List ℕ). get_or k 0 0) s.is

pub stands_at : {l : List ℕ} {a b : ℕ} {bs : List ℕ} → Stands l a bs → a ≡ b → Stands l b bs
stands_at s e = rw e at s

pub stands_as_lem : {l : List ℕ} {a : ℕ} {bs cs : List ℕ} → Stands l a bs → bs ≡ cs → Stands l a cs
stands_as_lem s e = rw e at s

-- a part of what stands
pub stands_part : {l : List ℕ} {a : ℕ} (bs : List ℕ) (i n : ℕ) → Stands l a bs → i + n ≤ length bs → part (a + i) n l ≡ part i n bs
stands_part {l} {a} bs i n s h = sym (part-part a (length bs) i n l h) ∙ ap (part i n) s.is
