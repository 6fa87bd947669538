-- The file as one list of ordered blocks with zeros in the gaps: each block stands at its address, and no two share a byte.
use Prim.{tt}
use Rattle.std.specs.Prelude.{◌≡◌, List, [], ◌∷◌, ◌++◌, ℕ, ◌+◌, ◌-◌, ◌≤◌, length, replicate}
use Rattle.std.proofs.Common.{◌∙◌, arith, length-append}
use Rattle.std.proofs.Math.Nat.{sub-zero}
use Rattle.std.proofs.lemmas.List.{length-replicate}
use Rattle.base.specs.Blit.{blit, part}
use Rattle.base.specs.BlitLaws.{part-blit, part-blit-after}
use Rattle.result.specs.Fill.{Block}
use Rattle.result.specs.Ordered.{Ordered}
use Rattle.result.specs.Result.{flat}
use Rattle.result.specs.Guarantee.{Stands, In, here, there, Apart, AllApart}
use Rattle.shown_laws.specs.Standing.{stands_to, stands_front, stands_back}

-- ordered blocks end at or past where they begin
pub ordered-ends : (bs : List Block) (a e : ℕ) → Ordered a bs e → a ≤ e
unfolding Ordered
ordered-ends [] a e o = o
ordered-ends (b ∷ bs) a e o =
    let g : a ≤ b.at = o.0 in
    let h : b.at + length b.bytes ≤ e = ordered-ends bs _ e o.1 in
    omega arith

-- the bytes from a on up to e
pub flat-length : (bs : List Block) (a e : ℕ) → Ordered a bs e → length (flat a bs e) ≡ e - a
unfolding flat Ordered
flat-length [] a e o = length-replicate (e - a) 0
flat-length (b ∷ bs) a e o =
    let g : a ≤ b.at = o.0 in
    let h : b.at + length b.bytes ≤ e = ordered-ends bs _ e o.1 in
    simp (length-append, length-replicate, flat-length bs (b.at + length b.bytes) e o.1) (omega arith)

-- the file has as many bytes as its size says
pub length-flat : (bs : List Block) (e : ℕ) → Ordered 0 bs e → length (flat 0 bs e) ≡ e
length-flat bs e o = flat-length bs 0 e o ∙ sub-zero e

-- where the whole stands, each block stands at its address
flat_stands : {b : Block} {l : List ℕ} (bs : List Block) (a e : ℕ) → Ordered a bs e → Stands l a (flat a bs e) → In b bs
    → Stands l b.at b.bytes
unfolding flat Ordered
flat_stands {b = b} {l = l} [] a e o s x3 = elim x3 [ ]
flat_stands {b} {l} (c ∷ bs) a e o s here =
    let g : a ≤ b.at = o.0 in
    stands_to (stands_back (replicate (b.at - a) 0) b.bytes (stands_front _ (flat (b.at + length b.bytes) bs e) s))
    (simp length-replicate (omega arith))
flat_stands {b} {l} (c ∷ bs) a e o s (there i) =
    let g : a ≤ c.at = o.0 in
    let t : Stands l (c.at + length c.bytes) (flat (c.at + length c.bytes) bs e) =
    stands_to (stands_back (replicate (c.at - a) 0 ++ c.bytes) (flat (c.at + length c.bytes) bs e) s)
    (simp (length-append, length-replicate) (omega arith)) in
    flat_stands bs (c.at + length c.bytes) e o.1 t i

-- each block stands in the final bytes: the file over what the output held
pub final_stands : {b : Block} (bs : List Block) (e : ℕ) (out : List ℕ) → Ordered 0 bs e → e ≤ length out → In b bs
    → Stands (blit 0 (flat 0 bs e) out) b.at b.bytes
final_stands bs e out o h i = flat_stands bs 0 e o (record { is = part-blit 0 (flat 0 bs e) out (rw length-flat (omega arith)) }) i

-- what lies past the file is kept
pub final_keeps : (bs : List Block) (e j n : ℕ) (out : List ℕ) → Ordered 0 bs e → e ≤ j
    → part j n (blit 0 (flat 0 bs e) out) ≡ part j n out
final_keeps bs e j n out o h = part-blit-after (flat 0 bs e) 0 j n out (rw length-flat (omega arith))

-- a block of ordered ones begins at or past their beginning
pub ordered-from : {b : Block} (bs : List Block) (a e : ℕ) → Ordered a bs e → In b bs → a ≤ b.at
unfolding Ordered
ordered-from {b = b} [] a e o x'' = elim x'' [ ]
ordered-from (c ∷ bs) a e o here = o.0
ordered-from {b} (c ∷ bs) a e o (there i) =
    let g : a ≤ c.at = o.0 in
    let h : c.at + length c.bytes ≤ b.at = ordered-from bs _ e o.1 i in
    omega arith

-- and ends by their end
pub ordered-by : {b : Block} (bs : List Block) (a e : ℕ) → Ordered a bs e → In b bs → b.at + length b.bytes ≤ e
unfolding Ordered
ordered-by {b = b} [] a e o x'' = elim x'' [ ]
ordered-by (c ∷ bs) a e o here = ordered-ends bs _ e o.1
ordered-by (c ∷ bs) a e o (there i) = ordered-by bs _ e o.1 i

-- no two ordered blocks share a byte
pub ordered_apart : (bs : List Block) (a e : ℕ) → Ordered a bs e → AllApart bs
unfolding Ordered AllApart Apart
ordered_apart [] a e o = tt
ordered_apart (b ∷ bs) a e o = (λ c i. ordered-from bs _ e o.1 i, ordered_apart bs _ e o.1)

-- ---- membership
module _ {A : Type 0} {b : A} where
  pub in_front_lem : {xs : List A} (ys : List A) → In b xs → In b (xs ++ ys)
  in_front_lem ys here = here
  in_front_lem ys (there i) = there (in_front_lem ys i)

  pub in_back : (xs : List A) {ys : List A} → In b ys → In b (xs ++ ys)
  in_back [] i = i
  in_back (x ∷ xs) i = there (in_back xs i)
