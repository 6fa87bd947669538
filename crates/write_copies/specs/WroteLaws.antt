-- Laws of blocks written one after the other.
use Rattle.std.specs.Prelude.{ℕ, ◌+◌, ◌-◌, ◌≤◌, List, [], ◌∷◌, ◌++◌, ◌≡◌, refl, length, replicate}
use Rattle.std.proofs.Common.{append-nil, append_assoc, sym, ap, ◌∙◌, arith}
use Rattle.std.proofs.lemmas.List.{length-replicate}
use Rattle.base.specs.Blit.{blit}
use Rattle.base.specs.BlitLaws.{blit-append}
use Rattle.result.specs.Fill.{Block}
use Rattle.result.specs.Ordered.{Ordered}
use Rattle.result.specs.Result.{flat}
use Rattle.shown_laws.specs.Flat.{flat-length}
use Rattle.write_copies.specs.Wrote.{end_of, Wrote}

-- ---- ends
pub end_append : (a : ℕ) (xs ys : List Block) → end_of a (xs ++ ys) ≡ end_of (end_of a xs) ys
unfolding end_of
end_append a [] ys = refl
end_append a (x ∷ xs) ys = end_append (x.at + length x.bytes) xs ys

pub ordered_end : (a : ℕ) (bs : List Block) (e : ℕ) → Ordered a bs e → (a ≤ end_of a bs) × (end_of a bs ≤ e)
unfolding end_of Ordered
ordered_end a [] e o = (omega arith, o)
ordered_end a (b ∷ bs) e o =
    let r = ordered_end (b.at + length b.bytes) bs e o.1 in
    let g : a ≤ b.at = o.0 in
    (omega (arith, r.0, g), r.1)

-- blocks in order, the first of them and the rest
pub ordered-front : (a : ℕ) (xs ys : List Block) (e : ℕ) → Ordered a (xs ++ ys) e → Ordered a xs (end_of a xs)
unfolding end_of Ordered
ordered-front a [] ys e o = omega arith
ordered-front a (x ∷ xs) ys e o = (o.0, ordered-front (x.at + length x.bytes) xs ys e o.1)

pub ordered_back : (a : ℕ) (xs ys : List Block) (e : ℕ) → Ordered a (xs ++ ys) e → Ordered (end_of a xs) ys e
unfolding end_of Ordered
ordered_back a [] ys e o = o
ordered_back a (x ∷ xs) ys e o = ordered_back (x.at + length x.bytes) xs ys e o.1

-- an end further on
pub ordered-within : (a : ℕ) (bs : List Block) (e f : ℕ) → Ordered a bs e → e ≤ f → Ordered a bs f
unfolding Ordered
ordered-within a [] e f o h = omega (arith, o, h)
ordered-within a (b ∷ bs) e f o h = (o.0, ordered-within (b.at + length b.bytes) bs e f o.1 h)

-- the first blocks, with room for all
pub ordered-first : (a : ℕ) (xs ys : List Block) (e : ℕ) → Ordered a (xs ++ ys) e → Ordered a xs e
ordered-first a xs ys e o =
    let r = ordered_end (end_of a xs) ys e (ordered_back a xs ys e o) in
    ordered-within a xs (end_of a xs) e (ordered-front a xs ys e o) (omega (arith, r.0, r.1))

-- ---- the bytes of blocks, the first of them and the rest
none_left : (a : ℕ) → replicate {A = ℕ} (a - a) 0 ≡ []
none_left a = let e : a - a ≡ 0 = omega arith in rw e

pub flat_append : (a : ℕ) (xs ys : List Block) (e : ℕ) → flat a (xs ++ ys) e ≡ flat a xs (end_of a xs) ++ flat (end_of a xs) ys e
unfolding flat end_of
flat_append a [] ys e = rw (none_left a)
flat_append a (x ∷ xs) ys e = rw (flat_append (x.at + length x.bytes) xs ys e) (simp append_assoc)

-- ---- written
pub wrote_none : (a : ℕ) (out : List ℕ) → Wrote a [] a out out
unfolding flat end_of blit
wrote_none a out = record { end = refl; bytes = rw (none_left a) }

pub wrote_append : {a m r : ℕ} (e : ℕ) {xs ys : List Block} {out mid last : List ℕ} → Wrote a xs m out mid → Wrote m ys r mid last
    → Ordered a (xs ++ ys) e → Wrote a (xs ++ ys) r out last
wrote_append {a} {m} {r} e {xs} {ys} {out} {mid} {last} v w o =
    let b = ordered_end a xs _ (ordered-front a xs ys e o) in
    let n = flat-length xs a (end_of a xs) (ordered-front a xs ys e o) in
    let q : a + length (flat a xs (end_of a xs)) ≡ end_of a xs = omega (arith, n, b.0) in
    record {
      end = w.end ∙ rw v.end (sym (end_append a xs ys));
      bytes = w.bytes ∙ ap (λ (z : List ℕ). blit m (flat m ys r) z) v.bytes ∙ rw v.end
          (sym (rw (flat_append a xs ys r) (blit-append (flat a xs (end_of a xs)) a (flat (end_of a xs) ys r) out ∙ rw q)));
    }

-- zeros up to a block's place, then the block
pub wrote_block : {a : ℕ} (b : Block) {out last : List ℕ} → a ≤ b.at → last ≡ blit b.at b.bytes (blit a (replicate (b.at - a) 0) out)
    → Wrote a (b ∷ []) (b.at + length b.bytes) out last
unfolding flat end_of
wrote_block {a} b {out} {last} h e =
    let q : a + (b.at - a) ≡ b.at = omega arith in
    record {
      end = refl;
      bytes = e ∙ rw (none_left (b.at + length b.bytes), append-nil)
          (sym (blit-append (replicate (b.at - a) 0) a b.bytes out ∙ rw (length-replicate, q)));
    }
