-- Blocks that touch each other are written by writing their bytes.
use Rattle.std.specs.Prelude.{ℕ, ◌+◌, ◌-◌, ◌≤◌, List, [], ◌∷◌, ◌++◌, ◌≡◌, refl, replicate}
use Rattle.std.proofs.Common.{append_assoc, ◌∙◌, add-zero, length-append}
use Rattle.std.proofs.Math.Path.{sym}
use native.Mathlib.Omega.{arith}
use Rattle.std.proofs.Math.ListN.{length}
use Rattle.std.proofs.lemmas.List.{length-replicate}
use Rattle.base.specs.Blit.{blit}
use Rattle.base.specs.BlitLaws.{blit-append}
use Rattle.result.specs.Fill.{Block}
use Rattle.result.specs.Ordered.{Ordered}
use Rattle.result.specs.Result.{flat}
use Rattle.write_copies.specs.Wrote.{end_of, Wrote}
use Rattle.write_copies.specs.WroteLaws.{ordered_end}
use Rattle.thinning.specs.Touching.{bytes_of, Touching, laid}

none_left : (a : ℕ) → replicate {A = ℕ} (a - a) 0 ≡ []
none_left a = let e : a - a ≡ 0 = omega arith in rw e

pub bytes-append : (xs ys : List Block) → bytes_of (xs ++ ys) ≡ bytes_of xs ++ bytes_of ys
unfolding bytes_of
bytes-append [] ys = refl
bytes-append (x ∷ xs) ys = rw (bytes-append xs ys) (sym (append_assoc x.bytes (bytes_of xs) (bytes_of ys)))

pub touching_append : (a : ℕ) (xs ys : List Block) → Touching a xs → Touching (a + length (bytes_of xs)) ys → Touching a (xs ++ ys)
unfolding bytes_of Touching
touching_append a [] ys t u = rw add-zero at u
touching_append a (x ∷ xs) ys t u =
    let e : a + length (x.bytes ++ bytes_of xs) ≡ a + length x.bytes + length (bytes_of xs) = rw length-append (omega arith) in
    (t.0, touching_append (a + length x.bytes) xs ys t.1 (rw e at u))

-- past them
touching_end : (a : ℕ) (bs : List Block) → Touching a bs → end_of a bs ≡ a + length (bytes_of bs)
unfolding end_of bytes_of Touching
touching_end a [] t = sym (add-zero a)
touching_end a (b ∷ bs) t =
    let e : a + length b.bytes + length (bytes_of bs) ≡ a + length (b.bytes ++ bytes_of bs) = rw length-append (omega arith) in
    rw t.0 (touching_end (a + length b.bytes) bs t.1 ∙ e)

flat_touching : (a : ℕ) (bs : List Block) → Touching a bs → flat a bs (a + length (bytes_of bs)) ≡ bytes_of bs
unfolding flat bytes_of Touching
flat_touching a [] t = rw add-zero (none_left a)
flat_touching a (b ∷ bs) t =
    let e : a + length (b.bytes ++ bytes_of bs) ≡ a + length b.bytes + length (bytes_of bs) = rw length-append (omega arith) in
    rw (t.0, none_left a, e, flat_touching (a + length b.bytes) bs t.1)

flat_later : (a first r : ℕ) (b : Block) (bs : List Block) → b.at ≡ first → flat a (b ∷ bs) r ≡ replicate (first - a) 0 ++ flat first (b ∷ bs) r
unfolding flat
flat_later a first r b bs e = rw (e, none_left first) (append_assoc (replicate (first - a) 0) b.bytes _)

module _ (a first : ℕ) (b : Block) (bs : List Block) (t : Touching first (b ∷ bs)) where
  later_end : end_of a (b ∷ bs) ≡ first + length (bytes_of (b ∷ bs))
  unfolding end_of
  later_end = touching_end first (b ∷ bs) t

  pub touching_room : {e : ℕ} → Ordered a (b ∷ bs) e → (a ≤ first) × (first + length (bytes_of (b ∷ bs)) ≤ e)
  unfolding Ordered Touching
  touching_room {e} o = let r = ordered_end a (b ∷ bs) e o in (rw t.0 at o.0, rw later_end at r.1)

  -- zeros up to the first, then the bytes of all
  pub wrote_touching : {out mid last : List ℕ} → a ≤ first → mid ≡ blit a (replicate (first - a) 0) out → last ≡ blit first (bytes_of (b ∷ bs)) mid
      → Wrote a (b ∷ bs) (first + length (bytes_of (b ∷ bs))) out last
  unfolding Touching
  wrote_touching {out} h m q =
      let y : a + (first - a) ≡ first = omega arith in
      record {
        end = sym later_end;
        bytes = q ∙ rw m (sym (rw (flat_later a first (first + length (bytes_of (b ∷ bs))) b bs t.0, flat_touching first (b ∷ bs) t)
            (blit-append (replicate (first - a) 0) a (bytes_of (b ∷ bs)) out ∙ rw (length-replicate, y))));
      }

-- ---- laid one by one
pub laid-append : (xs ys : List Block) (out : List ℕ) → laid (xs ++ ys) out ≡ laid ys (laid xs out)
unfolding laid
laid-append [] ys out = refl
laid-append (x ∷ xs) ys out = laid-append xs ys (blit x.at x.bytes out)

pub laid_touching : (a : ℕ) (bs : List Block) (out : List ℕ) → Touching a bs → laid bs out ≡ blit a (bytes_of bs) out
unfolding laid bytes_of Touching blit
laid_touching a [] out t = refl
laid_touching a (b ∷ bs) out t =
    rw t.0 (laid_touching (a + length b.bytes) bs (blit a b.bytes out) t.1 ∙ sym (blit-append b.bytes a (bytes_of bs) out))
