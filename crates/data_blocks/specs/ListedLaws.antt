-- Laws of the records of a group, at the places that words tell, in the blocks of its column.
use Prim.Native.Nat.{ℕ, zero, suc, ◌+◌, ◌≤◌, ◌<◌}
use mathlib.Core.List.{List, ◌∷◌}
use Rattle.std.specs.Prelude.{◌≡◌, length, get_or, take, drop}
use Rattle.std.proofs.Math.Path.{refl}
use Rattle.std.proofs.Common.{ap, ◌∙◌, add-one, drop-cons}
use native.Mathlib.Omega.{arith}
use Rattle.base.specs.Blit.{part}
use Rattle.base.specs.BlitLaws.{length_part}
use Rattle.base.specs.Checked.{fine}
use Rattle.mdf.specs.Records.{ranges_in, joined, size_of}
use Rattle.work_words.specs.Words.{fragments_of}
use Rattle.result.specs.Payload.{group_records}
use Rattle.payload_laws.specs.SortedLaws.{joined_length}
use Rattle.places.specs.Stretch.{records_at, body_bytes}
use Rattle.places.specs.Longer.{OffsetsIn}
use Rattle.joined.specs.declared.spot.Spot.{Spot}
use Rattle.cells.specs.Shape.{Shaped}
use Rattle.joined.specs.Spot.{SpotOf}
use Rattle.cells.specs.GatheredLaws.{part-add}
use Rattle.data_blocks.specs.declared.piece.Form.{Form}
use Rattle.data_blocks.specs.Region.{reach_to, PieceOf, PutPiece}
use Rattle.data_blocks.specs.RegionLaws.{grown_none, piece_none, piece_both}
use Rattle.data_blocks.specs.FilledLaws.{body_is}
use Rattle.data_blocks.specs.Listed.{ListFilled}

-- ---- words that tell places
part_cons : (i n : ℕ) (l : List ℕ) → i < length l → part i (suc n) l ≡ get_or l i 0 ∷ part (i + 1) n l
unfolding part
part_cons i n l h = rw (drop-cons l i 0 h, add-one)

module _ {s : List ℕ} {d k : ℕ} {gs ws p : List ℕ} {first n : ℕ} (o : OffsetsIn s d k gs ws p first n) where
  -- m records from number a on lie there
  pub offsets_are : (a m : ℕ) → first + n ≤ length p → a + m ≤ n
      → take m (drop a (group_records s d k gs (fragments_of ws)))
      ≡ records_at (joined s (fragments_of ws)) (body_bytes s (get_or gs k 0)) (part (first + a) m p)
  unfolding part records_at
  offsets_are a zero l h = refl
  offsets_are a (suc m) l h =
      let e : first + (a + 1) ≡ first + a + 1 = omega arith in
      let y = offsets_are (a + 1) m l (omega arith) in
      rw ((o.right a (omega arith)).is, part_cons (first + a) m p (omega arith), ← e)
      (ap (λ (rs : List (List ℕ)). part (get_or p (first + a) 0) (body_bytes s (get_or gs k 0)) (joined s (fragments_of ws)) ∷ rs) y)

  pub offsets_fewer : (m : ℕ) → m ≤ n → OffsetsIn s d k gs ws p first m
  offsets_fewer m h = record { right = λ r l. o.right r (omega arith) }

module _ (s ws : List ℕ) (f : Form) (p : List ℕ) (first n a : ℕ) where
  -- none is put
  pub listed-none : (out : List ℕ) → ListFilled s ws f p first n a a out out
  listed-none out d k gs o r g e = grown_none _ (reach_to f a) out

  pub listed_fewer : (b m : ℕ) {out last : List ℕ} → m ≤ n → ListFilled s ws f p first m a b out last → ListFilled s ws f p first n a b out last
  listed_fewer b m h v d k gs o = v d k gs (offsets_fewer o m h)

  -- a record lies past the data: the words don't tell places
  pub listed_stop : (b i : ℕ) {j size : ℕ} {out last : List ℕ} → Shaped s f.shape → ranges_in s (fragments_of ws) ≡ fine
      → size ≡ size_of (fragments_of ws) → i < n → j ≡ first + i → size < get_or p j 0 + f.shape.length
      → ListFilled s ws f p first n a b out last
  listed_stop b i {j} {size} w x z h q y d k gs o r g e =
      let t = (o.right i h).inside in
      let u : get_or p (first + i) 0 + f.shape.length ≤ length (joined s (fragments_of ws)) = rw (body_is s gs k f w g) at t in
      let v : size < get_or p (first + i) 0 + f.shape.length = rw q at y in
      absurd (omega (arith, joined_length s (fragments_of ws) x))

-- ---- done records were put, from number a on
pub record Listing (s ws : List ℕ) (f : Form) (p : List ℕ) (first n a at : ℕ) (k : Spot) (out₀ out : List ℕ) : Type 0 where
  pub done : ℕ
  pub number : at ≡ a + done
  pub few : at ≤ n
  pub same : length out ≡ length out₀
  pub spot : SpotOf s ws k
  pub put : PutPiece s ws f a done (part (first + a) done p) out₀ out

pub listing_begin : {s ws : List ℕ} (f : Form) (p : List ℕ) (first : ℕ) {n : ℕ} (a : ℕ) {k : Spot} (out : List ℕ) → a ≤ n → SpotOf s ws k
    → Listing s ws f p first n a a k out out
unfolding part
listing_begin f p first a out h t =
    record { done = 0; number = omega arith; few = h; same = refl; spot = t; put = piece_none _ _ _ a out }

module _ {s ws : List ℕ} {f : Form} {p : List ℕ} {first n a at : ℕ} {k₀ : Spot} {out₀ out : List ℕ}
    (v : Listing s ws f p first n a at k₀ out₀ out) (l : first + n ≤ length p) where
  -- c more
  pub listing_turn : (c : ℕ) {k : Spot} {last : List ℕ} {j : ℕ} → at + c ≤ n → PutPiece s ws f at c (part (first + at) c p) out last
      → SpotOf s ws k → length last ≡ length out → j ≡ at + c → Listing s ws f p first n a j k out₀ last
  listing_turn c h y t o q =
      let z : first + at ≡ first + a + v.done = omega (arith, v.number) in
      record {
        done = v.done + c;
        number = omega (arith, v.number);
        few = omega arith;
        same = o ∙ v.same;
        spot = t;
        put = rw (part-add (first + a) v.done c p)
            (piece_both s ws f a v.done c (part (first + a) v.done p) (part (first + a + v.done) c p)
            (length_part (first + a) v.done p (omega (arith, v.number))) v.put (rw (← v.number, ← z) y));
      }

  pub listing_end : Shaped s f.shape → ListFilled s ws f p first n a at out₀ out
  listing_end w d k gs o r g e =
      let y : PieceOf s ws f (group_records s d k gs (fragments_of ws)) a v.done (part (first + a) v.done p) =
      rw (body_is s gs k f w g) at (offsets_are o a v.done l (omega (arith, v.number, v.few))) in
      rw v.number (v.put (group_records s d k gs (fragments_of ws)) e y)
