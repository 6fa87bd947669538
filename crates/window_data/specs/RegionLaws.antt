-- The data blocks of a column over a window, piece by piece.
use Prim.Native.Nat.{ℕ, ◌+◌, ◌*◌, ◌-◌, ◌/◌, ◌%◌, ◌≤◌, ◌<◌, min}
use mathlib.Core.List.{List, [], ◌++◌}
use Rattle.std.proofs.Common.{⊎_elim, ap, ◌∙◌, add-zero, zero-mul, add-mul, mul-le-mul_right, div-mul-le_self, div-lt_iff_lt-mul, arith, drop_of_length-le, length-take, drop_at, take-add, take_all, length-take-le}
use Rattle.std.specs.Prelude.{◌≡◌, length, take, drop, replicate}
use Rattle.std.proofs.Math.Path.{refl, sym}
use Rattle.std.proofs.lemmas.List.{length-replicate}
use Rattle.std.proofs.Math.Seq.{drop-nil, take-nil}
use Rattle.base.specs.Blit.{blit, part}
use Rattle.base.specs.ChoiceLaws.{eq_yes, eq_no}
use Rattle.mdf.specs.Records.{most64, joined, size_of}
use Rattle.work_words.specs.Words.{fragments_of}
use Rattle.result.specs.Payload.{cells}
use Rattle.result.specs.Fill.{header}
use Rattle.places.specs.declared.stretch.Stretch.{Stretch}
use Rattle.places.specs.Stretch.{records_at, spaced}
use Rattle.places.specs.StretchLaws.{spaced-add, length-spaced}
use Rattle.stores.specs.Cases.{lt_or_le}
use Rattle.stores.specs.Over.{over}
use Rattle.stores.specs.OverLaws.{over-append, over_before, over_window, length_over}
use Rattle.windows.specs.WindowedLaws.{over-past}
use Rattle.cells.specs.Strided.{Lying}
use Rattle.data_blocks.specs.declared.piece.Form.{Form}
use Rattle.data_blocks.specs.Region.{region_of, begun, filled_to, reach_to, start_of, Formed, Due, PieceIn, places_of}
use Rattle.data_blocks.specs.RegionLaws.{to-first, to_inside, begin_room, grown_piece, front_records, piece_back, lying_past, lying_front, Piece}
use Rattle.window_data.specs.Region.{GrownIn, start_at, BlockIn, LaysStart, LaysPiece}

pub over_none : (a at : ℕ) (w : List ℕ) → over a at [] w ≡ w
unfolding over blit
over_none a at w = rw (drop-nil (a - at)) refl

-- ---- a window as a part of a longer list
as_part : (a : ℕ) (base : List ℕ) → part a (length base) (replicate a 0 ++ base) ≡ base
unfolding part
as_part a base = ap (take (length base)) (drop_at (replicate a 0) base a (length-replicate a 0)) ∙ take_all (length base) base (omega arith)

-- ---- one block's header and cells
module _ {s : List ℕ} {f : Form} {room : ℕ} (d : Formed s f room) {rs : List (List ℕ)} (e : Due f rs) where
  pub laid_piece : (a i n : ℕ) (w : List ℕ) → 0 < n → i % f.per + n ≤ f.per → i + n ≤ f.records → {mid last : List ℕ}
      → LaysStart f a i w mid
      → last ≡ over a (start_at f i + 24) (cells s f.shape.group f.shape.channel (take n (drop i rs))) mid
      → GrownIn a (region_of s f rs) (reach_to f i) (reach_to f (i + n)) w last
  laid_piece a i n w z b h {mid} {last} p q base g =
      let all : List ℕ = region_of s f rs in
      let k : ℕ = length base in
      let whole : List ℕ = replicate a 0 ++ base in
      let st : List ℕ = start_of f.kind f.per f.records f.shape.width i in
      let cs : List ℕ = cells s f.shape.group f.shape.channel (take n (drop i rs)) in
      let v : List ℕ = blit 0 (take (reach_to f i) all) whole in
      let l : List ℕ = blit (start_at f i + 24) cs (blit (start_at f i) st v) in
      let y : l ≡ blit 0 (take (reach_to f (i + n)) all) whole = grown_piece d e i n v z b h refl refl whole refl in
      let e0 : w ≡ part a k v = g ∙ ap (over a 0 (take (reach_to f i) all)) (sym (as_part a base)) ∙ sym (over_window a k 0 (take (reach_to f i) all) whole) in
      let e1 : mid ≡ part a k (blit (start_at f i) st v) = p ∙ ap (over a (start_at f i) st) e0 ∙ sym (over_window a k (start_at f i) st v) in
      let e2 : last ≡ part a k l = q ∙ ap (over a (start_at f i + 24) cs) e1 ∙ sym (over_window a k (start_at f i + 24) cs (blit (start_at f i) st v)) in
      e2 ∙ ap (part a k) y ∙ over_window a k 0 (take (reach_to f (i + n)) all) whole ∙ ap (over a 0 (take (reach_to f (i + n)) all)) (as_part a base)

-- ---- bytes past the window, and before it
pub grown_past : (a : ℕ) (region : List ℕ) (i j : ℕ) (w : List ℕ) → i ≤ j → a + length w ≤ i → GrownIn a region i j w w
unfolding part
grown_past a region i j w h k base g =
    let n : length w ≡ length base = ap length g ∙ length_over a 0 (take i region) base in
    let m : j ≡ i + (j - i) = omega arith in
    let t : take j region ≡ take i region ++ take (j - i) (drop i region) = ap (λ (x : ℕ). take x region) m ∙ take-add i (j - i) region in
    let o : over a 0 (take j region) base ≡ over a (0 + length (take i region)) (take (j - i) (drop i region)) (over a 0 (take i region) base) =
    ap (λ (x : List ℕ). over a 0 x base) t ∙ over-append a 0 (take i region) (take (j - i) (drop i region)) base in
    let y : over a (0 + length (take i region)) (take (j - i) (drop i region)) (over a 0 (take i region) base) ≡ over a 0 (take i region) base =
    ⊎_elim (λ l. short l) (λ l. long l) (lt_or_le (length region) i) in
    g ∙ sym (o ∙ y)
  where
    short : length region < i → over a (0 + length (take i region)) (take (j - i) (drop i region)) (over a 0 (take i region) base) ≡ over a 0 (take i region) base
    short l =
        let q : length region ≤ i = omega arith in
        let z : take (j - i) (drop i region) ≡ [] = ap (take (j - i)) (drop_of_length-le region q) ∙ take-nil (j - i) in
        rw z (over_none a _ _)

    long : i ≤ length region → over a (0 + length (take i region)) (take (j - i) (drop i region)) (over a 0 (take i region) base) ≡ over a 0 (take i region) base
    long l =
        let p : length (take i region) ≡ i = length-take-le i region l in
        over-past a _ _ _ (rw (p, length_over) (omega (arith, ap length g, length_over a 0 (take i region) base)))

pub grown_before : (a : ℕ) (region : List ℕ) (i : ℕ) (w : List ℕ) → i ≤ a → w ≡ over a 0 (take i region) w
grown_before a region i w h = sym (over_before a 0 (take i region) w (rw length-take (omega arith)))

-- what stands before a record's cell lies at or before what was laid up to it
module _ {s : List ℕ} {f : Form} {room : ℕ} (d : Formed s f room) where
  pub start_reached : (i : ℕ) → i < f.records → start_at f i ≤ reach_to f i
  start_reached i h =
      let b = begin_room d i h in
      ⊎_elim (λ z. let e = to_inside f.per f.shape.width i b.0 (λ y. omega arith) in omega (arith, e))
      (λ z. let e = to-first f.per f.shape.width i b.0 (omega arith) in omega (arith, e)) (lt_or_le 0 (i % f.per))

pub block_in_lem : {s : List ℕ} {f : Form} → Formed s f most64 → (i : ℕ) → i < f.records → BlockIn f i
block_in_lem d i h = let b = begin_room d i h in record { some = b.0; few = h; ends = omega (arith, b.2) }

quotient-more : (x y m : ℕ) → 0 < m → x ≤ y → x / m ≤ y / m
quotient-more x y m z h = ⊎_elim
    (λ l. absurd (omega (arith, (div-lt_iff_lt-mul {k = m} {x = y} {y = x / m} z).0 l, div-mul-le_self x m))) (λ l. l) (lt_or_le (y / m) (x / m))

-- as many records reach as far, or further
pub reach_more : (f : Form) (i n : ℕ) → 0 < f.per → reach_to f i ≤ reach_to f (i + n)
unfolding filled_to begun
reach_more f i n z =
    let k : (i + (f.per - 1)) / f.per ≤ (i + n + (f.per - 1)) / f.per = quotient-more (i + (f.per - 1)) (i + n + (f.per - 1)) f.per z (omega arith) in
    omega (arith, k, add-mul i n f.shape.width)

-- ---- records laid, piece by piece
module _ (s ws : List ℕ) (f : Form) (a : ℕ) where
  -- none
  pub piece_none : (i : ℕ) (w : List ℕ) → LaysPiece s ws f a i 0 [] w w
  piece_none i w rs e q base g = rw add-zero g

  -- those at the places ps, then those at qs
  pub piece_both : (i m n : ℕ) (ps qs : List ℕ) {w mid last : List ℕ} → length ps ≡ m → LaysPiece s ws f a i m ps w mid
      → LaysPiece s ws f a (i + m) n qs mid last → LaysPiece s ws f a i (m + n) (ps ++ qs) w last
  piece_both i m n ps qs k x y rs e q base g =
      let u = front_records (joined s (fragments_of ws)) f.shape.length m n ps qs (drop i rs) k q in
      let z : i + (m + n) ≡ i + m + n = omega arith in
      rw z (y rs e (piece_back s ws f rs i m n ps qs k q) base (x rs e u base g))

  -- those of one block
  pub piece_block : {room : ℕ} → Formed s f room → (i n : ℕ) (ps w : List ℕ) → 0 < n → i % f.per + n ≤ f.per → i + n ≤ f.records
      → {mid last : List ℕ} {body : ℕ} → body ≡ start_at f i + 24 → LaysStart f a i w mid
      → last ≡ over a body (cells s f.shape.group f.shape.channel (records_at (joined s (fragments_of ws)) f.shape.length ps)) mid
      → LaysPiece s ws f a i n ps w last
  piece_block d i n ps w z b h {mid} {last} o x y rs e q =
      let y1 : last ≡ over a (start_at f i + 24) (cells s f.shape.group f.shape.channel (take n (drop i rs))) mid = rw (o, ← q) at y in
      laid_piece d e a i n w z b h x y1

  -- those past the window
  pub piece_past : {room : ℕ} → Formed s f room → (i n : ℕ) (ps w : List ℕ) → i < f.records → a + length w ≤ start_at f i → LaysPiece s ws f a i n ps w w
  piece_past d i n ps w h k rs e q =
      grown_past a (region_of s f rs) (reach_to f i) (reach_to f (i + n)) w (reach_more f i n (begin_room d i h).0) (omega (arith, k, start_reached d i h))

-- ---- done records of a stretch are laid, up to number at; left are more, from an offset on
pub record Piecing (s ws : List ℕ) (f : Form) (a : ℕ) (t : Stretch) (at offset left : ℕ) (w₀ w : List ℕ) : Type 0 where
  pub lying : Lying (size_of (fragments_of ws)) f.shape.length offset t.stride left
  pub done : ℕ
  pub all : done + left ≡ t.count
  pub number : at ≡ t.number + done
  pub place : offset ≡ t.first + done * t.stride
  pub same : length w ≡ length w₀
  pub put : LaysPiece s ws f a t.number done (spaced t.first t.stride done) w₀ w

pub piecing_begin : {s ws : List ℕ} {f : Form} (a : ℕ) (t : Stretch) (w : List ℕ) → PieceIn ws f t
    → Piecing s ws f a t t.number t.first t.count w w
unfolding spaced
piecing_begin a t w p =
    record {
      lying = p.lying;
      done = 0;
      all = omega arith;
      number = omega arith;
      place = omega (arith, zero-mul t.stride);
      same = refl;
      put = piece_none _ _ _ a t.number w;
    }

module _ {s ws : List ℕ} {f : Form} {a : ℕ} {t : Stretch} {at offset left : ℕ} {w₀ w : List ℕ} (v : Piecing s ws f a t at offset left w₀ w)
    (p : PieceIn ws f t) where
  pub piecing_few : at + left ≤ f.records
  piecing_few = omega (arith, v.number, v.all, p.few)

  -- c more were laid
  module _ (c : ℕ) (l : c ≤ left) {last : List ℕ} (y : LaysPiece s ws f a at c (spaced offset t.stride c) w last) where
    put_more : LaysPiece s ws f a t.number (v.done + c) (spaced t.first t.stride (v.done + c)) w₀ last
    put_more =
        rw (spaced-add t.first t.stride v.done c)
        (piece_both s ws f a t.number v.done c (spaced t.first t.stride v.done) (spaced (t.first + v.done * t.stride) t.stride c)
        (length-spaced t.first t.stride v.done) v.put (rw (← v.number, ← v.place) y))

    pub piecing_turn : c < left → length last ≡ length w → Piecing s ws f a t (at + c) (offset + c * t.stride) (left - c) w₀ last
    piecing_turn h o =
        record {
          lying = lying_past c v.lying h;
          done = v.done + c;
          all = omega (arith, v.all);
          number = omega (arith, v.number);
          place = omega (arith, v.place, add-mul v.done c t.stride);
          same = o ∙ v.same;
          put = put_more;
        }

    pub piecing_end : c ≡ left → LaysPiece s ws f a t.number t.count (places_of t) w₀ last
    piecing_end h = let n : v.done + c ≡ t.count = omega (arith, v.all) in rw n at put_more

  -- the others lie past the window
  pub piecing_past : {room : ℕ} → Formed s f room → a + length w ≤ start_at f at → LaysPiece s ws f a t.number t.count (places_of t) w₀ w
  piecing_past d k =
      piecing_end left (omega arith) (piece_past s ws f a d at left (spaced offset t.stride left) w (omega (arith, piecing_few, v.lying.some)) k) refl

  -- the cells of c records of one block have numbers for indices
  pub piece_numbers : Formed s f most64 → {c body : ℕ} → Piece f.per at c left → body ≡ start_at f at + 24
      → (0 < f.shape.width) × (body + c * f.shape.width ≤ most64) × Lying (size_of (fragments_of ws)) f.shape.length offset t.stride c
  piece_numbers d {c} q e =
      let b = begin_room d at (omega (arith, piecing_few, v.lying.some)) in
      let u : c * f.shape.width ≤ min f.per (f.records - at) * f.shape.width = mul-le-mul_right f.shape.width (omega (arith, q.block, piecing_few, q.within)) in
      (d.wide, omega (arith, e, b.2, u), lying_front c v.lying q.some q.within)

-- ---- the header before a block's first cell
module _ (a kind m n w i : ℕ) (place : ℕ) (out : List ℕ) where
  pub start_none : 0 < i % m → out ≡ over a place (start_of kind m n w i) out
  unfolding start_of
  start_none h =
      let z : start_of kind m n w i ≡ [] = sym (eq_no _ _ _ _ (λ y. omega arith) refl) in
      sym (over_before_none z)
    where
      over_before_none : start_of kind m n w i ≡ [] → over a place (start_of kind m n w i) out ≡ out
      over_before_none z = rw z (over_none a place out)

  pub start-header : i % m ≡ 0 → {count : ℕ} {last : List ℕ} → count ≡ min m (n - i) → last ≡ over a place (header kind (24 + count * w) 0) out
      → last ≡ over a place (start_of kind m n w i) out
  unfolding start_of
  start-header z e q = let y : start_of kind m n w i ≡ header kind (24 + min m (n - i) * w) 0 = sym (eq_yes _ _ _ _ z refl) in q ∙ rw (y, e) refl
