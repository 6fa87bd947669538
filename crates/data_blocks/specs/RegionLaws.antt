-- Laws of a column's data blocks, filled record by record.
use Prim.Native.Nat.{ℕ, zero, suc, ◌+◌, ◌-◌, ◌*◌, ◌/◌, ◌%◌, ◌≤◌, ◌<◌, min}
use Rattle.std.specs.Prelude.{true, ◌≡◌}
use mathlib.Core.List.{List, [], ◌∷◌, ◌++◌, append_assoc}
use Rattle.std.proofs.Math.Path.{refl, sym, ap}
use Rattle.std.proofs.Common.{◌∙◌, add-zero, zero-add, suc-add, zero-mul, mul-le-mul_right, div-lt_iff_lt-mul, length-take, take-add, drop-drop, take_at, drop_at, length-take-le}
use Rattle.std.proofs.Math.Logic.{⊎_elim}
use Rattle.std.proofs.Math.Nat.{suc-mul, add-mul, mul_comm, min-le_right, mod-lt, div-add-mod', div-eq_of_lt, div-zero, mul-add-div_right, add-div_left}
use native.Mathlib.Omega.{arith}
use Rattle.std.proofs.Math.ListN.{length, take, drop, length-append, length-drop, take-append-drop}
use Rattle.std.proofs.Math.Seq.{take-take, take_all}
use Rattle.base.specs.ChoiceLaws.{eq_yes, eq_no}
use Rattle.base.specs.Blit.{part, blit}
use Rattle.base.specs.BlitLaws.{length-blit, blit-append}
use Rattle.mdf.specs.Group.{samples, inval_bytes}
use Rattle.mdf.specs.Records.{joined, size_of}
use Rattle.work_words.specs.Words.{fragments_of}
use Rattle.plan.specs.Channel.{fits, width}
use Rattle.result.specs.Payload.{cells, payloads}
use Rattle.result.specs.Fill.{header, block_of}
use Rattle.payload_laws.specs.Lists.{Long, long-take, long-drop, together}
use Rattle.payload_laws.specs.GeometryLaws.{split_some}
use Rattle.payload_laws.specs.PayloadLaws.{length-header, length_framed, length-payloads, payloads-joined}
use Rattle.payload_laws.specs.CellLaws.{length-cells, cells-append}
use Rattle.places.specs.declared.stretch.Stretch.{Stretch}
use Rattle.places.specs.Stretch.{records_at, spaced}
use Rattle.places.specs.StretchLaws.{length-spaced, spaced-add, records_at-append, length-records_at}
use Rattle.joined.specs.AheadLaws.{zero_or_more, drop-take}
use Rattle.cells.specs.Strided.{Lying}
use Rattle.data_blocks.specs.declared.piece.Form.{Form}
use Rattle.data_blocks.specs.Blocks.{framed_all}
use Rattle.data_blocks.specs.Region.{region_of, begun, filled_to, reach_to, start_of, Formed, Due, Grown, PieceIn, places_of, PieceOf, PutPiece}

-- ---- blocks begun
pub begun_first : (m q : ℕ) → 0 < m → begun m (q * m) ≡ q
unfolding begun
begun_first m q h =
    let z : (m - 1) / m ≡ 0 = div-eq_of_lt (omega arith) in
    mul-add-div_right h q (m - 1) ∙ omega arith

pub begun_in : (m q r : ℕ) → 0 < r → r ≤ m → begun m (q * m + r) ≡ q + 1
unfolding begun
begun_in m q r z h =
    let e : q * m + r + (m - 1) ≡ q * m + (m + (r - 1)) = omega arith in
    let k : 0 < m = omega arith in
    let f : (m + (r - 1)) / m ≡ (r - 1) / m + 1 = add-div_left (r - 1) k in
    let y : (r - 1) / m ≡ 0 = div-eq_of_lt (omega arith) in
    rw e (mul-add-div_right k q (m + (r - 1)) ∙ omega arith)

pub begun-none : (m : ℕ) → begun m 0 ≡ 0
unfolding begun
begun-none zero = div-zero (0 + (0 - 1))
begun-none (suc m) = div-eq_of_lt (omega arith)

filled_is : (m w i : ℕ) {b : ℕ} → begun m i ≡ b → filled_to m w i ≡ 24 * b + i * w
unfolding filled_to
filled_is m w i e = rw e

pub filled_none : (m w : ℕ) → filled_to m w 0 ≡ 0
unfolding filled_to
filled_none m w = omega (arith, begun-none m, zero-mul w)

-- ---- the bytes up to record number i
module _ (m w i : ℕ) (h : 0 < m) where
  parted : i / m * m + i % m ≡ i
  parted = div-add-mod' i m

  pub to-first : i % m ≡ 0 → filled_to m w i ≡ 24 * (i / m) + i * w
  unfolding filled_to
  to-first z =
      let p = parted in
      let e : i ≡ i / m * m = omega arith in
      let b : begun m i ≡ i / m = ap (begun m) e ∙ begun_first m (i / m) h in
      omega arith

  pub to_inside : (i % m ≡ 0 → ⊥) → filled_to m w i ≡ 24 * (i / m) + i * w + 24
  unfolding filled_to
  to_inside z =
      let l = mod-lt i h in
      let b : begun m i ≡ i / m + 1 = ap (begun m) (sym parted) ∙ begun_in m (i / m) (i % m) (omega arith) (omega arith) in
      omega arith

  -- and past n records more of its block
  pub to-next : (n : ℕ) → 0 < n → i % m + n ≤ m → filled_to m w (i + n) ≡ 24 * (i / m) + i * w + 24 + n * w
  unfolding filled_to
  to-next n z l =
      let p = parted in
      let e : i + n ≡ i / m * m + (i % m + n) = omega arith in
      let b : begun m (i + n) ≡ i / m + 1 = ap (begun m) e ∙ begun_in m (i / m) (i % m + n) (omega arith) l in
      omega (arith, add-mul i n w)

least_of : (x a b : ℕ) → x ≤ a → x ≤ b → x ≤ min a b
least_of x a b h k = omega arith

-- ---- bytes of a region that came to stand, from the front on
pub grown_none : (region : List ℕ) (a : ℕ) (out : List ℕ) → Grown region a a out out
grown_none region a out base e = e

grown_blit : (region : List ℕ) (x : ℕ) (bs out : List ℕ) → part x (length bs) region ≡ bs → x + length bs ≤ length region → {last : List ℕ}
    → last ≡ blit x bs out → Grown region x (x + length bs) out last
unfolding part
grown_blit region x bs out is within {last} q base e =
    let t : take (x + length bs) region ≡ take x region ++ bs = take-add x (length bs) region ∙ ap (λ (v : List ℕ). take x region ++ v) is in
    let l : length (take x region) ≡ x = length-take-le x region (omega arith) in
    q ∙ rw (t, blit-append, l, zero-add, e)

-- ---- parts of blocks
part_at : (a n : ℕ) (xs ys zs : List ℕ) → length xs ≡ a → length ys ≡ n → part a n (xs ++ (ys ++ zs)) ≡ ys
unfolding part
part_at a n xs ys zs e f = ap (take n) (drop_at xs (ys ++ zs) a e) ∙ take_at ys zs n f

-- n records past the first r of m
take_inner : (r n m : ℕ) (l : List (List ℕ)) → r + n ≤ m → take n (drop r (take m l)) ≡ take n (drop r l)
take_inner zero n m l h = take-take n m l (omega arith)
take_inner (suc r) n zero l h = absurd (omega arith)
take_inner (suc r) n (suc m) [] h = refl
take_inner (suc r) n (suc m) (x ∷ l) h = take_inner r n m l (omega arith)

framed_append : (kind : ℕ) (ps qs : List (List ℕ)) → framed_all kind (ps ++ qs) ≡ framed_all kind ps ++ framed_all kind qs
unfolding framed_all
framed_append kind [] qs = refl
framed_append kind (p ∷ ps) qs =
    rw (framed_append kind ps qs) (sym (append_assoc (block_of kind p) (framed_all kind ps) (framed_all kind qs)))

framed_size : (kind : ℕ) (ps : List (List ℕ)) → length (framed_all kind ps) ≡ 24 * length ps + length (together ps)
unfolding framed_all together
framed_size kind [] = refl
framed_size kind (p ∷ ps) = rw (length-append, length-append, length_framed, framed_size kind ps) (omega arith)

-- the lists of a block, taken apart
spread : (a h t x y z r : List ℕ) → t ≡ x ++ (y ++ z) → a ++ ((h ++ t) ++ r) ≡ (a ++ (h ++ x)) ++ (y ++ (z ++ r))
spread a h t x y z r e = rw e (simp append_assoc)

module _ (s : List ℕ) (g c kind m : ℕ) where
  payloads-add : (q j : ℕ) (rs : List (List ℕ)) → payloads s g c m (q + j) rs ≡ payloads s g c m q rs ++ payloads s g c m j (drop (q * m) rs)
  unfolding payloads
  payloads-add zero j rs = rw (zero-add, zero-mul)
  payloads-add (suc q) j rs =
      let e : suc q * m ≡ m + q * m = omega (arith, suc-mul q m) in
      let d : drop (q * m) (drop m rs) ≡ drop (suc q * m) rs = rw e (drop-drop (q * m) m rs) in
      rw (suc-add, ← d) (ap (λ (x : List (List ℕ)). cells s g c (take m rs) ∷ x) (payloads-add q j (drop m rs)))

  -- blocks before block number q, this, and those past it
  block_at : (q j : ℕ) (rs : List (List ℕ)) → framed_all kind (payloads s g c m (q + suc j) rs)
      ≡ framed_all kind (payloads s g c m q rs)
      ++ (block_of kind (cells s g c (take m (drop (q * m) rs))) ++ framed_all kind (payloads s g c m j (drop m (drop (q * m) rs))))
  unfolding framed_all payloads
  block_at q j rs = ap (framed_all kind) (payloads-add q (suc j) rs) ∙ framed_append kind (payloads s g c m q rs) _

  module _ (f : fits s g c ≡ true) (rs : List (List ℕ)) (l : Long (samples s g + inval_bytes s g) rs) where
    blocks-size : (k : ℕ) → length (framed_all kind (payloads s g c m k rs)) ≡ 24 * k + length (take (k * m) rs) * width s g c
    blocks-size k =
        let e : length (together (payloads s g c m k rs)) ≡ length (take (k * m) rs) * width s g c =
        ap length (payloads-joined s g c m k rs) ∙ length-cells s g c f (long-take (k * m) l)
        ∙ mul_comm (width s g c) (length (take (k * m) rs)) in
        rw (framed_size, length-payloads, e)

    module _ (q j : ℕ) (few : q * m ≤ length rs) where
      front-size : length (framed_all kind (payloads s g c m q rs)) ≡ 24 * q + q * m * width s g c
      front-size = blocks-size q ∙ rw (length-take-le (q * m) rs few)

      -- the header of block number q
      header-part : part (24 * q + q * m * width s g c) 24 (framed_all kind (payloads s g c m (q + suc j) rs))
          ≡ header kind (24 + min m (length rs - q * m) * width s g c) 0
      unfolding block_of
      header-part =
          let t : List (List ℕ) = take m (drop (q * m) rs) in
          let n : length (cells s g c t) ≡ min m (length rs - q * m) * width s g c =
          length-cells s g c f (long-take m (long-drop (q * m) l)) ∙ mul_comm (width s g c) (length t)
          ∙ rw (length-take, length-drop) in
          rw (block_at q j rs, ← n, append_assoc)
          (part_at (24 * q + q * m * width s g c) 24 (framed_all kind (payloads s g c m q rs)) (header kind (24 + length (cells s g c t)) 0) _
          front-size (length-header kind (24 + length (cells s g c t)) 0))

      -- n of its cells, past r
      cells-part : (r n : ℕ) → r + n ≤ m → q * m + r + n ≤ length rs
          → part (24 * q + (q * m + r) * width s g c + 24) (n * width s g c) (framed_all kind (payloads s g c m (q + suc j) rs))
          ≡ cells s g c (take n (drop (q * m + r) rs))
      unfolding block_of
      cells-part r n a b =
          let o : List (List ℕ) = drop (q * m) rs in
          let lo : Long (samples s g + inval_bytes s g) o = long-drop (q * m) l in
          let no : r + n ≤ length o = rw length-drop (omega arith) in
          let t : List (List ℕ) = take m o in
          let x : List (List ℕ) = take r t in
          let y : List (List ℕ) = take n (drop r t) in
          let z : List (List ℕ) = drop n (drop r t) in
          let all : t ≡ x ++ (y ++ z) = sym (ap (λ (v : List (List ℕ)). x ++ v) (take-append-drop n (drop r t)) ∙ take-append-drop r t) in
          let cs : cells s g c t ≡ cells s g c x ++ (cells s g c y ++ cells s g c z) =
          ap (cells s g c) all ∙ cells-append s g c x (y ++ z) ∙ ap (λ (v : List ℕ). cells s g c x ++ v) (cells-append s g c y z) in
          let xr : x ≡ take r o = take-take r m o (omega arith) in
          let yr : y ≡ take n (drop r o) = take_inner r n m o a in
          let lx : length (cells s g c x) ≡ r * width s g c =
          ap (λ (v : List (List ℕ)). length (cells s g c v)) xr ∙ length-cells s g c f (long-take r lo)
          ∙ rw (length-take-le r o (omega arith)) (mul_comm (width s g c) r) in
          let nd : n ≤ length (drop r o) = rw length-drop (omega arith) in
          let ly : length (cells s g c y) ≡ n * width s g c =
          ap (λ (v : List (List ℕ)). length (cells s g c v)) yr ∙ length-cells s g c f (long-take n (long-drop r lo))
          ∙ rw (length-take-le n (drop r o) nd) (mul_comm (width s g c) n) in
          let fr : List ℕ = framed_all kind (payloads s g c m q rs) in
          let hd : List ℕ = header kind (24 + length (cells s g c t)) 0 in
          let re : List ℕ = framed_all kind (payloads s g c m j (drop m o)) in
          let whole : framed_all kind (payloads s g c m (q + suc j) rs) ≡ (fr ++ (hd ++ cells s g c x)) ++ (cells s g c y ++ (cells s g c z ++ re)) =
          block_at q j rs ∙ spread fr hd (cells s g c t) (cells s g c x) (cells s g c y) (cells s g c z) re cs in
          let lf : length (fr ++ (hd ++ cells s g c x)) ≡ 24 * q + (q * m + r) * width s g c + 24 =
          rw (length-append, length-append, lx, front-size, length-header) (omega (arith, add-mul (q * m) r (width s g c))) in
          rw whole (part_at _ _ (fr ++ (hd ++ cells s g c x)) (cells s g c y) (cells s g c z ++ re) lf ly
          ∙ ap (cells s g c) (yr ∙ ap (take n) (drop-drop r (q * m) rs)))

-- ---- a column's blocks: where a record lies
module _ {s : List ℕ} {f : Form} {room : ℕ} (d : Formed s f room) where
  per_some : 0 < f.per
  per_some = split_some d.split

  per_all : f.records ≤ f.blocks * f.per
  per_all =
      let x = d.split in
      let y : f.blocks * f.per ≡ x.full * f.per + f.per = rw x.blocks (suc-mul x.full f.per) in
      omega (arith, x.enough)

  block-of : (i : ℕ) → i < f.records → i / f.per < f.blocks
  block-of i h = (div-lt_iff_lt-mul {k = f.per} {x = i} {y = f.blocks} per_some).1 (omega (arith, per_all))

  opened : (i : ℕ) → i < f.records → f.blocks ≡ i / f.per + suc (f.blocks - suc (i / f.per))
  opened i h = omega (arith, block-of i h)

  -- the block that record number i lies in has room
  pub region_room : (i : ℕ) → i < f.records
      → 24 * (i / f.per) + i * f.shape.width + 24 + min f.per (f.records - i) * f.shape.width ≤ 24 * f.blocks + f.records * f.shape.width
  region_room i h =
      let n : ℕ = min f.per (f.records - i) in
      let a = min-le_right f.per (f.records - i) in
      let b : (i + n) * f.shape.width ≤ f.records * f.shape.width = mul-le-mul_right f.shape.width (omega arith) in
      omega (arith, block-of i h, add-mul i n f.shape.width)

  pub begin_room : (i : ℕ) → i < f.records
      → (0 < f.per) × (i < f.records)
      × (24 * (i / f.per) + i * f.shape.width + 24 + min f.per (f.records - i) * f.shape.width ≤ room)
  begin_room i h = (per_some, h, omega (arith, region_room i h, d.ends))

  -- n records from number i on, of one block, have room past its header
  pub piece_room : (i n : ℕ) → 0 < n → i % f.per + n ≤ f.per → i + n ≤ f.records
      → 24 * (i / f.per) + i * f.shape.width + 24 + n * f.shape.width ≤ room
  piece_room i n z a b =
      let u : n * f.shape.width ≤ min f.per (f.records - i) * f.shape.width =
      mul-le-mul_right f.shape.width (least_of n f.per (f.records - i) (omega arith) (omega arith)) in
      omega (arith, region_room i (omega arith), d.ends)

  -- ---- with its records
  module _ {rs : List (List ℕ)} (e : Due f rs) where
    abbrev group : ℕ
    group = f.shape.group

    abbrev channel : ℕ
    channel = f.shape.channel

    long_of : Long (samples s group + inval_bytes s group) rs
    long_of = rw (← d.shaped.long) e.long

    first-few : (i : ℕ) → i < f.records → i / f.per * f.per ≤ length rs
    first-few i h = omega (arith, e.many, div-add-mod' i f.per)

    pub region_size : length (region_of s f rs) ≡ 24 * f.blocks + f.records * f.shape.width
    unfolding region_of
    region_size =
        let a : take (f.blocks * f.per) rs ≡ rs = take_all (f.blocks * f.per) rs (omega (arith, e.many, per_all)) in
        blocks-size s group channel f.kind f.per d.shaped.fitting rs long_of f.blocks ∙ rw (a, e.many, ← d.shaped.wide)

    region_header : (i : ℕ) → i < f.records → i % f.per ≡ 0
        → part (24 * (i / f.per) + i * f.shape.width) 24 (region_of s f rs)
        ≡ header f.kind (24 + min f.per (f.records - i) * f.shape.width) 0
    unfolding region_of
    region_header i h z =
        let m : ℕ = f.per in
        let q : ℕ = i / m in
        let j : ℕ = f.blocks - suc q in
        let p : q * m ≡ i = omega (arith, div-add-mod' i m) in
        let x : part (24 * q + i * f.shape.width) 24 (framed_all f.kind (payloads s group channel m (q + suc j) rs))
        ≡ header f.kind (24 + min m (f.records - i) * f.shape.width) 0 =
        rw (p, e.many, ← d.shaped.wide) at (header-part s group channel f.kind m d.shaped.fitting rs long_of q j (first-few i h)) in
        ap (λ (k : ℕ). part (24 * q + i * f.shape.width) 24 (framed_all f.kind (payloads s group channel m k rs))) (opened i h) ∙ x

    region_cells : (i n : ℕ) → 0 < n → i % f.per + n ≤ f.per → i + n ≤ f.records
        → part (24 * (i / f.per) + i * f.shape.width + 24) (n * f.shape.width) (region_of s f rs)
        ≡ cells s group channel (take n (drop i rs))
    unfolding region_of
    region_cells i n z a b =
        let m : ℕ = f.per in
        let q : ℕ = i / m in
        let j : ℕ = f.blocks - suc q in
        let h : i < f.records = omega arith in
        let p : q * m + i % m ≡ i = div-add-mod' i m in
        let y = cells-part s group channel f.kind m d.shaped.fitting rs long_of q j (first-few i h) (i % m) n a (omega (arith, e.many)) in
        let x : part (24 * q + i * f.shape.width + 24) (n * f.shape.width) (framed_all f.kind (payloads s group channel m (q + suc j) rs))
        ≡ cells s group channel (take n (drop i rs)) = rw (p, ← d.shaped.wide) at y in
        ap (λ (k : ℕ). part (24 * q + i * f.shape.width + 24) (n * f.shape.width) (framed_all f.kind (payloads s group channel m k rs)))
        (opened i h) ∙ x

    -- all records fill it
    pub region_full : reach_to f f.records ≡ length (region_of s f rs)
    region_full =
        let x = d.split in
        let m : ℕ = f.per in
        let n : f.records ≡ x.full * m + (f.records - x.full * m) = omega (arith, x.left) in
        let b : begun m f.records ≡ x.full + 1 = ap (begun m) n ∙ begun_in m x.full (f.records - x.full * m) (omega (arith, x.left))
        (omega (arith, x.enough)) in
        let k : x.full + 1 ≡ f.blocks = omega (arith, x.blocks) in
        filled_is m f.shape.width f.records (b ∙ k) ∙ sym region_size

    -- the header before record number i, if it begins a block
    grown_start : (i : ℕ) (out : List ℕ) → i < f.records → {mid : List ℕ}
        → mid ≡ blit (24 * (i / f.per) + i * f.shape.width) (start_of f.kind f.per f.records f.shape.width i) out
        → Grown (region_of s f rs) (reach_to f i) (24 * (i / f.per) + i * f.shape.width + 24) out mid
    unfolding start_of blit
    grown_start i out h {mid} q =
        let m : ℕ = f.per in
        let w : ℕ = f.shape.width in
        let x : ℕ = 24 * (i / m) + i * w in
        let hd : List ℕ = header f.kind (24 + min m (f.records - i) * w) 0 in
        let n : length hd ≡ 24 = length-header f.kind (24 + min m (f.records - i) * w) 0 in
        let r = region_room i h in
        let sz = region_size in
        ⊎_elim
        (λ z.
        let s1 : start_of f.kind m f.records w i ≡ hd = sym (eq_yes _ _ _ _ z refl) in
        let k : part x (length hd) (region_of s f rs) ≡ hd = rw n (region_header i h z) in
        let t : mid ≡ blit x hd out = q ∙ ap (λ (v : List ℕ). blit x v out) s1 in
        let y : Grown (region_of s f rs) x (x + 24) out mid = rw n at (grown_blit (region_of s f rs) x hd out k (omega arith) t) in
        rw (to-first m w i per_some z) y)
        (λ z.
        let s0 : start_of f.kind m f.records w i ≡ [] = sym (eq_no _ _ _ _ (λ y. omega arith) refl) in
        let t : mid ≡ out = q ∙ ap (λ (v : List ℕ). blit x v out) s0 in
        rw (to_inside m w i per_some (λ y. omega arith), t) (grown_none (region_of s f rs) (x + 24) out))
        (zero_or_more (i % m))

    grown_cells : (i : ℕ) (out : List ℕ) (n : ℕ) → 0 < n → i % f.per + n ≤ f.per → i + n ≤ f.records → {last : List ℕ}
        → last ≡ blit (24 * (i / f.per) + i * f.shape.width + 24) (cells s group channel (take n (drop i rs))) out
        → Grown (region_of s f rs) (24 * (i / f.per) + i * f.shape.width + 24) (reach_to f (i + n)) out last
    grown_cells i out n z a b {last} q =
        let m : ℕ = f.per in
        let w : ℕ = f.shape.width in
        let x : ℕ = 24 * (i / m) + i * w + 24 in
        let bs : List ℕ = cells s group channel (take n (drop i rs)) in
        let nd : n ≤ length (drop i rs) = rw length-drop (omega (arith, e.many)) in
        let k : length bs ≡ n * w = length-cells s group channel d.shaped.fitting (long-take n (long-drop i long_of))
        ∙ rw (length-take-le n (drop i rs) nd, ← d.shaped.wide) (mul_comm w n) in
        let p : part x (length bs) (region_of s f rs) ≡ bs = rw k (region_cells i n z a b) in
        let r = region_room i (omega arith) in
        let u : n * w ≤ min m (f.records - i) * w = mul-le-mul_right w (least_of n m (f.records - i) (omega arith) (omega arith)) in
        let sz = region_size in
        let y : Grown (region_of s f rs) x (x + n * w) out last = rw k at (grown_blit (region_of s f rs) x bs out p (omega arith) q) in
        rw (to-next m w i per_some n z a) y

    -- both
    pub grown_piece : (i n : ℕ) (out : List ℕ) → 0 < n → i % f.per + n ≤ f.per → i + n ≤ f.records → {mid last : List ℕ}
        → mid ≡ blit (24 * (i / f.per) + i * f.shape.width) (start_of f.kind f.per f.records f.shape.width i) out
        → last ≡ blit (24 * (i / f.per) + i * f.shape.width + 24) (cells s group channel (take n (drop i rs))) mid
        → Grown (region_of s f rs) (reach_to f i) (reach_to f (i + n)) out last
    grown_piece i n out z a b {mid} p q base g = grown_cells i mid n z a b q base (grown_start i out (omega arith) p base g)

-- ---- records at places, taken apart
module _ (l : List ℕ) (b m n : ℕ) (ps qs : List ℕ) (xs : List (List ℕ)) (k : length ps ≡ m) (e : take (m + n) xs ≡ records_at l b (ps ++ qs)) where
  size : length (records_at l b ps) ≡ m
  size = length-records_at l b ps ∙ k

  pub front_records : take m xs ≡ records_at l b ps
  front_records = sym (take-take m (m + n) xs (omega arith)) ∙ ap (take m) (e ∙ records_at-append l b ps qs) ∙ take_at (records_at l b ps) _ m size

  back_records : take n (drop m xs) ≡ records_at l b qs
  back_records =
      let z : m + n - m ≡ n = omega arith in
      let y : take (m + n - m) (drop m xs) ≡ records_at l b qs =
      sym (drop-take m (m + n) xs) ∙ ap (drop m) (e ∙ records_at-append l b ps qs) ∙ drop_at (records_at l b ps) _ m size in
      rw z at y

-- ---- records put, piece by piece
module _ (s ws : List ℕ) (f : Form) where
  pub piece_back : (rs : List (List ℕ)) (i m n : ℕ) (ps qs : List ℕ) → length ps ≡ m → PieceOf s ws f rs i (m + n) (ps ++ qs)
      → PieceOf s ws f rs (i + m) n qs
  piece_back rs i m n ps qs k e =
      rw (← drop-drop m i rs) (back_records (joined s (fragments_of ws)) f.shape.length m n ps qs (drop i rs) k e)

  -- none
  pub piece_none : (i : ℕ) (out : List ℕ) → PutPiece s ws f i 0 [] out out
  piece_none i out rs e q = rw add-zero (grown_none _ (reach_to f i) out)

  -- those at the places ps, then those at qs
  pub piece_both : (i m n : ℕ) (ps qs : List ℕ) {out mid last : List ℕ} → length ps ≡ m → PutPiece s ws f i m ps out mid
      → PutPiece s ws f (i + m) n qs mid last → PutPiece s ws f i (m + n) (ps ++ qs) out last
  piece_both i m n ps qs k a b rs e q base g =
      let x = front_records (joined s (fragments_of ws)) f.shape.length m n ps qs (drop i rs) k q in
      let z : i + (m + n) ≡ i + m + n = omega arith in
      rw z (b rs e (piece_back rs i m n ps qs k q) base (a rs e x base g))

  -- those of one block
  pub piece_block : {room : ℕ} → Formed s f room → (i n : ℕ) (ps out : List ℕ) → 0 < n → i % f.per + n ≤ f.per → i + n ≤ f.records
      → {mid last : List ℕ} {body : ℕ} → body ≡ 24 * (i / f.per) + i * f.shape.width + 24
      → mid ≡ blit (24 * (i / f.per) + i * f.shape.width) (start_of f.kind f.per f.records f.shape.width i) out
      → last ≡ blit body (cells s f.shape.group f.shape.channel (records_at (joined s (fragments_of ws)) f.shape.length ps)) mid
      → PutPiece s ws f i n ps out last
  piece_block d i n ps out z a h {mid} {last} b x y rs e q =
      let y1 : last ≡ blit (24 * (i / f.per) + i * f.shape.width + 24) (cells s f.shape.group f.shape.channel (take n (drop i rs))) mid =
      rw (b, ← q) at y in
      grown_piece d e i n out z a h x y1

-- what is left of a stretch past m records lies in the data
pub lying_past : {size bytes first stride n : ℕ} (m : ℕ) → Lying size bytes first stride n → m < n
    → Lying size bytes (first + m * stride) stride (n - m)
lying_past {size} {bytes} {first} {stride} {n} m y h =
    let e : n - 1 ≡ m + (n - m - 1) = omega arith in
    let a : (n - 1) * stride ≡ m * stride + (n - m - 1) * stride = ap (λ (x : ℕ). x * stride) e ∙ add-mul m (n - m - 1) stride in
    record { some = omega arith; within = omega (arith, y.within) }

-- the first m lie in it
pub lying_front : {size bytes first stride n : ℕ} (m : ℕ) → Lying size bytes first stride n → 0 < m → m ≤ n → Lying size bytes first stride m
lying_front {size} {bytes} {first} {stride} {n} m y z h =
    let a : (m - 1) * stride ≤ (n - 1) * stride = mul-le-mul_right stride (omega arith) in
    record { some = z; within = omega (arith, y.within) }

-- ---- done records of a stretch are put, up to number at; left are more, from an offset on
pub record Piecing (s ws : List ℕ) (f : Form) (t : Stretch) (at offset left : ℕ) (out₀ out : List ℕ) : Type 0 where
  pub lying : Lying (size_of (fragments_of ws)) f.shape.length offset t.stride left
  pub done : ℕ
  pub all : done + left ≡ t.count
  pub number : at ≡ t.number + done
  pub place : offset ≡ t.first + done * t.stride
  pub same : length out ≡ length out₀
  pub put : PutPiece s ws f t.number done (spaced t.first t.stride done) out₀ out

pub piecing_begin : {s ws : List ℕ} {f : Form} (t : Stretch) (out : List ℕ) → PieceIn ws f t
    → Piecing s ws f t t.number t.first t.count out out
unfolding spaced
piecing_begin t out p =
    record {
      lying = p.lying;
      done = 0;
      all = omega arith;
      number = omega arith;
      place = omega (arith, zero-mul t.stride);
      same = refl;
      put = piece_none _ _ _ t.number out;
    }

module _ {s ws : List ℕ} {f : Form} {t : Stretch} {at offset left : ℕ} {out₀ out : List ℕ} (v : Piecing s ws f t at offset left out₀ out)
    (p : PieceIn ws f t) where
  pub piecing_few : at + left ≤ f.records
  piecing_few = omega (arith, v.number, v.all, p.few)

  -- c more came to stand
  module _ (c : ℕ) (l : c ≤ left) {last : List ℕ} (y : PutPiece s ws f at c (spaced offset t.stride c) out last) where
    put_more : PutPiece s ws f t.number (v.done + c) (spaced t.first t.stride (v.done + c)) out₀ last
    put_more =
        rw (spaced-add t.first t.stride v.done c)
        (piece_both s ws f t.number v.done c (spaced t.first t.stride v.done) (spaced (t.first + v.done * t.stride) t.stride c)
        (length-spaced t.first t.stride v.done) v.put (rw (← v.number, ← v.place) y))

    pub piecing_turn : c < left → length last ≡ length out → Piecing s ws f t (at + c) (offset + c * t.stride) (left - c) out₀ last
    piecing_turn h o =
        record {
          lying = lying_past c v.lying h;
          done = v.done + c;
          all = omega (arith, v.all);
          number = omega (arith, v.number);
          place = omega (arith, v.place, add-mul v.done c t.stride);
          same = o ∙ v.same;
          put = put_more;
        }

    pub piecing_end : c ≡ left → PutPiece s ws f t.number t.count (places_of t) out₀ last
    piecing_end h = let n : v.done + c ≡ t.count = omega (arith, v.all) in rw n at put_more

-- ---- c records from number at on, of those left, are of one block
pub record Piece (m at c left : ℕ) : Type 0 where
  pub some : 0 < c
  pub within : c ≤ left
  pub block : at % m + c ≤ m

pub piece_of : (m at c left : ℕ) → 0 < m → 0 < left → c ≡ min (m - at % m) left → Piece m at c left
piece_of m at c left z l e =
    let r = mod-lt at z in
    record { some = omega arith; within = omega arith; block = omega arith }

-- they lie in the data, and their cells have room past the block's header
pub piece_ready : {s ws : List ℕ} {f : Form} {t : Stretch} {at offset left : ℕ} {out₀ out : List ℕ} → Piecing s ws f t at offset left out₀ out
    → PieceIn ws f t → {c body : ℕ} {mid : List ℕ} → Formed s f (length out₀) → Piece f.per at c left
    → body ≡ 24 * (at / f.per) + at * f.shape.width + 24
    → mid ≡ blit (24 * (at / f.per) + at * f.shape.width) (start_of f.kind f.per f.records f.shape.width at) out
    → Lying (size_of (fragments_of ws)) f.shape.length offset t.stride c × (body + c * f.shape.width ≤ length mid)
piece_ready {at = at} {out = out} v p {c = c} {mid = mid} d q e m =
    let l : length mid ≡ length out = ap length m ∙ length-blit _ _ out in (
      lying_front c v.lying q.some q.within,
      omega (arith, e, l, v.same, piece_room d at c q.some q.block (omega (arith, piecing_few v p, q.within))),
    )

-- ---- the header before a block's first cell
module _ (kind m n w i : ℕ) (place : ℕ) (out : List ℕ) where
  pub start_none : 0 < i % m → out ≡ blit place (start_of kind m n w i) out
  unfolding start_of blit
  start_none h = rw (sym (eq_no (i % m) 0 (header kind (24 + min m (n - i) * w) 0) [] (λ z. omega arith) refl))

  pub start-header : i % m ≡ 0 → {count : ℕ} {last : List ℕ} → count ≡ min m (n - i) → last ≡ blit place (header kind (24 + count * w) 0) out
      → last ≡ blit place (start_of kind m n w i) out
  unfolding start_of
  start-header z {count} {last} c e =
      let q : header kind (24 + min m (n - i) * w) 0 ≡ start_of kind m n w i = eq_yes _ _ _ _ z refl in
      e ∙ rw c (ap (λ (v : List ℕ). blit place v out) q)
