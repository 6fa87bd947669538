-- Laws of the records of a group in the blocks of its column over a window, stretch by stretch.
use Rattle.std.specs.Prelude.{ℕ, ◌+◌, ◌-◌, ◌*◌, ◌/◌, ◌≤◌, ◌<◌, max, min, Bool, true, not, List, ◌++◌, ◌≡◌, length, take}
use Rattle.std.proofs.Math.Logic.{⊎_elim}
use Rattle.std.proofs.Math.Path.{refl, ap}
use Rattle.std.proofs.Common.{◌∙◌, subst, mul_comm, mul_assoc, one-mul, mul-le-mul_left, mul-one, div-lt_iff_lt-mul, add-one, arith, take_all}
use Rattle.std.proofs.Math.Nat.{mul-add, add-mul, mul-le-mul_right, div-mul-le_self, suc-mul}
use Rattle.mdf.specs.Records.{most64, size_of}
use Rattle.work_words.specs.Words.{fragments_of}
use Rattle.result.specs.Payload.{group_records}
use Rattle.places.specs.declared.stretch.Stretch.{Stretch}
use Rattle.places.specs.declared.stretch.Scan.{Scan}
use Rattle.places.specs.declared.stretch.Next.{Next}
use Rattle.places.specs.Stretch.{spaced, Ready, StretchOf}
use Rattle.places.specs.StretchLaws.{length-spaced, spaced-add}
use Rattle.places.specs.Scan.{start, ScanOf, NextOf}
use Rattle.places.specs.ScanLaws.{scan_start}
use Rattle.stores.specs.Cases.{lt_or_le}
use Rattle.stores.specs.Over.{over}
use Rattle.cells.specs.Shape.{Shaped}
use Rattle.cells.specs.Spot.{Readable}
use Rattle.data_blocks.specs.declared.piece.Form.{Form}
use Rattle.data_blocks.specs.Region.{region_of, begun, filled_to, reach_to, Formed, places_of, PieceOf}
use Rattle.payload_laws.specs.GeometryLaws.{split_some}
use Rattle.data_blocks.specs.RegionLaws.{piece_back, region_full}
use Rattle.data_blocks.specs.Filled.{Usable, IfUsable, past_of}
use Rattle.data_blocks.specs.FilledLaws.{not_usable, body_is, stretch_usable}
use Rattle.window_data.specs.Region.{start_at, LaysPiece}
use Rattle.window_data.specs.RegionLaws.{grown_past, grown_before, start_reached, reach_more}
use Rattle.window_data.specs.Filled.{FormIn, FromOf, LaysRest, FilledIn, LaysAll}

pub form_in : {s : List ℕ} {f : Form} → Formed s f most64 → FormIn f
form_in d = record { split = d.split; wide = d.wide; ends = d.ends }

module _ (s ws : List ℕ) (f : Form) (a : ℕ) (t : Stretch) (r : ℕ) {w : List ℕ} where
  -- it ends before number r
  pub rest-none : t.number + t.count ≤ r → LaysRest s ws f a r t w w
  rest-none h rs d e base q =
      let x : max r t.number ≡ r = omega arith in
      let y : max r (t.number + t.count) ≡ r = omega arith in
      rw y (rw x at q)

  -- it begins at number r or past it
  pub rest_all : {last : List ℕ} → r ≤ t.number → LaysPiece s ws f a t.number t.count (places_of t) w last → LaysRest s ws f a r t w last
  rest_all h p rs d e =
      let x : max r t.number ≡ t.number = omega arith in
      let y : max r (t.number + t.count) ≡ t.number + t.count = omega arith in
      rw (x, y) (p rs d e)

  -- r lies in it
  pub rest_part : {last : List ℕ} (m : ℕ) → m ≡ r - t.number → t.number < r → r < t.number + t.count
      → LaysPiece s ws f a (t.number + m) (t.count - m) (places_of (past_of t m)) w last → LaysRest s ws f a r t w last
  rest_part m z h l p rs d e =
      let x : max r t.number ≡ t.number + m = omega arith in
      let y : max r (t.number + t.count) ≡ t.number + m + (t.count - m) = omega arith in
      let z : t.count ≡ m + (t.count - m) = omega arith in
      let q : PieceOf s ws f rs t.number (m + (t.count - m)) (spaced t.first t.stride m ++ places_of (past_of t m)) =
      rw (← spaced-add t.first t.stride m (t.count - m), ← z) e in
      rw (x, y) (p rs d (piece_back s ws f rs t.number m (t.count - m) (spaced t.first t.stride m) (places_of (past_of t m))
      (length-spaced t.first t.stride m) q))

-- ---- the group's records, stretch by stretch
module _ (a : ℕ) {s : List ℕ} {d k : ℕ} {gs ws : List ℕ} {f : Form} where
  pub filled_none : (r : ℕ) (w : List ℕ) → FilledIn a s d k gs ws f r (max r 0) w w
  filled_none r w y g e base q = let x : max r 0 ≡ r = omega arith in rw x q

  pub filled_turn : (r at : ℕ) (w₀ w : List ℕ) {last : List ℕ} (t : Stretch) → Shaped s f.shape → FilledIn a s d k gs ws f r (max r at) w₀ w
      → (Ready s d k gs ws → StretchOf s d k gs ws t) → t.number ≡ at → LaysRest s ws f a r t w last
      → FilledIn a s d k gs ws f r (max r (at + t.count)) w₀ last
  filled_turn r at w₀ w {last} t h v st n p y g e base q =
      let pc : PieceOf s ws f (group_records s d k gs (fragments_of ws)) t.number t.count (places_of t) = rw (body_is s gs k f h g) at (st y).are in
      let x = p (group_records s d k gs (fragments_of ws)) e pc base in
      rw (← n) (x (rw n (v y g e base q)))

-- ---- a place up to which records were found, and laid
pub record Filling (a : ℕ) (s : List ℕ) (d k : ℕ) (gs ws : List ℕ) (f : Form) (r : ℕ) (scan : Scan) (at : ℕ) (w₀ w : List ℕ) : Type 0 where
  pub few : at ≤ f.records
  pub same : length w ≡ length w₀
  pub scan_of : Ready s d k gs ws → ScanOf s d k gs ws scan × (scan.number ≡ at)
  pub filled : FilledIn a s d k gs ws f r (max r at) w₀ w

pub filling_begin : {a : ℕ} {s : List ℕ} {d k : ℕ} {gs ws : List ℕ} {f : Form} (r : ℕ) (w : List ℕ) → Filling a s d k gs ws f r start 0 w w
filling_begin {a} r w = record { few = omega arith; same = refl; scan_of = λ y. (scan_start y, refl); filled = filled_none a r w }

module _ {a : ℕ} {s : List ℕ} {d k : ℕ} {gs ws : List ℕ} {f : Form} {r : ℕ} {scan : Scan} {at : ℕ} {w₀ w : List ℕ}
    (v : Filling a s d k gs ws f r scan at w₀ w) (h : Readable s ws f.shape) {x : Next}
    (n : Ready s d k gs ws → ScanOf s d k gs ws scan → NextOf s d k gs ws scan x) where
  next_of : Ready s d k gs ws → NextOf s d k gs ws scan x
  next_of y = n y (v.scan_of y).0

  -- what was found can't be used: there are no more
  pub filling_stop : {size : ℕ} {b : Bool} → size ≡ size_of (fragments_of ws) → IfUsable size f at x.stretch b → not b ≡ true → at < f.records
      → FilledIn a s d k gs ws f r f.records w₀ w
  filling_stop {size} {b} z u e l y g q =
      let m : scan.number < length (group_records s d k gs (fragments_of ws)) = omega (arith, (v.scan_of y).1, q.many) in
      let p = next_of y in
      absurd (not_usable b u e (stretch_usable x.stretch h.shaped h.ranges z g q p.stretch (p.from ∙ (v.scan_of y).1) (p.some m)))

  pub filling_turn : {size : ℕ} {last : List ℕ} {j : ℕ} → Usable size f at x.stretch → length last ≡ length w
      → LaysRest s ws f a r x.stretch w last → j ≡ at + x.stretch.count → Filling a s d k gs ws f r x.scan j w₀ last
  filling_turn {size} {last} {j} u m q e =
      rw e (record {
        few = omega (arith, u.few, u.next);
        same = m ∙ v.same;
        scan_of = λ y. let p = next_of y in (p.scan, omega (arith, p.to, (v.scan_of y).1));
        filled = filled_turn a r at w₀ w x.stretch h.shaped v.filled (λ y. (next_of y).stretch) u.next q;
      })

-- all are laid
pub filling_end : {a : ℕ} {s : List ℕ} {d k : ℕ} {gs ws : List ℕ} {f : Form} {r : ℕ} {scan : Scan} {at : ℕ} {w₀ w : List ℕ}
    → Filling a s d k gs ws f r scan at w₀ w → f.records ≤ at → r ≤ f.records → FilledIn a s d k gs ws f r f.records w₀ w
filling_end {a} {s} {d} {k} {gs} {ws} {f} {r} {scan} {at} {w₀} {w} v h l =
    let x : max r at ≡ f.records = omega (arith, v.few) in
    subst (λ (n : ℕ). FilledIn a s d k gs ws f r n w₀ w) x v.filled

-- those from number at on lie past the window
module _ {s : List ℕ} {d k : ℕ} {gs ws : List ℕ} {f : Form} (z : Formed s f most64) where
  pub filled-past : (a r at b : ℕ) (w₀ w : List ℕ) → b < f.records → a + length w ≤ start_at f b → b ≤ at → at ≤ f.records → FilledIn a s d k gs ws f r at w₀ w
      → FilledIn a s d k gs ws f r f.records w₀ w
  filled-past a r at b w₀ w h l o m v y g e base q =
      let per = split_some z.split in
      let x : reach_to f b ≤ reach_to f (b + (at - b)) = reach_more f b (at - b) per in
      let u : reach_to f at ≤ reach_to f (at + (f.records - at)) = reach_more f at (f.records - at) per in
      let i : b + (at - b) ≡ at = omega arith in
      let j : at + (f.records - at) ≡ f.records = omega arith in
      grown_past a _ (reach_to f at) (reach_to f f.records) w (rw j at u) (omega (arith, l, start_reached z b h, rw i at x)) base (v y g e base q)

  pub filling_past : {a r : ℕ} {scan : Scan} {at : ℕ} {w₀ w : List ℕ} → Filling a s d k gs ws f r scan at w₀ w → at < f.records → a + length w ≤ start_at f at → r ≤ f.records
      → FilledIn a s d k gs ws f r f.records w₀ w
  filling_past {a} {r} {scan} {at} {w₀} {w} v h l m = filled-past a r (max r at) at w₀ w h l (omega arith) (omega arith) v.filled

-- from the first record whose cell doesn't lie before the window on, all are
pub filled-all : {a : ℕ} {s : List ℕ} {d k : ℕ} {gs ws : List ℕ} {f : Form} {r : ℕ} {w last : List ℕ} → Formed s f most64 → FromOf f a r
    → FilledIn a s d k gs ws f r f.records w last → LaysAll a s d k gs ws f w last
filled-all {a} {s} {d} {k} {gs} {ws} {f} {r} {w} z o v y g e =
    let rs : List (List ℕ) = group_records s d k gs (fragments_of ws) in
    let t : take (reach_to f f.records) (region_of s f rs) ≡ region_of s f rs =
    take_all (reach_to f f.records) (region_of s f rs) (omega (arith, region_full z e)) in
    v y g e w (grown_before a (region_of s f rs) (reach_to f r) w o.before) ∙ ap (λ (x : List ℕ). over a 0 x w) t

-- ---- the record from which on they are laid
module _ {f : Form} (d : FormIn f) (a : ℕ) where
  some : 0 < f.per
  some = split_some d.split

  abbrev block : ℕ
  block = 24 + f.per * f.shape.width

  -- i records begin at most so many blocks
  begun_most : (i b : ℕ) → i ≤ b * f.per → begun f.per i ≤ b
  unfolding begun
  begun_most i b h = ⊎_elim
      (λ l. absurd (omega (arith, div-mul-le_self (i + (f.per - 1)) f.per, quotient-over b l, some))) (λ l. l) (lt_or_le b ((i + (f.per - 1)) / f.per))
    where
      quotient-over : (b : ℕ) → b < (i + (f.per - 1)) / f.per → (b + 1) * f.per ≤ (i + (f.per - 1)) / f.per * f.per
      quotient-over b l = mul-le-mul_right f.per (omega arith)

  -- so many blocks, each with as many records, reach so far
  reach_most : (i b q : ℕ) → i ≤ b * f.per + q → q ≡ 0 → reach_to f i ≤ b * block
  unfolding filled_to
  reach_most i b q h z =
      let n = begun_most i b (omega arith) in
      let m : i * f.shape.width ≤ b * f.per * f.shape.width = mul-le-mul_right f.shape.width (omega arith) in
      omega (arith, n, m, products b)
    where
      products : (b : ℕ) → b * block ≡ 24 * b + b * f.per * f.shape.width
      products b = mul-add b 24 (f.per * f.shape.width) ∙ rw (mul_comm b 24, mul_assoc) refl

  few-blocks : f.records ≤ f.blocks * f.per
  few-blocks = let x = d.split in omega (arith, x.enough, ap (λ (k : ℕ). k * f.per) x.blocks, suc-mul x.full f.per)

  pub from_all : (b inside : ℕ) → a ≡ b * block + inside → f.blocks ≤ b → FromOf f a f.records
  from_all b inside e h =
      let m : f.blocks * block ≤ b * block = mul-le-mul_right block h in
      record { few = omega arith; before = omega (arith, e, m, reach_most f.records f.blocks 0 (omega (arith, few-blocks)) refl) }

  -- the first record of block b
  pub first-few : (b : ℕ) → b < f.blocks → b * f.per < f.records
  first-few b h =
      let x = d.split in
      let m : b * f.per ≤ x.full * f.per = mul-le-mul_right f.per (omega (arith, x.blocks)) in
      omega (arith, x.left)

  pub from_start : (b inside : ℕ) → a ≡ b * block + inside → b < f.blocks → FromOf f a (b * f.per)
  from_start b inside e h = record { few = omega (arith, first-few b h); before = omega (arith, e, reach_most (b * f.per) b 0 (omega arith) refl) }

  -- the record q past it, or the last one
  pub from_inside : (b inside q i : ℕ) → a ≡ b * block + inside → inside < block → 24 ≤ inside → q ≡ (inside - 24) / f.shape.width
      → i ≡ min (b * f.per + q) f.records → FromOf f a i
  unfolding filled_to
  from_inside b inside q i e l g z m =
      let qw : q * f.shape.width ≤ inside - 24 = rw z (div-mul-le_self (inside - 24) f.shape.width) in
      let qp : q < f.per = rw z ((div-lt_iff_lt-mul {k = f.shape.width} {x = inside - 24} {y = f.per} d.wide).1 (omega arith)) in
      let n = begun_most i (b + 1) (omega (arith, suc-mul b f.per, m, qp, ap (λ (k : ℕ). k * f.per) (add-one b))) in
      let iw : i * f.shape.width ≤ (b * f.per + q) * f.shape.width = mul-le-mul_right f.shape.width (omega (arith, m)) in
      let sp : (b * f.per + q) * f.shape.width ≡ b * f.per * f.shape.width + q * f.shape.width = add-mul (b * f.per) q f.shape.width in
      record { few = omega (arith, m); before = omega (arith, e, n, iw, sp, qw, product b) }
    where
      product : (b : ℕ) → b * block ≡ 24 * b + b * f.per * f.shape.width
      product b = mul-add b 24 (f.per * f.shape.width) ∙ rw (mul_comm b 24, mul_assoc) refl

  -- a block's bytes can be counted
  pub block-small : block ≤ most64
  block-small =
      let x = d.split in
      let m : f.per * f.shape.width ≤ f.records * f.shape.width = mul-le-mul_right f.shape.width per_few in
      omega (arith, d.ends, m, x.blocks)
    where
      one_more : (k : ℕ) → 0 < k → f.per ≤ k * f.per
      one_more k z = omega (arith, mul-le-mul_right {m = 1} {n = k} f.per z, one-mul f.per)

      per_few : f.per ≤ f.records
      per_few = ⊎_elim (λ l. omega (arith, d.split.left, one_more d.split.full l)) (λ l. omega (arith, d.split.single (omega arith))) (lt_or_le 0 d.split.full)

  -- the sum of both is no more than a
  pub from-sum : (b inside q : ℕ) → a ≡ b * block + inside → q ≤ inside → b * f.per + q ≤ a
  from-sum b inside q e h =
      let m : f.per * 1 ≤ f.per * f.shape.width = mul-le-mul_left f.per d.wide in
      let n : b * f.per ≤ b * block = mul-le-mul_left b (omega (arith, m, mul-one f.per)) in
      omega (arith, e, n)
