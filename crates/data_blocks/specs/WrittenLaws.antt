-- Laws of a column's blocks, from its group's records.
use Rattle.std.specs.Prelude.{ℕ, zero, suc, ◌+◌, ◌*◌, ◌≤◌, ◌<◌, Bool, true, false, not, ◌≡◌, refl, length, get_or}
use mathlib.Core.List.{List, [], ◌∷◌}
use Rattle.std.proofs.Math.Path.{sym, ap}
use Rattle.std.proofs.Common.{◌∙◌, subst, zero-mul, mul-zero, arith}
use Rattle.std.proofs.Math.ListN.{take}
use Rattle.std.proofs.Math.Seq.{take-length}
use Rattle.base.specs.Blit.{blit}
use Rattle.base.specs.Checked.{ok, fine}
use Rattle.mdf.specs.Chain.{Fragment}
use Rattle.mdf.specs.Group.{is_storage}
use Rattle.mdf.specs.Records.{ranges_in, unsorted_frames}
use Rattle.work_words.specs.Words.{fragments_of}
use Rattle.plan.specs.Channel.{fits, keeps_inval, width}
use Rattle.plan.specs.Geometry.{block_count, per_full}
use Rattle.plan.specs.Data.{records_in}
use Rattle.result.specs.Payload.{group_records, payloads}
use Rattle.result.specs.Fill.{data_kind}
use Rattle.payload_laws.specs.Answers.{false≢true, then_ok}
use Rattle.payload_laws.specs.Lists.{Long}
use Rattle.payload_laws.specs.GeometryLaws.{Split, split, no_blocks_lem}
use Rattle.payload_laws.specs.CellLaws.{width-within}
use Rattle.payload_laws.specs.SortedLaws.{sorted_long, sorted_ranges}
use Rattle.payload_laws.specs.FramedLaws.{unsorted_several, framed_long}
use Rattle.places.specs.Stretch.{body_bytes, number_in, Ready}
use Rattle.places.specs.Pool.{Pooled, KeepsRight}
use Rattle.offsets.specs.declared.kept.Offsets.{Offsets}
use Rattle.offsets.specs.Offsets.{OffsetsFor, KeepsOffsets}
use Rattle.cells.specs.Spot.{Readable}
use Rattle.data_blocks.specs.declared.column.Column.{Column}
use Rattle.data_blocks.specs.declared.piece.Form.{Form}
use Rattle.std.specs.Prelude.{Option, Some, None}
use Rattle.data_blocks.specs.Region.{region_of, reach_to, Formed, Due}
use Rattle.data_blocks.specs.RegionLaws.{filled_none, region_size, region_full}
use Rattle.data_blocks.specs.Filled.{TotalOf, Filled, PoolFilled}
use Rattle.data_blocks.specs.NumberLaws.{number-at}
use Rattle.data_blocks.specs.Listed.{ListFilled}
use Rattle.data_blocks.specs.Blocks.{framed_all, column_records, wide_of, per_of, count_of, kind_of, blocks_for, BlocksReady, PlacesKept, WritesBlocks}
use Rattle.data_blocks.specs.Written.{FormOf, Room, IfRoom, PutRecords, Prepares}

pub formed-same : {s : List ℕ} {f : Form} {a b : ℕ} → Formed s f a → b ≡ a → Formed s f b
formed-same y e = rw e y

-- ---- room
pub room_no : {room : ℕ} {f : Form} → (Room room f → ⊥) → IfRoom room f false
room_no n = record { yes = λ e. absurd (false≢true e); no = λ e. n }

pub room_yes : {room : ℕ} {f : Form} → Room room f → IfRoom room f true
room_yes r = record { yes = λ e. r; no = λ e. absurd (false≢true (sym e)) }

-- ---- checked data of groups
-- each record of a group that is no VLSD storage has samples and invalidation bytes
group-long : (s : List ℕ) (d k : ℕ) (gs : List ℕ) (fs : List Fragment) → k < length gs → is_storage s (get_or gs k 0) ≡ false
    → records_in s d gs fs ≡ fine → Long (body_bytes s (get_or gs k 0)) (group_records s d k gs fs)
group-long s d k [] fs h q e = absurd (omega arith)
group-long s d zero (g ∷ []) fs h q e = sorted_long s d g fs e
group-long s d (suc k) (g ∷ []) fs h q e = absurd (omega arith)
group-long s d k (g ∷ f ∷ gs) fs h q e =
    let a = then_ok (unsorted_frames s d (g ∷ f ∷ gs) fs) (λ rs. fine) e in
    let z : unsorted_frames s d (g ∷ f ∷ gs) fs ≡ ok a.0 = a.1 in
    rw z (framed_long k (unsorted_several s d (g ∷ f ∷ gs) fs a.1) q)

group_ranges : (s : List ℕ) (d : ℕ) (gs : List ℕ) (fs : List Fragment) → 0 < length gs → records_in s d gs fs ≡ fine → ranges_in s fs ≡ fine
group_ranges s d [] fs h e = absurd (omega arith)
group_ranges s d (g ∷ []) fs h e = sorted_ranges s d g fs e
group_ranges s d (g ∷ f ∷ gs) fs h e =
    let a = then_ok (unsorted_frames s d (g ∷ f ∷ gs) fs) (λ rs. fine) e in
    (unsorted_several s d (g ∷ f ∷ gs) fs a.1).ranges

-- ---- a column whose blocks are formed
blocks-some : (size w n : ℕ) → (block_count size w n ≡ 0 → ⊥) → (0 < w) × (0 < n)
blocks-some size zero n h = absurd (h (no_blocks_lem size 0 n (zero-mul n)))
blocks-some size (suc w) zero h = absurd (h (no_blocks_lem size (suc w) 0 (mul-zero (suc w))))
blocks-some size (suc w) (suc n) h = (omega arith, omega arith)

module _ {s : List ℕ} {size : ℕ} {c : Column} {f : Form} (o : FormOf s size c f) where
  form_wide : f.shape.width ≡ wide_of s c
  form_wide =
      o.shape_of.shaped.wide ∙ ap (λ (g : ℕ). width s g f.shape.channel) o.shape_of.group ∙ ap (width s c.group) o.shape_of.channel

  form_kind : f.kind ≡ kind_of s c
  form_kind =
      o.kind_is ∙ ap data_kind o.shape_of.shaped.keep ∙ ap (λ (g : ℕ). data_kind (keeps_inval s g f.shape.channel)) o.shape_of.group
      ∙ ap (λ (x : ℕ). data_kind (keeps_inval s c.group x)) o.shape_of.channel

  form_blocks : f.blocks ≡ count_of s size c
  form_blocks = o.blocks_are ∙ ap (λ (w : ℕ). block_count size w c.records) form_wide

  form_per : f.per ≡ per_of s size c
  form_per = o.per_is ∙ ap (λ (w : ℕ). per_full size w c.records) form_wide

  -- its blocks
  pub form_region : (rs : List (List ℕ)) → region_of s f rs ≡ blocks_for s size c rs
  unfolding region_of blocks_for
  form_region rs = rw (form_kind, form_per, form_blocks, o.shape_of.group, o.shape_of.channel)

  -- without blocks
  pub form_none : (rs : List (List ℕ)) → f.blocks ≡ 0 → blocks_for s size c rs ≡ []
  unfolding blocks_for payloads framed_all
  form_none rs z = let n : count_of s size c ≡ 0 = sym form_blocks ∙ z in rw n

  pub form_empty : (gs ws p q out : List ℕ) → f.blocks ≡ 0 → WritesBlocks s size gs ws c p p q q out out
  unfolding blit
  form_empty gs ws p q out z gs_of ws_of a b h d = (h, rw (form_none (column_records s gs ws c) z))

  module _ (z : f.blocks ≡ 0 → ⊥) where
    form_some : (0 < f.shape.width) × (0 < c.records)
    form_some = blocks-some size f.shape.width c.records (λ e. z (o.blocks_are ∙ e))

    form_split : Split f.per f.blocks f.records
    form_split = rw (o.per_is, o.blocks_are, o.records_are) (split size f.shape.width c.records form_some.0 form_some.1)

    pub form_formed : {room : ℕ} → Room room f → Formed s f room
    form_formed r = record { shaped = o.shape_of.shaped; split = form_split; wide = r.wide; ends = r.ends }

    pub form_readable : (ws : List ℕ) {t : Option ℕ} {n : ℕ} → TotalOf s ws t → t ≡ Some n → Readable s ws f.shape
    form_readable ws {n = n} t e =
        let x = t.yes n e in
        let w = o.shape_of.shaped in
        let y = width-within s f.shape.group f.shape.channel w.fitting in
        record {
          shaped = w;
          ranges = x.0;
          small = omega (arith, x.1, x.2);
          some = omega (arith, form_some.0, w.wide, w.long);
        }

    -- ---- that is ready
    module _ {gs ws : List ℕ} {room : ℕ} (b : BlocksReady s size gs ws c room) where
      wide_some : 0 < wide_of s c
      wide_some = omega (arith, form_some.0, form_wide)

      group_is : get_or gs (number_in c.group gs) 0 ≡ c.group
      group_is = number-at c.group gs b.listed

      pub ready_group : get_or gs (number_in c.group gs) 0 ≡ f.shape.group
      ready_group = group_is ∙ sym o.shape_of.group

      ready_body : body_bytes s (get_or gs (number_in c.group gs) 0) ≡ f.shape.length
      ready_body = rw ready_group (sym o.shape_of.shaped.long)

      plain_is : is_storage s (get_or gs (number_in c.group gs) 0) ≡ false
      plain_is = rw group_is b.kept

      pub ready_ready : Ready s c.parent (number_in c.group gs) gs ws
      ready_ready =
          let w = o.shape_of.shaped in
          let y = width-within s f.shape.group f.shape.channel w.fitting in
          record {
            listed = b.listed;
            plain = plain_is;
            checked = b.checked wide_some form_some.1;
            small = b.small wide_some form_some.1;
            some = rw ready_body (omega (arith, form_some.0, w.wide, w.long));
          }

      pub ready_due : Due f (column_records s gs ws c)
      ready_due =
          record {
            many = b.counted wide_some form_some.1 ∙ sym o.records_are;
            long = rw ready_body at (group-long s c.parent (number_in c.group gs) gs (fragments_of ws) b.listed plain_is
                (b.checked wide_some form_some.1));
          }

      pub ready_room : Room room f
      ready_room =
          let y : Formed s f (24 * f.blocks + f.records * f.shape.width) =
          form_formed (record { wide = form_some.0; ends = omega arith }) in
          let l = region_size y ready_due in
          let r = form_region (column_records s gs ws c) in
          let n : length (region_of s f (column_records s gs ws c)) ≤ room = rw r b.ends in
          record { wide = form_some.0; ends = omega arith }

      pub ready_total : {t : Option ℕ} → TotalOf s ws t → t ≡ None → ⊥
      ready_total t e =
          let h = b.listed in
          t.no e (group_ranges s c.parent gs (fragments_of ws) (omega arith) (b.checked wide_some form_some.1))
          (b.small wide_some form_some.1)

    -- all its records came to stand: so did its blocks
    pub form_written : {room : ℕ} (gs ws p : List ℕ) {last-p : List ℕ} (q : List ℕ) {last-q : List ℕ} (out : List ℕ) {last : List ℕ} → Formed s f room
        → PutRecords s gs ws c f p last-p q last-q out last → WritesBlocks s size gs ws c p last-p q last-q out last
    unfolding blit
    form_written gs ws p q out y x gs_of ws_of a b h d =
        let rs : List (List ℕ) = column_records s gs ws c in
        let u = x gs_of ws_of a b h (ready_ready d) (ready_group d) (ready_due d) in
        let n : reach_to f 0 ≡ 0 = filled_none f.per f.shape.width in
        let m : take (reach_to f f.records) (region_of s f rs) ≡ region_of s f rs =
        ap (λ (k : ℕ). take k (region_of s f rs)) (region_full y (ready_due d)) ∙ take-length (region_of s f rs) in
        let e : out ≡ blit 0 (take (reach_to f 0) (region_of s f rs)) out = rw n in
        (u.0, u.1 out e ∙ rw (m, form_region rs))

-- ---- the group's records, found in more than one way
module _ (s gs ws : List ℕ) (c : Column) (f : Form) (p p' : List ℕ) (k : KeepsRight s c.parent gs ws p p') (n : ℕ) (out mid : List ℕ)
    (l : PoolFilled s c.parent c.group ws f p' n out mid) where
  pool_part : (gs_of ws_of : ℕ → List ℕ) → gs_of c.parent ≡ gs → ws_of c.parent ≡ ws → Pooled s gs_of ws_of p
      → Ready s c.parent (number_in c.group gs) gs ws
      → Pooled s gs_of ws_of p' × Filled s c.parent (number_in c.group gs) gs ws f 0 n out mid
  pool_part gs_of ws_of a b h r = let x = k gs_of ws_of a b r.checked h in (x, rw a at (l gs_of ws_of b x))

  -- all by kept stretches
  pub among_all : (q : List ℕ) → n ≡ f.records → PutRecords s gs ws c f p p' q q out mid
  among_all q e gs_of ws_of a b h r g d =
      let x = pool_part gs_of ws_of a b h.stretches r in
      let v : Filled s c.parent (number_in c.group gs) gs ws f 0 f.records out mid =
      subst (λ (j : ℕ). Filled s c.parent (number_in c.group gs) gs ws f 0 j out mid) e x.1 in
      (record { stretches = x.0; offsets = h.offsets }, v r g d)

  -- others by kept offsets
  module _ (q q' : List ℕ) {o : Offsets} (u : Prepares s c.parent c.group gs ws q q' o) (m : ℕ) (past : List ℕ)
      (t : ListFilled s ws f q' o.first o.count n m mid past) where
    offsets_part : (gs_of ws_of : ℕ → List ℕ) → gs_of c.parent ≡ gs → ws_of c.parent ≡ ws → PlacesKept s gs_of ws_of p q
        → Ready s c.parent (number_in c.group gs) gs ws
        → PlacesKept s gs_of ws_of p' q' × Filled s c.parent (number_in c.group gs) gs ws f 0 m out past
    offsets_part gs_of ws_of a b h r =
        let x = pool_part gs_of ws_of a b h.stretches r in
        let y = u.keeps gs_of ws_of a b r.checked h.offsets in
        let z : Filled s c.parent (number_in c.group gs) gs ws f n m mid past =
        t c.parent (number_in c.group gs) gs (rw (a, b) at (u.told.right s gs_of ws_of y)) in
        (record { stretches = x.0; offsets = y }, λ i g d base w. z i g d base (x.1 i g d base w))

    pub among_listed : m ≡ f.records → PutRecords s gs ws c f p p' q q' out past
    among_listed e gs_of ws_of a b h r g d =
        let x = offsets_part gs_of ws_of a b h r in
        let v : Filled s c.parent (number_in c.group gs) gs ws f 0 f.records out past =
        subst (λ (j : ℕ). Filled s c.parent (number_in c.group gs) gs ws f 0 j out past) e x.1 in
        (x.0, v r g d)

    -- the last by framing
    pub among_rest : {last : List ℕ} {j : ℕ} → j ≡ number_in c.group gs → Filled s c.parent j gs ws f m f.records past last
        → PutRecords s gs ws c f p p' q q' out last
    among_rest {last} {j} e v gs_of ws_of a b h r g d =
        let x = offsets_part gs_of ws_of a b h r in
        let w : Filled s c.parent (number_in c.group gs) gs ws f m f.records past last =
        subst (λ (i : ℕ). Filled s c.parent i gs ws f m f.records past last) e v in
        (x.0, λ base z. w r g d base (x.1 r g d base z))

-- where they stood before, and where they stand now
pub prepares_known : {s : List ℕ} {d g : ℕ} {gs ws q : List ℕ} {o : Offsets} → OffsetsFor q d g o → Prepares s d g gs ws q q o
prepares_known t = record { keeps = λ gs_of ws_of a b e h. h; told = t }

pub prepares_new : {s : List ℕ} {d g : ℕ} {gs ws q q' : List ℕ} {o : Offsets} → KeepsOffsets s d gs ws q q' → OffsetsFor q' d g o → Prepares s d g gs ws q q' o
prepares_new k t = record { keeps = k; told = t }

pub single : (gs : List ℕ) → length gs ≡ 1 → get_or gs 0 0 ∷ [] ≡ gs
single [] l = absurd (omega arith)
single (g ∷ []) l = refl
single (g ∷ h ∷ gs) l = absurd (omega arith)

-- the only group
pub alone-all : (s gs ws : List ℕ) (c : Column) (f : Form) (p q out : List ℕ) {last : List ℕ} → length gs ≡ 1
    → Filled s c.parent 0 (get_or gs 0 0 ∷ []) ws f 0 f.records out last → PutRecords s gs ws c f p p q q out last
alone-all s gs ws c f p q out {last} l v gs_of ws_of a b h r g d =
    let z : 0 ≡ number_in c.group gs = omega (arith, r.listed) in
    let w : Filled s c.parent 0 gs ws f 0 f.records out last =
    subst (λ (x : List ℕ). Filled s c.parent 0 x ws f 0 f.records out last) (single gs l) v in
    let y : Filled s c.parent (number_in c.group gs) gs ws f 0 f.records out last =
    subst (λ (i : ℕ). Filled s c.parent i gs ws f 0 f.records out last) z w in
    (h, y r g d)

-- ---- tests that a column that is ready passes
pub not-true : (b : Bool) → not b ≡ true → b ≡ false
not-true true e = absurd (false≢true e)
not-true false e = refl

pub not-false : (b : Bool) → not b ≡ false → b ≡ true
not-false true e = refl
not-false false e = absurd (false≢true (sym e))

pub is_fit : {t : Bool} (b : Bool) → b ≡ t → not b ≡ false → t ≡ true
is_fit b e h = sym e ∙ not-false b h

pub written-unfit : (s : List ℕ) (size : ℕ) (gs ws : List ℕ) (c : Column) (p q out : List ℕ) (b : Bool) → b ≡ fits s c.group c.channel
    → not b ≡ true → WritesBlocks s size gs ws c p p q q out out
written-unfit s size gs ws c p q out b e n gs_of ws_of x y h d = absurd (false≢true (sym (not-true b n) ∙ e ∙ d.fit))

module _ {s : List ℕ} {size : ℕ} {c : Column} {f : Form} (o : FormOf s size c f) (z : f.blocks ≡ 0 → ⊥) (gs ws p q out : List ℕ) where
  pub written_full : (b : Bool) → IfRoom (length out) f b → not b ≡ true → WritesBlocks s size gs ws c p p q q out out
  written_full b r n gs_of ws_of x y h d = absurd (r.no (not-true b n) (ready_room o z d))

  pub written_outside : {t : Option ℕ} → TotalOf s ws t → t ≡ None → WritesBlocks s size gs ws c p p q q out out
  written_outside r n gs_of ws_of x y h d = absurd (ready_total o z d r n)
