-- A planned column: its payloads joined are those due, its data blocks follow each other up to the column's end, its DL lists them.
use Prim.Native.Nat.{ℕ, ◌+◌, ◌*◌, ◌<◌}
use Rattle.std.specs.Prelude.{Bool, ◌≡◌, ltb}
use Rattle.std.proofs.Math.Bool.{true, false}
use mathlib.Core.List.{List, []}
use Rattle.std.proofs.Math.Path.{refl, ap, subst}
use Rattle.std.proofs.Common.{sym, ◌∙◌, zero-mul, suc-mul, mul-zero, arith, take_all, ltb-true, ltb-false}
use Rattle.std.proofs.Math.ListN.{length}
use Rattle.base.specs.Choice.{pick}
use Rattle.base.specs.Checked.{ok, fine}
use Rattle.mdf.specs.Group.{DataGroup, is_storage}
use Rattle.mdf.specs.Count.{counts}
use Rattle.plan.specs.Channel.{fits, width, both}
use Rattle.plan.specs.Columns.{src_groups, Column}
use Rattle.plan.specs.Geometry.{align8, per_full, block_payload}
use Rattle.plan.specs.Data.{is_nonempty, all_data_in}
use Rattle.plan.specs.Layout.{column_width, column_blocks, payload_size, column_sizes, blocks_end}
use Rattle.result.specs.Payload.{records_of, cells, payloads, column_payloads}
use Rattle.result.specs.Fill.{column_payload, payload_blocks}
use Rattle.result.specs.Ordered.{Ordered}
use Rattle.result.specs.Due.{due_payload}
use Rattle.result.specs.Guarantee.{In}
use Rattle.payload_laws.specs.Lists.{together}
use Rattle.payload_laws.specs.CountLaws.{Read, column_read}
use Rattle.payload_laws.specs.CellLaws.{both_true, length-cells}
use Rattle.payload_laws.specs.GeometryLaws.{Split, split, no_blocks_lem, align_up}
use Rattle.payload_laws.specs.PayloadLaws.{length-payloads, payloads-joined, Even, payloads_even, payloads-ordered}

-- what is needed of a planned column: its channel fits its group, which is no VLSD storage; if it has blocks, its records were read
pub record Ready (s : List ℕ) (c : Column) : Type 0 where
  pub fit : fits s c.group.at c.channel ≡ true
  pub kept : is_storage s c.group.at ≡ false
  pub read : is_nonempty s c ≡ true → Read s c.group.at c.group.records c.group.data_group.fragments (records_of s c.group)

pub ready : (s : List ℕ) (ds : List DataGroup) (cs : List Column) {ns : List ℕ} → counts s ds ≡ ok ns → all_data_in s cs ds ≡ fine
    → (c : Column) → In c cs → In c.group (src_groups ds ns) → fits s c.group.at c.channel ≡ true
    → is_storage s c.group.at ≡ false → Ready s c
ready s ds cs e w c i j f k = record { fit = f; kept = k; read = λ q. column_read s ds cs e w c i j q }

-- ---- with and without blocks

pub nonempty_some : (s : List ℕ) (c : Column) → is_nonempty s c ≡ true → (0 < column_width s c) × (0 < c.group.records)
unfolding is_nonempty column_width
nonempty_some s c e =
    let b = both_true (ltb 0 (width s c.group.at c.channel)) (ltb 0 c.group.records) e in
    (ltb-true _ _ b.0, ltb-true _ _ b.1)

pub empty_none : (s : List ℕ) (c : Column) → is_nonempty s c ≡ false → payload_size s c ≡ 0
unfolding is_nonempty payload_size column_width
empty_none s c e = go (ltb 0 (width s c.group.at c.channel)) refl e
  where
    go : (t : Bool) → ltb 0 (width s c.group.at c.channel) ≡ t → both t (ltb 0 c.group.records) ≡ false
        → width s c.group.at c.channel * c.group.records ≡ 0
    go true q f =
        let z : c.group.records ≡ 0 = omega (arith, ltb-false 0 c.group.records f) in
        rw z (mul-zero (width s c.group.at c.channel))
    go false q f =
        let z : width s c.group.at c.channel ≡ 0 = omega (arith, ltb-false 0 (width s c.group.at c.channel) q) in
        rw z (zero-mul c.group.records)

pub empty_blocks : (s : List ℕ) (size : ℕ) (c : Column) → is_nonempty s c ≡ false → column_blocks s size c ≡ 0
unfolding column_blocks payload_size
empty_blocks s size c e = no_blocks_lem size (column_width s c) c.group.records (empty_none s c e)

pub nonempty_split : (s : List ℕ) (size : ℕ) (c : Column) → is_nonempty s c ≡ true
    → Split (per_full size (column_width s c) c.group.records) (column_blocks s size c) c.group.records
unfolding column_blocks
nonempty_split s size c e = let b = nonempty_some s c e in split size _ _ b.0 b.1

-- as many payloads as blocks
pub column_count : (s : List ℕ) (size : ℕ) (c : Column) → length (column_payloads s size c) ≡ column_blocks s size c
unfolding column_payloads
column_count s size c = length-payloads s _ _ _ _ _

pub empty_payloads : (s : List ℕ) (size : ℕ) (c : Column) → is_nonempty s c ≡ false → column_payloads s size c ≡ []
unfolding column_payloads payloads
empty_payloads s size c e = rw (empty_blocks s size c e)

-- ---- payloads

module _ (s : List ℕ) (size : ℕ) (c : Column) (w : Ready s c) where
  some-joined : is_nonempty s c ≡ true → together (column_payloads s size c) ≡ cells s c.group.at c.channel (records_of s c.group)
  unfolding column_payloads
  some-joined e =
      let x = nonempty_split s size c e in
      let m : ℕ = per_full size (column_width s c) c.group.records in
      let k : column_blocks s size c * m ≡ x.full * m + m = rw x.blocks (suc-mul x.full m) in
      payloads-joined s c.group.at c.channel m (column_blocks s size c) (records_of s c.group)
      ∙ ap (cells s c.group.at c.channel)
      (take_all (column_blocks s size c * m) (records_of s c.group) (omega (arith, (w.read e).many, x.enough)))

  some_bytes : is_nonempty s c ≡ true → length (cells s c.group.at c.channel (records_of s c.group)) ≡ payload_size s c
  unfolding payload_size column_width
  some_bytes e =
      length-cells s c.group.at c.channel w.fit ((w.read e).long w.kept) ∙ rw (w.read e).many

  -- joined, they are the cells of the group's records
  pub column-joined : together (column_payloads s size c) ≡ due_payload s c
  unfolding due_payload together
  column-joined = go (is_nonempty s c) refl
    where
      go : (t : Bool) → is_nonempty s c ≡ t
          → together (column_payloads s size c) ≡ pick (is_nonempty s c) (cells s c.group.at c.channel (records_of s c.group)) []
      go true q = some-joined q ∙ rw q
      go false q = rw (q, empty_payloads s size c q)

  -- with all bytes of the records' cells
  pub column-bytes : length (together (column_payloads s size c)) ≡ payload_size s c
  unfolding together
  column-bytes = go (is_nonempty s c) refl
    where
      go : (t : Bool) → is_nonempty s c ≡ t → length (together (column_payloads s size c)) ≡ payload_size s c
      go true q = ap length (some-joined q) ∙ some_bytes q
      go false q = rw (empty_payloads s size c q) (sym (empty_none s c q))

  some_even : is_nonempty s c ≡ true → Even (column_payload s size c) (column_payloads s size c)
  unfolding column_payload block_payload column_payloads column_width
  some_even e =
      let x = nonempty_split s size c e in
      let r = w.read e in
      let m : ℕ = per_full size (column_width s c) c.group.records in
      let h : x.full * m < length (records_of s c.group) = omega (arith, r.many, x.left) in
      subst (λ (k : ℕ). Even (m * column_width s c) (payloads s c.group.at c.channel m k (records_of s c.group))) (sym x.blocks)
      (payloads_even s c.group.at c.channel m x.full (records_of s c.group) w.fit (r.long w.kept) h)

  -- each but the last is full
  pub column_even : Even (column_payload s size c) (column_payloads s size c)
  column_even = go (is_nonempty s c) refl
    where
      go : (t : Bool) → is_nonempty s c ≡ t → Even (column_payload s size c) (column_payloads s size c)
      go true q = some_even q
      go false q = rw (empty_payloads s size c q) Even.none

  -- ---- data blocks

  -- from a on they follow each other, up to the column's end
  pub column-ordered : (kind a : ℕ) → Ordered a (payload_blocks kind a (column_payloads s size c)) (blocks_end (column_sizes s size c) a)
  unfolding blocks_end
  column-ordered kind a =
      let up = align_up (a + (24 * column_blocks s size c + payload_size s c)) in
      payloads-ordered kind a (align8 (a + (24 * column_blocks s size c + payload_size s c))) (column_payloads s size c)
      (rw (column_count, column-bytes) up)
