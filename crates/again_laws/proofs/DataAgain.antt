-- The data of a result's columns, read again: it passes the checks of the data stage, and gives each column the payload that it had.
use Prim.Native.Nat.{ℕ, zero, suc, ◌+◌, ◌-◌, ◌/◌, ◌%◌}
use mathlib.Core.List.{List, [], ◌∷◌, append-nil}
use Rattle.std.specs.Prelude.{Bool, ◌≡◌, length}
use Rattle.std.proofs.Math.Bool.{true, false}
use Rattle.std.proofs.Math.Path.{refl, sym, ap}
use Rattle.std.proofs.Common.{◌∙◌, arith}
use Rattle.std.proofs.Math.Nat.{mul-div_cancel, mul-mod_left}
use Rattle.base.specs.Choice.{pick, if_eq}
use Rattle.base.specs.ChoiceLaws.{eq_yes, eq_no}
use Rattle.base.specs.Checked.{fine, refused}
use Rattle.mdf.specs.Chain.{Kind, dt, dv, Fragment}
use Rattle.mdf.specs.Group.{addresses, samples, inval_bytes}
use Rattle.mdf.specs.Records.{any_dv, record_size, id_bytes, in_front, runs, size_of, run_whole, runs_whole, pieces, without_ids, run_records, sorted_records, sorted_in}
use Rattle.plan.specs.Channel.{keeps_inval}
use Rattle.plan.specs.Columns.{SrcGroup, with_counts, src_groups, Column}
use Rattle.plan.specs.Data.{is_nonempty}
use Rattle.plan.specs.Layout.{Placed, cg_of, cn_of, column_width}
use Rattle.plan.specs.Rules.{Rules}
use Rattle.result.specs.Payload.{records_of, cells}
use Rattle.result.specs.Due.{due_payload, due_kind, even_blocks, blocks_due, equal_due, fragments_due, kept_byte}
use Rattle.payload_laws.specs.ColumnLaws.{nonempty_some, nonempty_split}
use Rattle.file_guarantee.specs.ColumnForm.{file_column, same_blocks}
use Rattle.file_guarantee.specs.Columns.{file_columns}
use Rattle.again_laws.proofs.WalkAgain.{data_group_of, column_groups}
use Rattle.again_laws.specs.Held.{Fields, Held}
use Rattle.again_laws.proofs.HeldLaws.{fields}
use Rattle.again_laws.specs.ChannelAgain.{bytes-again, keeps_again, width-again}
use Rattle.again_laws.proofs.CountAgain.{records_placed, record_bytes_lem, all-bytes}
use Rattle.again_laws.specs.CellsAgain.{cell_rows, pieces-cells, ReadsCells, rows_again}

-- ---- the groups of the second call: each column's CG, with as many records

-- that of column p
unfoldable pub group_again : List ℕ → ℕ → Placed → SrcGroup
group_again s size p =
    record { data_group = data_group_of (file_column s size p); number = 0; at = cg_of p; channels = cn_of p ∷ []; records = p.column.group.records }

unfoldable pub groups_again : List ℕ → ℕ → List Placed → List SrcGroup
groups_again s size [] = []
groups_again s size (p ∷ ps) = group_again s size p ∷ groups_again s size ps

pub source-again : (s : List ℕ) (size : ℕ) (ps : List Placed) → src_groups (column_groups (file_columns s size ps)) (records_placed ps) ≡ groups_again s size ps
unfolding src_groups with_counts column_groups file_columns file_column records_placed groups_again group_again
source-again s size [] = refl
source-again s size (p ∷ ps) = ap (λ (gs : List SrcGroup). group_again s size p ∷ gs) (source-again s size ps)

-- ---- blocks of one kind are one run
runs_even : (k : Kind) (q n all a : ℕ) → runs (even_blocks k q (suc n) all a) ≡ record { kind = k; fragments = even_blocks k q (suc n) all a } ∷ []
unfolding runs in_front even_blocks
runs_even k q zero all a = refl
runs_even dt q (suc n) all a = rw (runs_even dt q n (all - q) (a + (24 + q)))
runs_even dv q (suc n) all a = rw (runs_even dv q n (all - q) (a + (24 + q)))

dt_no_dv : (q n all a : ℕ) → any_dv (even_blocks dt q n all a) ≡ false
unfolding any_dv even_blocks
dt_no_dv q zero all a = refl
dt_no_dv q (suc zero) all a = refl
dt_no_dv q (suc (suc n)) all a = dt_no_dv q (suc n) (all - q) (a + (24 + q))

without-none : (rs : List (List ℕ)) → without_ids 0 rs ≡ rs
unfolding without_ids
without-none [] = refl
without-none (r ∷ rs) = rw (without-none rs)

-- ---- a column with blocks
module _ (f : List ℕ) (o : Rules) (s : List ℕ) (size : ℕ) (all : List Placed) (p : Placed) (h : Held f o s size all p) where
  abbrev n : ℕ
  n = p.column.group.records

  abbrev w : ℕ
  w = column_width s p.column

  abbrev fs : List Fragment
  fs = fragments_due s size p

  abbrev kept : Bool
  kept = keeps_inval s p.column.group.at p.column.channel

  has : Fields f o s all p
  has = fields f o s size all p h.shown

  -- whichever kind its blocks are, a record has w bytes and no id
  size_is : record_size f p.dg (cg_of p) (due_kind kept) ≡ w
  unfolding kept_byte
  size_is = go kept refl
    where
      go : (t : Bool) → kept ≡ t → record_size f p.dg (cg_of p) (due_kind t) ≡ w
      go true q = rw has.ids (omega (arith, record_bytes_lem f o s size all p h))
      go false q =
          let z : inval_bytes f (cg_of p) ≡ 0 = has.inval ∙ rw q in
          omega (arith, record_bytes_lem f o s size all p h)

  ids_none : id_bytes f p.dg (due_kind kept) ≡ 0
  ids_none = go kept
    where
      go : (t : Bool) → id_bytes f p.dg (due_kind t) ≡ 0
      go true = has.ids
      go false = refl

  module _ (some : is_nonempty s p.column ≡ true) where
    one-run : runs fs ≡ record { kind = due_kind kept; fragments = fs } ∷ []
    unfolding fragments_due
    one-run =
        let x = nonempty_split s size p.column some in
        let e : blocks_due s size p.column ≡ suc x.full = sym (same_blocks s size p.column) ∙ x.blocks in
        rw e (runs_even (due_kind kept) (equal_due s size p.column) x.full (length (due_payload s p.column)) p.first)

    -- the payload, cut into records
    records_again : sorted_records f p.dg (cg_of p) (runs fs) ≡ pieces n w (due_payload s p.column)
    unfolding sorted_records run_records
    records_again =
        let z = nonempty_some s p.column some in
        let count : size_of fs / w ≡ n = ap (λ (m : ℕ). m / w) (all-bytes f o s size all p h) ∙ mul-div_cancel n z.0 in
        rw (one-run, append-nil, size_is, ids_none, without-none, count, h.payload)

    -- they are the cells of the group's records
    rows_are : sorted_records f p.dg (cg_of p) (runs fs) ≡ cell_rows s p.column.group.at p.column.channel (records_of s p.column.group)
    unfolding due_payload column_width records_of
    rows_are =
        let r = h.ready.read some in
        records_again ∙ rw (some, ← r.many) (pieces-cells s p.column.group.at p.column.channel h.ready.fit (r.long h.ready.kept))

    -- "15": whole records
    run_whole_lem : run_whole w fs ≡ fine
    unfolding run_whole
    run_whole_lem =
        let z = nonempty_some s p.column some in
        let e : size_of fs % w ≡ 0 = ap (λ (m : ℕ). m % w) (all-bytes f o s size all p h) ∙ mul-mod_left n w in
        sym (eq_no _ _ _ _ (λ q. omega (arith, z.0)) (eq_yes _ _ _ _ e refl))

    -- "14": DV only without invalidation bytes
    kinds_fine : pick (any_dv fs) (if_eq (inval_bytes f (cg_of p)) 0 fine (refused 14 p.dg)) fine ≡ fine
    unfolding fragments_due kept_byte
    kinds_fine = go kept refl
      where
        same : (t : Bool) → pick t fine fine ≡ fine
        same true = refl
        same false = refl

        go : (t : Bool) → kept ≡ t → pick (any_dv fs) (if_eq (inval_bytes f (cg_of p)) 0 fine (refused 14 p.dg)) fine ≡ fine
        go true q =
            let e : any_dv fs ≡ false = rw q (dt_no_dv (equal_due s size p.column) (blocks_due s size p.column) (length (due_payload s p.column)) p.first) in
            rw e
        go false q =
            let z : inval_bytes f (cg_of p) ≡ 0 = has.inval ∙ rw q in
            let e : if_eq (inval_bytes f (cg_of p)) 0 fine (refused 14 p.dg) ≡ fine = sym (eq_yes _ _ _ _ z refl) in
            rw e (same (any_dv fs))

    -- the checks of the data stage: no 14, no 4, no 15
    pub data_again : sorted_in f p.dg (cg_of p) fs ≡ fine
    unfolding sorted_in runs_whole file_column
    data_again = rw (kinds_fine, h.stands.ranges, one-run, size_is, run_whole_lem)

  -- ---- with built-in types
  module _ (built : o.table ≡ []) where
    reads_cells : ReadsCells f (cg_of p) (cn_of p) s p.column.group.at p.column.channel
    reads_cells =
        record {
          offset = has.byte_offset;
          bytes = bytes-again f o s all p has built;
          samples = has.samples;
          position = has.position;
          keeps = keeps_again f o s all p has built;
        }

    -- a column of its channel has blocks where it had
    pub nonempty_again : (c : Column) → c.group ≡ group_again s size p → c.channel ≡ cn_of p → is_nonempty f c ≡ is_nonempty s p.column
    unfolding is_nonempty group_again column_width
    nonempty_again c g e =
        let at : c.group.at ≡ cg_of p = ap (λ (x : SrcGroup). x.at) g in
        let many : c.group.records ≡ n = ap (λ (x : SrcGroup). x.records) g in
        rw (at, many, e, width-again f o s all p has built)

    some_payload : is_nonempty s p.column ≡ true → cells f (group_again s size p).at (cn_of p) (records_of f (group_again s size p))
        ≡ cells s p.column.group.at p.column.channel (records_of s p.column.group)
    unfolding group_again records_of addresses file_column
    some_payload q =
        let r = h.ready.read q in
        ap (cells f (cg_of p) (cn_of p)) (rows_are q)
        ∙ rows_again f (cg_of p) (cn_of p) s p.column.group.at p.column.channel reads_cells h.ready.fit (r.long h.ready.kept)

    -- and the same payload
    pub payload_again : (c : Column) → c.group ≡ group_again s size p → c.channel ≡ cn_of p → due_payload f c ≡ due_payload s p.column
    unfolding due_payload
    payload_again c g e = rw (nonempty_again c g e, g, e) (go (is_nonempty s p.column) refl)
      where
        go : (t : Bool) → is_nonempty s p.column ≡ t → pick t (cells f (group_again s size p).at (cn_of p) (records_of f (group_again s size p))) []
            ≡ pick t (cells s p.column.group.at p.column.channel (records_of s p.column.group)) []
        go true q = some_payload q
        go false q = refl
