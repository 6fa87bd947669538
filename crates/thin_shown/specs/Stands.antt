-- A kept column stands in the new file: its blocks pass the checks of the walk, its data chain leads to its blocks, and it has the form.
use Prim.{tt}
use Prim.Native.Nat.{ℕ, ◌+◌, ◌*◌, ◌-◌, ◌%◌, ◌^◌, ◌<◌}
use Rattle.std.specs.Prelude.{List, Bool, true, false, ◌≡◌, refl, eqb, length, get_or}
use Rattle.std.proofs.Math.Option.{Option, none, some}
use Rattle.std.proofs.Common.{sym, ◌∙◌, lit<, eqb-true, length-append}
use native.Mathlib.Omega.{arith}
use Rattle.std.proofs.lemmas.Bool.{eqb-false}
use Rattle.base.specs.Choice.{if_eq}
use Rattle.base.specs.ChoiceLaws.{eq_yes, eq_no}
use Rattle.base.specs.Checked.{fine}
use Rattle.base.specs.Field.{le_at}
use Rattle.base.specs.FieldLaws.{length-le}
use Rattle.mdf.specs.Block.{DG, CG, CN, links_at, link_at, data_at, block_at}
use Rattle.mdf.specs.Name.{name_at}
use Rattle.mdf.specs.Records.{ranges_in}
use Rattle.plan.specs.Copies.{Copy, Attachment}
use Rattle.plan.specs.Layout.{Placed, cg_of, cn_of, dl_of, cg_size, cn_size}
use Rattle.result.specs.Fill.{new_link, master_link}
use Rattle.shown_laws.specs.Header.{length-header, length-words}
use Rattle.shown_laws.specs.Joined.{stands_inside}
use Rattle.shown_laws.specs.Shapes.{length_photos}
use Rattle.file.specs.Form.{equal_length, have_length, list_formed, formed}
use Rattle.file_laws.specs.Standing.{ColumnStands}
use Rattle.file_laws.specs.FormLaws.{IsList, list-formed, is_formed_lem}
use Rattle.file_guarantee.specs.Passed.{block-fine}
use Rattle.thin.specs.Place.{blocks_of}
use Rattle.thin.specs.Fill.{length_kept, kept_dg, kept_cg, kept_cn}
use Rattle.thin_shown.specs.Sound.{moved_fragments, new_column, KeptSound, KeptStands}
use Rattle.thin_shown.specs.Data.{length-kept, same_ids, same-cycles, same_inval, same_bytes}
use Rattle.thin_shown.specs.Shapes.{list_link}
use Rattle.thin_shown.specs.Blocks.{length_moved, moved-size, moved_have, moved-kind, moved-some, moved_ranges, list-kind, list-size}
use Rattle.thin_shown.specs.Blocks.{list_links, list-next, list-listed, list_flags, list_equal}
use Rattle.thin_shown.specs.Column.{cg-bytes, master_most, cn-bytes, dg-head, dg_data_lem, dg-next, dg-cg, dg-list, cg-head, cg_data_lem, cg-next}
use Rattle.thin_shown.specs.Column.{cg-cn, photos_many, photos_few, cn-head, cn-next, few-blocks, short, list_stands, chain-kept, cg_name_lem}
use Rattle.thin_shown.specs.Column.{cn_name_lem}

-- ---- how many bytes DG, CG and CN have
length-dg : (s : List ℕ) (memo : List Copy) (p : Placed) (next : ℕ) → length (kept_dg s memo p next) ≡ 64
unfolding kept_dg
length-dg s memo p next = simp (length-append, length-header, length-le, length-kept)

length-master_link : (ps : List Placed) (m : Option ℕ) → 72 + length (master_link ps m) + 32 ≡ cg_size m
length-master_link ps none = refl
length-master_link ps (some m) = simp length-le

length-cg : (s : List ℕ) (memo : List Copy) (ps : List Placed) (p : Placed) → length (kept_cg s memo ps p) ≡ cg_size p.column.master
unfolding kept_cg
length-cg s memo ps p = simp (length-append, length-header, length-le, length-kept) (length-master_link ps p.column.master)

length-cn : (s : List ℕ) (memo : List Copy) (ats : List Attachment) (p : Placed) → length (kept_cn s memo ats p) ≡ cn_size p.column
unfolding kept_cn cn_size
length-cn s memo ats p = simp (length-append, length-header, length-le, length-kept, length-words, length_photos) (omega arith)

-- the equal-length bit
bit-one : (f : List ℕ) (a : ℕ) → le_at 4 f a ≡ 1 → get_or f a 0 % 2 ≡ 1
unfolding le_at
bit-one f a e =
    let g : get_or f a 0 + 256 * le_at 3 f (a + 1) ≡ 1 = e in
    omega arith

module _ {s f : List ℕ} {memo : List Copy} {ats : List Attachment} {all : List Placed} {p : Placed} {next : ℕ}
    (k : KeptSound s p) (st : KeptStands s f memo ats all p next) where
  -- ---- its blocks pass the checks of the walk
  pub dg-fine : block_at DG f p.dg ≡ fine
  dg-fine =
      let long = length-dg s memo p next in
      block-fine f p.dg _ (dg-head k st) DG refl (lit< tt) (lit< tt) (lit< tt)
      (omega (arith, long, stands_inside (kept_dg s memo p next) st.dg (omega arith)))

  pub cg-fine : block_at CG f (cg_of p) ≡ fine
  cg-fine =
      let long = length-cg s memo all p in
      let m = cg-bytes p.column.master in
      let n = master_most p.column.master in
      block-fine f (cg_of p) _ (cg-head k st) CG refl (omega arith) (omega arith) (omega arith)
      (omega (arith, long, stands_inside (kept_cg s memo all p) st.cg (omega arith)))

  pub cn-fine : block_at CN f (cn_of p) ≡ fine
  cn-fine =
      let long = length-cn s memo ats p in
      let wide = cn-bytes p in
      let n = photos_few k st in
      let many = photos_many k st in
      block-fine f (cn_of p) _ (cn-head k st) CN refl (omega arith) (omega arith) (omega arith)
      (omega (arith, stands_inside (kept_cn s memo ats p) st.cn (omega arith)))

  pub ranges_kept : ranges_in f (moved_fragments p.first p.column.group.data_group.fragments) ≡ fine
  ranges_kept = moved_ranges s f p.first p.column.group.data_group.fragments k.ranges st.blocks

  -- ---- it has the form
  kept_lengths : (dl : ℕ) → le_at 8 f (data_at f dl + 8) ≡ length_kept s p
      → have_length (equal_length f dl) (moved_fragments p.first p.column.group.data_group.fragments) ≡ true
  unfolding equal_length length_kept
  kept_lengths dl e = rw e (moved_have _ p.first p.column.group.data_group.fragments ∙ k.lengths)

  is_list : (blocks_of p.column ≡ 0 → ⊥) → IsList f (dl_of p) (moved_fragments p.first p.column.group.data_group.fragments)
  unfolding blocks_of length_kept
  is_list z =
      let it = list_stands k st z in
      let few = few-blocks k st in
      let below = short k st in
      let n : ℕ = blocks_of p.column in
      let links : links_at f (dl_of p) ≡ n + 1 = list_links (dl_of p) n _ _ few below it in
      let rest : links_at f (dl_of p) - 1 ≡ n = omega arith in
      let size = list-size (dl_of p) n _ _ few below it in
      record {
        kind = list-kind (dl_of p) n _ _ few below it;
        some = omega arith;
        first = list-next (dl_of p) n _ _ few below it;
        others = rw rest (moved-some s f p.column.group.data_group.fragments (length_kept s p) p.first (dl_of p + 32)
            (list-listed (dl_of p) n _ _ few below it) k.lengths k.first_above k.payload_ends);
        room = omega arith;
        bit = bit-one f (data_at f (dl_of p)) (list_flags (dl_of p) n _ _ few below it);
        lengths = kept_lengths (dl_of p) (list_equal (dl_of p) n _ _ few below it);
      }

  kept-list : if_eq (link_at f p.dg 2) 0 true (list_formed f (link_at f p.dg 2) (moved_fragments p.first p.column.group.data_group.fragments))
      ≡ true
  kept-list = rw (dg-list k st) (go (eqb (blocks_of p.column) 0) refl)
    where
      go : (t : Bool) → eqb (blocks_of p.column) 0 ≡ t
          → if_eq (list_link p) 0 true (list_formed f (list_link p) (moved_fragments p.first p.column.group.data_group.fragments)) ≡ true
      go true q =
          let link : list_link p ≡ 0 = sym (eq_yes _ 0 0 (dl_of p) (eqb-true _ 0 q) refl) in
          sym (eq_yes _ _ _ _ link refl)
      go false q =
          let z : blocks_of p.column ≡ 0 → ⊥ = eqb-false _ 0 q in
          let link : list_link p ≡ dl_of p = sym (eq_no _ 0 0 (dl_of p) z refl) in
          rw link (sym (eq_no _ _ _ _ (λ e. omega arith)
          (sym (list-formed f (dl_of p) (moved_fragments p.first p.column.group.data_group.fragments) (is_list z)))))

  pub kept-formed : formed f (new_column p) ≡ true
  kept-formed =
      is_formed_lem f (new_column p) (record {
        ids = same_ids (dg_data_lem k st) k.ids;
        list = kept-list;
        kinds =
            moved-kind s f p.column.group.at (cg_of p) p.first p.column.group.data_group.fragments (same_inval (cg_data_lem k st) k.group_room)
            ∙ k.kinds;
        bytes =
            moved-size p.first p.column.group.data_group.fragments ∙ k.bytes
            ∙ rw (same-cycles (cg_data_lem k st) k.group_room, same_bytes (cg_data_lem k st) k.group_room);
      })

  -- ---- all that opening the file rests on
  pub column_stands : next < 256 ^ 8 → ((a : ℕ) → new_link memo a < 256 ^ 8) → ((a : ℕ) → name_at f (new_link memo a) ≡ fine)
      → ColumnStands f (new_column p) next
  column_stands h small named =
      record {
        dg_above = k.dg_above;
        cg_above = omega arith;
        cn_above = omega (arith, cg-bytes p.column.master);
        dg_block = dg-fine;
        cg_block = cg-fine;
        cn_block = cn-fine;
        dg_next = dg-next k st h;
        dg_group = dg-cg k st;
        cg_next = cg-next k st;
        cg_channel = cg-cn k st;
        cn_next = cn-next k st;
        cg_name = rw (cg_name_lem k st small) (named _);
        cn_name = rw (cn_name_lem k st small) (named _);
        chained = λ n m. chain-kept k st n (omega (arith, length_moved p.first p.column.group.data_group.fragments));
        ranges = ranges_kept;
        form = kept-formed;
      }
