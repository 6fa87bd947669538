-- A column of a result has the form: its DL, its blocks, as many records as its CG's cycle count says.
use Rattle.std.specs.Prelude.{ℕ, zero, suc, ◌+◌, ◌*◌, ◌-◌, ◌%◌, ◌^◌, ◌<◌, Bool, true, false, ◌≡◌, refl, eqb, get_or}
use mathlib.Core.List.{List, [], ◌∷◌, ◌++◌, flatten}
use Rattle.std.proofs.Math.Option.{some}
use Rattle.std.proofs.Math.Path.{sym, ap}
use Rattle.std.proofs.Common.{◌∙◌, arith, eq-eqb, eqb-true, length-append}
use Rattle.std.proofs.Math.Nat.{mul_comm}
use Rattle.std.proofs.lemmas.Bool.{eqb-false}
use Rattle.std.proofs.Math.ListN.{length}
use Rattle.base.specs.Choice.{pick, if_eq}
use Rattle.base.specs.ChoiceLaws.{eq_yes, eq_no}
use Rattle.base.specs.Checked.{fine}
use Rattle.base.specs.Field.{le_at, le}
use Rattle.base.specs.FieldLaws.{length-le}
use Rattle.mdf.specs.Block.{links_at, link_at, data_at}
use Rattle.mdf.specs.Chain.{Kind, dt, dv}
use Rattle.mdf.specs.Group.{samples, inval_bytes}
use Rattle.mdf.specs.Records.{ranges_in}
use Rattle.plan.specs.Channel.{keeps_inval, channel_bytes, width}
use Rattle.plan.specs.Columns.{Column}
use Rattle.plan.specs.Copies.{Copy}
use Rattle.plan.specs.Layout.{Placed, cg_of, cn_of, dl_of, column_width, column_blocks, payload_size}
use Rattle.result.specs.Payload.{column_payloads}
use Rattle.result.specs.Fill.{Block, block_of, payload_blocks, block_links, column_payload, dg_bytes, cg_bytes, dl_blocks}
use Rattle.result.specs.Links.{GroupFields, group_fields}
use Rattle.result.specs.Due.{due_payload, due_kind, even_blocks, blocks_due, equal_due, fragments_due, kept_byte, group_due}
use Rattle.result.specs.Guarantee.{Stands, In, here, there}
use Rattle.payload_laws.specs.PayloadLaws.{length_framed}
use Rattle.shown_laws.specs.Standing.{stands_front, stands_at, read}
use Rattle.shown_laws.specs.Joined.{EqualBut, framed_fragment, fragments_of, stands_inside, dl-kind, dl-size, dl_links, dl-next, dl-listed, dl_flags, dl_equal}
use Rattle.shown_laws.specs.ColumnShown.{ColumnSound, length-column-payloads, dl_link, blocks_at, due_fragments, dl_there, column-joined, dg_ids, dg-dl, group-shown}
use Rattle.file.specs.Form.{FileColumn, cycles, record_bytes, none_zero, equal_length, have_length, list_formed, all_dt, all_dv, one_kind, formed}
use Rattle.file_laws.specs.JoinedLaws.{ranges_in_lem, length-joined}
use Rattle.file_laws.specs.FormLaws.{none-next, IsList, list-formed, kind-dt, kind-dv, is_formed_lem}

-- the column that a placed one is in the file
unfoldable pub file_column : List ℕ → ℕ → Placed → FileColumn
file_column s size p = record { dg = p.dg; cg = cg_of p; cn = cn_of p; fragments = fragments_due s size p }

-- ---- blocks of one length but the last
pub length_even : (k : Kind) (q n all a : ℕ) → length (even_blocks k q n all a) ≡ n
unfolding even_blocks
length_even k q zero all a = refl
length_even k q (suc zero) all a = refl
length_even k q (suc (suc n)) all a = ap suc (length_even k q (suc n) (all - q) (a + (24 + q)))

even_lengths : (k : Kind) (q n all a : ℕ) → have_length q (even_blocks k q n all a) ≡ true
unfolding even_blocks have_length
even_lengths k q zero all a = refl
even_lengths k q (suc zero) all a = refl
even_lengths k q (suc (suc zero)) all a = rw (eq-eqb q q refl)
even_lengths k q (suc (suc (suc n))) all a = rw (eq-eqb q q refl) (even_lengths k q (suc (suc n)) (all - q) (a + (24 + q)))

even_dt : (q n all a : ℕ) → all_dt (even_blocks dt q n all a) ≡ true
unfolding even_blocks all_dt
even_dt q zero all a = refl
even_dt q (suc zero) all a = refl
even_dt q (suc (suc n)) all a = even_dt q (suc n) (all - q) (a + (24 + q))

even_dv : (q n all a : ℕ) → all_dv (even_blocks dv q n all a) ≡ true
unfolding even_blocks all_dv
even_dv q zero all a = refl
even_dv q (suc zero) all a = refl
even_dv q (suc (suc n)) all a = even_dv q (suc n) (all - q) (a + (24 + q))

-- ---- blocks that stand

-- their ranges lie in the file
blocks_in_lem : {f : List ℕ} (k : Kind) (kind a : ℕ) (ps : List (List ℕ))
    → ((b : Block) → In b (payload_blocks kind a ps) → Stands f b.at b.bytes) → ranges_in f (fragments_of k a ps) ≡ fine
unfolding payload_blocks fragments_of ranges_in
blocks_in_lem k kind a [] blocks = refl
blocks_in_lem {f} k kind a (p ∷ ps) blocks =
    let st : Stands f a (block_of kind p) = blocks _ here in
    let long = length_framed kind p in
    ranges_in_lem f (framed_fragment k a p) (fragments_of k (a + (24 + length p)) ps) (omega (arith, long, stands_inside (block_of kind p) st (omega arith)))
    (blocks_in_lem k kind (a + (24 + length p)) ps (λ b i. blocks b (there i)))

-- the links to them are not 0
links_some : {f : List ℕ} (ps : List (List ℕ)) (pay a at : ℕ) → Stands f at (block_links pay (length ps) a) → EqualBut pay ps → 0 < a
    → a + 24 * length ps + length (flatten ps) < 256 ^ 8 → none_zero f (length ps) at ≡ true
unfolding block_links EqualBut flatten none_zero
links_some [] pay a at s eq z h = refl
links_some {f} (p ∷ []) pay a at s eq z h =
    let link : le_at 8 f at ≡ a = read 8 a (stands_front (le 8 a) _ s) (omega arith) in
    none-next f 0 at (λ e. omega arith) refl
links_some {f} (p ∷ q ∷ ps) pay a at s eq z h =
    let g : a + 24 * length (p ∷ q ∷ ps) + (length p + length (q ++ flatten ps)) < 256 ^ 8 = rw length-append at h in
    let link : le_at 8 f at ≡ a = read 8 a (stands_front (le 8 a) _ s) (omega arith) in
    let rest : Stands f (at + 8) (block_links pay (length (q ∷ ps)) (a + (24 + pay))) =
    stands_at (le 8 a) (block_links pay (length (q ∷ ps)) (a + (24 + pay))) s (simp length-le) in
    let next : Stands f (at + 8) (block_links pay (length (q ∷ ps)) (a + (24 + length p))) = rw eq.0 rest in
    none-next f (length (q ∷ ps)) at (λ e. omega arith)
    (links_some (q ∷ ps) pay (a + (24 + length p)) (at + 8) next eq.1 (omega arith) (omega arith))

-- ---- what a DL says
bit-one : (f : List ℕ) (a : ℕ) → le_at 4 f a ≡ 1 → get_or f a 0 % 2 ≡ 1
unfolding le_at
bit-one f a e =
    let g : get_or f a 0 + 256 * le_at 3 f (a + 1) ≡ 1 = e in
    omega arith

same_equal : (s : List ℕ) (size : ℕ) (c : Column) → column_payload s size c ≡ equal_due s size c
unfolding column_payload column_width equal_due
same_equal s size c = refl

pub same_blocks : (s : List ℕ) (size : ℕ) (c : Column) → column_blocks s size c ≡ blocks_due s size c
unfolding column_blocks column_width blocks_due
same_blocks s size c = refl

due_lengths : (f s : List ℕ) (size : ℕ) (p : Placed) (dl : ℕ) → le_at 8 f (data_at f dl + 8) ≡ column_payload s size p.column
    → have_length (equal_length f dl) (fragments_due s size p) ≡ true
unfolding equal_length fragments_due
due_lengths f s size p dl e = rw (e, same_equal s size p.column) (even_lengths _ (equal_due s size p.column) _ _ p.first)

due_kinds : (f s : List ℕ) (size : ℕ) (p : Placed) (g : ℕ) → inval_bytes f g ≡ kept_byte s p.column → one_kind f g (fragments_due s size p) ≡ true
unfolding fragments_due kept_byte
due_kinds f s size p g e = go (keeps_inval s p.column.group.at p.column.channel) e
  where
    go : (t : Bool) → inval_bytes f g ≡ pick t 1 0
        → one_kind f g (even_blocks (due_kind t) (equal_due s size p.column) (blocks_due s size p.column) (length (due_payload s p.column)) p.first) ≡ true
    go true h = kind-dt f g _ (even_dt _ (blocks_due s size p.column) _ p.first)
    go false h = kind-dv f g _ (even_dv _ (blocks_due s size p.column) _ p.first) h

-- ---- a column whose blocks stand
module _ {f : List ℕ} (s : List ℕ) (size : ℕ) (memo : List Copy) (all : List Placed) (p : Placed) (next : ℕ) (k : ColumnSound s size p)
    (dg : Stands f p.dg (dg_bytes s size memo p next)) (cg : Stands f (cg_of p) (cg_bytes s memo all p))
    (list : (b : Block) → In b (dl_blocks s size p) → Stands f b.at b.bytes)
    (blocks : (b : Block) → In b (blocks_at s size p) → Stands f b.at b.bytes) where
  pub due_ranges : ranges_in f (fragments_due s size p) ≡ fine
  due_ranges = rw (← due_fragments s size p k) (blocks_in_lem _ _ p.first (column_payloads s size p.column) blocks)

  -- its CG: as many records, of as many bytes
  pub due-cycles : cycles f (cg_of p) ≡ p.column.group.records
  unfolding cycles group_fields group_due
  due-cycles = ap (λ (g : GroupFields). g.records) (group-shown s size memo all p next k cg)

  due_inval : inval_bytes f (cg_of p) ≡ kept_byte s p.column
  unfolding group_fields group_due
  due_inval = ap (λ (g : GroupFields). g.invalidation) (group-shown s size memo all p next k cg)

  pub due-width : record_bytes f (cg_of p) ≡ column_width s p.column
  unfolding record_bytes column_width width kept_byte group_fields group_due
  due-width =
      let b : samples f (cg_of p) ≡ channel_bytes s p.column.channel =
      ap (λ (g : GroupFields). g.data_bytes) (group-shown s size memo all p next k cg) in
      rw (b, due_inval)

  -- its DL
  is_list : (column_blocks s size p.column ≡ 0 → ⊥) → IsList f (dl_of p) (fragments_due s size p)
  is_list z =
      let st = dl_there s size p k list z in
      let n : ℕ = column_blocks s size p.column in
      let ps : List (List ℕ) = column_payloads s size p.column in
      let count : length ps ≡ n = length-column-payloads s size p.column in
      let links : links_at f (dl_of p) ≡ n + 1 = dl_links (dl_of p) n _ _ k.few k.short st in
      let rest : links_at f (dl_of p) - 1 ≡ length ps = omega arith in
      let room : p.first + 24 * length ps + length (flatten ps) < 256 ^ 8 = rw (count, k.whole) k.payload_ends in
      let size' = dl-size (dl_of p) n _ _ k.few k.short st in
      let listed : Stands f (dl_of p + 32) (block_links (column_payload s size p.column) n p.first) = dl-listed (dl_of p) n _ _ k.few k.short st in
      record {
        kind = dl-kind (dl_of p) n _ _ k.few k.short st;
        some = omega arith;
        first = dl-next (dl_of p) n _ _ k.few k.short st;
        others = rw rest (links_some ps (column_payload s size p.column) p.first (dl_of p + 32) (rw count listed) k.equal k.first_above room);
        room = omega arith;
        bit = bit-one f (data_at f (dl_of p)) (dl_flags (dl_of p) n _ _ k.few k.short st);
        lengths = due_lengths f s size p (dl_of p) (dl_equal (dl_of p) n _ _ k.few k.short st);
      }

  due-list : if_eq (link_at f p.dg 2) 0 true (list_formed f (link_at f p.dg 2) (fragments_due s size p)) ≡ true
  due-list = rw (dg-dl s size memo all p next k dg) (go (eqb (column_blocks s size p.column) 0) refl)
    where
      go : (t : Bool) → eqb (column_blocks s size p.column) 0 ≡ t
          → if_eq (dl_link s size p) 0 true (list_formed f (dl_link s size p) (fragments_due s size p)) ≡ true
      go true q =
          let link : dl_link s size p ≡ 0 = sym (eq_yes _ 0 0 (dl_of p) (eqb-true _ 0 q) refl) in
          sym (eq_yes _ _ _ _ link refl)
      go false q =
          let z : column_blocks s size p.column ≡ 0 → ⊥ = eqb-false _ 0 q in
          let link : dl_link s size p ≡ dl_of p = sym (eq_no _ 0 0 (dl_of p) z refl) in
          rw link (sym (eq_no _ _ _ _ (λ e. omega arith) (sym (list-formed f (dl_of p) (fragments_due s size p) (is_list z)))))

  -- all together: exactly the records
  pub due-formed : length (due_payload s p.column) ≡ payload_size s p.column → formed f (file_column s size p) ≡ true
  unfolding file_column payload_size
  due-formed long =
      is_formed_lem f (file_column s size p) (record {
        ids = dg_ids s size memo all p next k dg;
        list = due-list;
        kinds = due_kinds f s size p (cg_of p) due_inval;
        bytes =
            sym (length-joined f (fragments_due s size p) due_ranges) ∙ ap length (column-joined s size p k list blocks) ∙ long
            ∙ mul_comm (column_width s p.column) p.column.group.records ∙ rw (due-cycles, due-width);
      })
