-- The columns of a result stand in its file, in order: all that opening it rests on.
use Prim.{tt}
use Rattle.std.specs.Prelude.{ℕ, suc, ◌+◌, ◌*◌, ◌^◌, ◌≤◌, ◌<◌, ◌≡◌, refl, length}
use mathlib.Core.List.{List, [], ◌∷◌}
use Rattle.std.proofs.Math.Option.{Option, none, some}
use Rattle.std.proofs.Common.{sym, ap, ◌∙◌, le_refl, suc-mul, arith, lit<, length-append}
use Rattle.base.specs.Checked.{fine}
use Rattle.mdf.specs.Block.{DG, CG, CN, link_at, block_at}
use Rattle.mdf.specs.Name.{name_at}
use Rattle.mdf.specs.Records.{joined}
use Rattle.plan.specs.Columns.{Column}
use Rattle.plan.specs.Copies.{Copy, Attachment}
use Rattle.plan.specs.Layout.{Placed, cg_of, cn_of, cg_size, structure_size, Sizes, places_at, past_data, places_from, column_sizes, sizes_of, placed_at, with_places, placed_from, payload_size, column_width, column_blocks, cn_size}
use Rattle.plan.specs.Rules.{Rules}
use Rattle.result.specs.Fill.{Block, new_link, dg_bytes, cg_bytes, cn_bytes, dl_blocks, structure_blocks, data_blocks, next_dg}
use Rattle.result.specs.Due.{due_payload, has_master, blocks_due, fragments_due}
use Rattle.result.specs.Guarantee.{Stands, In, here, there}
use Rattle.copies_laws.specs.LengthLaws.{InImage, length-dg, length-cg, length-cn}
use Rattle.shown_laws.specs.Joined.{stands_inside}
use Rattle.shown_laws.specs.Shapes.{cg_words, cn_links}
use Rattle.shown_laws.specs.ColumnShown.{ColumnSound, blocks_at, column-chain, column-joined, dg-head, dg-next, dg-cg, dg-dl, cg-link, cg-head, cg-next, cg-cn, cn-link, cn-head, cn-next, Refers}
use Rattle.shown_laws.specs.AllShown.{in_list, in_later, in_payload, in_data_later}
use Rattle.file.specs.Form.{FileColumn, cycles, record_bytes}
use Rattle.file_laws.specs.Standing.{ColumnStands, first_dg, AllStand, all_fragments}
use Rattle.file_guarantee.specs.Passed.{block-fine}
use Rattle.file_guarantee.specs.ColumnForm.{file_column, length_even, same_blocks, due_ranges, due-cycles, due-width, due-formed}

cg-bytes : (m : Option ℕ) → cg_size m ≡ 104 + 8 * has_master m
cg-bytes none = refl
cg-bytes (some m) = refl

cg_most : (m : Option ℕ) → has_master m ≤ 1
cg_most none = omega arith
cg_most (some m) = omega arith

pub fragments_many : (s : List ℕ) (size : ℕ) (p : Placed) → length (fragments_due s size p) ≡ column_blocks s size p.column
unfolding fragments_due
fragments_many s size p = length_even _ _ (blocks_due s size p.column) _ p.first ∙ sym (same_blocks s size p.column)

-- what is known of a placed column besides its blocks
pub record Good (s : List ℕ) (size : ℕ) (p : Placed) : Type 0 where
  pub sound : ColumnSound s size p
  pub inside : InImage s p.column
  pub long : length (due_payload s p.column) ≡ payload_size s p.column

cn-size : (c : Column) → cn_size c ≡ 160 + 8 * length c.photos
unfolding cn_size
cn-size c = refl

-- ---- one column
module _ {f : List ℕ} (o : Rules) (s : List ℕ) (size : ℕ) (memo : List Copy) (ats : List Attachment) (all : List Placed) (p : Placed) (next : ℕ) (g : Good s size p)
    (refers : Refers o s p.column)
    (small : (a : ℕ) → new_link memo a < 256 ^ 8) (named : (a : ℕ) → name_at f (new_link memo a) ≡ fine)
    (dg : Stands f p.dg (dg_bytes s size memo p next)) (cg : Stands f (cg_of p) (cg_bytes s memo all p)) (cn : Stands f (cn_of p) (cn_bytes o s memo ats p))
    (list : (b : Block) → In b (dl_blocks s size p) → Stands f b.at b.bytes)
    (blocks : (b : Block) → In b (blocks_at s size p) → Stands f b.at b.bytes) where
  k : ColumnSound s size p
  k = g.sound

  dg-fine : block_at DG f p.dg ≡ fine
  dg-fine =
      let long = length-dg s size memo p next in
      block-fine f p.dg _ (dg-head s size memo all p next k dg) DG refl (lit< tt) (lit< tt) (lit< tt)
      (omega (arith, long, stands_inside (dg_bytes s size memo p next) dg (omega arith)))

  cg-fine : block_at CG f (cg_of p) ≡ fine
  cg-fine =
      let long = length-cg s memo all p g.inside in
      let m = cg-bytes p.column.master in
      let n = cg_most p.column.master in
      block-fine f (cg_of p) _ (cg-head s size memo all p next k cg) CG refl (omega arith) (omega arith) (omega arith)
      (omega (arith, long, stands_inside (cg_bytes s memo all p) cg (omega arith)))

  cn-fine : block_at CN f (cn_of p) ≡ fine
  cn-fine =
      let long = length-cn o s memo ats p g.inside in
      let wide = cn-size p.column in
      let n = k.few_photos in
      block-fine f (cn_of p) _ (cn-head o s size memo ats p k cn refers) CN refl (omega arith) (omega arith) (omega (arith, refers))
      (omega (arith, refers, stands_inside (cn_bytes o s memo ats p) cn (omega arith)))

  cg_name_lem : link_at f (cg_of p) 2 ≡ new_link memo (link_at s p.column.group.at 2)
  unfolding cg_words
  cg_name_lem = cg-link s size memo all p next k cg 2 (lit< tt) (small _)

  cn_name_lem : link_at f (cn_of p) 2 ≡ new_link memo (link_at s p.column.channel 2)
  unfolding cn_links
  cn_name_lem = cn-link o s size memo ats p k cn 2 (omega arith) (small _)

  cg-after : cg_of p < cn_of p
  cg-after = omega (arith, cg-bytes p.column.master)

  pub column_stands : next < 256 ^ 8 → ColumnStands f (file_column s size p) next
  unfolding file_column
  column_stands h =
      record {
        dg_above = k.dg_above;
        cg_above = omega arith;
        cn_above = cg-after;
        dg_block = dg-fine;
        cg_block = cg-fine;
        cn_block = cn-fine;
        dg_next = dg-next s size memo all p next k dg h;
        dg_group = dg-cg s size memo all p next k dg;
        cg_next = cg-next s size memo all p next k cg;
        cg_channel = cg-cn s size memo all p next k cg;
        cn_next = cn-next o s size memo ats p k cn;
        cg_name = rw cg_name_lem (named _);
        cn_name = rw cn_name_lem (named _);
        chained = λ n m. rw (dg-dl s size memo all p next k dg) (column-chain s size p k list blocks n (omega (arith, fragments_many s size p)));
        ranges = due_ranges s size memo all p next k dg cg list blocks;
        form = due-formed s size memo all p next k dg cg list blocks g.long;
      }

-- ---- all columns
unfoldable pub file_columns : List ℕ → ℕ → List Placed → List FileColumn
file_columns s size [] = []
file_columns s size (p ∷ ps) = file_column s size p ∷ file_columns s size ps

pub first-same : (s : List ℕ) (size : ℕ) (ps : List Placed) → first_dg (file_columns s size ps) ≡ next_dg ps
unfolding file_columns file_column
first-same s size [] = refl
first-same s size (p ∷ ps) = refl

pub stand-from : (f : List ℕ) (a b : ℕ) (cs : List FileColumn) → a ≤ b → AllStand f b cs → AllStand f a cs
unfolding AllStand
stand-from f a b [] h l = tt
stand-from f a b (c ∷ cs) h l = (omega (arith, l.0), l.1, l.2)

pub next-below : (s : List ℕ) (size : ℕ) (ps : List Placed) → ((p : Placed) → In p ps → Good s size p) → next_dg ps < 256 ^ 8
next-below s size [] h = lit< tt
next-below s size (p ∷ ps) h = let e = (h p here).sound.structure_ends in omega arith

module _ {f : List ℕ} (o : Rules) (s : List ℕ) (size : ℕ) (memo : List Copy) (ats : List Attachment) (all : List Placed)
    (small : (a : ℕ) → new_link memo a < 256 ^ 8) (named : (a : ℕ) → name_at f (new_link memo a) ≡ fine) where
  pub columns-stand : (cs : List Column) (a d : ℕ)
      → ((p : Placed) → In p (placed_from o s size a d cs) → Good s size p) → ((p : Placed) → In p (placed_from o s size a d cs) → Refers o s p.column)
      → ((b : Block) → In b (structure_blocks o s size memo ats all (placed_from o s size a d cs)) → Stands f b.at b.bytes)
      → ((b : Block) → In b (data_blocks s size (placed_from o s size a d cs)) → Stands f b.at b.bytes)
      → AllStand f a (file_columns s size (placed_from o s size a d cs))
  unfolding with_places places_from sizes_of structure_blocks AllStand file_columns file_column structure_size
  columns-stand [] a d good refers made filled = tt
  columns-stand (c ∷ cs) a d good refers made filled =
      let z : Sizes = column_sizes s size c in
      let p : Placed = placed_at c (places_at o.unit a d z) in
      let ps : List Placed = placed_from o s size (a + structure_size s size c) (past_data o.unit z d) cs in
      let one : ColumnStands f (file_column s size p) (next_dg ps) =
      column_stands o s size memo ats all p (next_dg ps) (good p here) (refers p here) small named (made _ here) (made _ (there here)) (made _ (there (there here)))
      (λ b i. made b (in_list o s size memo ats all p ps i)) (λ b i. filled b (in_payload s size p ps i))
      (next-below s size ps (λ q i. good q (there i))) in
      let more : AllStand f (a + structure_size s size c) (file_columns s size ps) =
      columns-stand cs (a + structure_size s size c) (past_data o.unit z d) (λ q i. good q (there i)) (λ q i. refers q (there i))
      (λ b i. made b (in_later o s size memo ats all p ps i)) (λ b i. filled b (in_data_later s size p ps i)) in
      (le_refl a, rw (first-same s size ps) one, stand-from f (suc (cn_of p)) (a + structure_size s size c) (file_columns s size ps) (omega (arith, cn-size c)) more)

-- ---- what is read of a column
pub record ColumnRead (f s : List ℕ) (size : ℕ) (p : Placed) : Type 0 where
  pub cycles : cycles f (cg_of p) ≡ p.column.group.records
  pub width : record_bytes f (cg_of p) ≡ column_width s p.column
  pub payload : joined f (fragments_due s size p) ≡ due_payload s p.column

pub columns_read : {f : List ℕ} (o : Rules) (s : List ℕ) (size : ℕ) (memo : List Copy) (ats : List Attachment) (all ps : List Placed)
    → ((p : Placed) → In p ps → Good s size p)
    → ((b : Block) → In b (structure_blocks o s size memo ats all ps) → Stands f b.at b.bytes)
    → ((b : Block) → In b (data_blocks s size ps) → Stands f b.at b.bytes) → (p : Placed) → In p ps → ColumnRead f s size p
unfolding structure_blocks
columns_read {f = f} o s size memo ats all [] good made filled p x4 = elim x4 [ ]
columns_read {f} o s size memo ats all (q ∷ ps) good made filled p here =
    let k : ColumnSound s size p = (good p here).sound in
    let list : (b : Block) → In b (dl_blocks s size p) → Stands f b.at b.bytes = λ b i. made b (in_list o s size memo ats all p ps i) in
    let blocks : (b : Block) → In b (blocks_at s size p) → Stands f b.at b.bytes = λ b i. filled b (in_payload s size p ps i) in
    record {
      cycles = due-cycles s size memo all p (next_dg ps) k (made _ here) (made _ (there here)) list blocks;
      width = due-width s size memo all p (next_dg ps) k (made _ here) (made _ (there here)) list blocks;
      payload = column-joined s size p k list blocks;
    }
columns_read o s size memo ats all (q ∷ ps) good made filled p (there j) =
    columns_read o s size memo ats all ps (λ r i. good r (there i)) (λ b i. made b (in_later o s size memo ats all q ps i))
    (λ b i. filled b (in_data_later s size q ps i)) p j

-- as many columns and blocks as the limits allow
pub columns-many : (s : List ℕ) (size : ℕ) (ps : List Placed) → length (file_columns s size ps) ≡ length ps
unfolding file_columns
columns-many s size [] = refl
columns-many s size (p ∷ ps) = ap suc (columns-many s size ps)

pub blocks-many : (s : List ℕ) (size : ℕ) (ps : List Placed) → ((p : Placed) → In p ps → Good s size p)
    → length (all_fragments (file_columns s size ps)) ≤ length ps * 4294967296
unfolding file_columns file_column all_fragments
blocks-many s size [] h = omega arith
blocks-many s size (p ∷ ps) h =
    rw length-append (omega (arith, fragments_many s size p, (h p here).sound.few, blocks-many s size ps (λ q i. h q (there i)), suc-mul (length ps) 4294967296))
