-- Laws of a column's DG, CG, CN and DL over the numbers that its words give.
use Rattle.std.specs.Prelude.{◌≡◌, ℕ, zero, suc, ◌+◌, ◌-◌, ◌*◌, ◌/◌, ◌^◌, ◌<◌, ◌≤◌, max, Bool, true, false, List, [], ◌∷◌, ◌++◌, length, replicate, ◌≢◌, nat_le, slice_index, slice_index_or}
use Rattle.std.proofs.Math.Option.{Option, none, some}
use Rattle.std.proofs.Common.{⊎_elim, subst, ◌∙◌, add-zero, zero-add, le_trans, mul-le-mul_right, div-le_self, div-mul-le_self, length-append, leb-true}
use Rattle.std.proofs.Math.Path.{refl, sym, ap}
use Rattle.std.proofs.Math.Nat.{sub-zero, le_refl, max-eq_left, max-eq_right}
use native.Mathlib.Omega.{arith}
use borrow.Rule.Slice.PartMut.{put_mid, mid_of}
use Rattle.base.specs.Choice.{pick, if_lt, if_le, if_eq}
use Rattle.base.specs.ChoiceLaws.{lt_yes, lt_no, eq_yes, eq_no}
use Rattle.base.specs.FieldLaws.{length-le}
use Rattle.base.specs.Blit.{blit}
use Rattle.base.specs.BlitLaws.{length_part, blit-append}
use Rattle.shown_laws.specs.Header.{length-words}
use Rattle.shown_laws.specs.Shapes.{length_photos}
use Rattle.mdf.specs.Block.{link_at, data_at}
use Rattle.plan.specs.Rules.{Rules}
use Rattle.plan.specs.Table.{treatment}
use Rattle.plan.specs.Channel.{channel_type, channel_bytes, keeps_inval, width}
use Rattle.plan.specs.Photos.{photo_count, links_from, references, photos_of}
use Rattle.plan.specs.PhotosLaws.{length-links_from}
use Rattle.plan.specs.Copies.{Copy, copy_of, Attachment}
use Rattle.work_words.specs.CopyWords.{placed_at}
use Rattle.plan.specs.Geometry.{power_in, step_of, per_block, per_full, block_count, block_payload}
use Rattle.plan.specs.Layout.{column_width, column_blocks, cg_size, cn_size, dl_size, Placed, cg_of, cn_of}
use Rattle.result.specs.Fill.{
  Block,
  block,
  or_zero,
  new_link,
  stored_type,
  sd_link,
  next_dg,
  cg_at,
  dg_bytes,
  cg_bytes,
  cn_bytes,
  dl_blocks,
  column_payload,
  words,
  photo_links,
  structure_blocks,
}
use Rattle.result.specs.Ordered.{Ordered}
use Rattle.copies_laws.specs.AnswerLaws.{on_eq}
use Rattle.copies_laws.specs.LengthLaws.{InImage, length-header, length-block_links}
use Rattle.filling.specs.Blocks.{dg_from, cg_header, cg_front, cg_counts, cg_data_from, cg_from, cn_links, cn_front, cn_types, cn_rest, cn_data_from, dl_from}
use Rattle.filling.specs.FillLaws.{has_master, master_cg, dg-from, cg-from, cn-from, dl-from}
use Rattle.copier.specs.Answer.{link_of}
use Rattle.copier.specs.Standing.{copies_in}
use Rattle.puts.specs.PutLaws.{lent_is}
use Rattle.writing.specs.declared.placed.PlacedColumn.{PlacedColumn}
use Rattle.records.specs.FragmentLaws.{lt_or_le}
use Rattle.writing.specs.PlacedIn.{master_in, signal_in, column_in, placed_one, placed_in}
use Rattle.writing.specs.Structure.{
  master_place,
  next_place,
  column_of,
  Near,
  column_dg,
  cn_length,
  column_cg,
  column_front,
  column_photos,
  column_data,
  column_cn,
  column_dl,
  column_d_ls,
  column_parts,
  cg_length,
  Room,
  StructureReady,
  on_table,
}
use Rattle.write_copies.specs.Wrote.{end_of, Wrote}
use Rattle.write_copies.specs.WroteLaws.{ordered_end, ordered_back, ordered-first, wrote_none, wrote_block, wrote_append}

pub size_master : (m : Option ℕ) → cg_size m ≡ cg_length (has_master m)
size_master none = refl
size_master (some m) = refl

-- ---- links
link_or : (o : Option ℕ) → link_of o ≡ or_zero o
link_or none = refl
link_or (some a) = refl

pub link_new : (m : List Copy) (a b : ℕ) {r : ℕ} → r ≡ link_of (copy_of b m) → b ≡ a → r ≡ new_link m a
unfolding new_link
link_new m a b e q = e ∙ link_or (copy_of b m) ∙ rw q

-- ---- the blocks' bytes, laid by f over d
module _ (s : List ℕ) (m : List Copy) (h : PlacedColumn) (f : List ℕ → List ℕ → List ℕ) (d e : List ℕ) where
  pub filled-dg : (next : ℕ) {dl comment : ℕ} → e ≡ f (dg_from next (h.dg + 64) dl comment) d → dl ≡ if_eq h.blocks 0 0 (h.cn + cn_length h)
      → comment ≡ new_link m (link_at s h.parent 3) → e ≡ f (column_dg s m h next) d
  unfolding column_dg
  filled-dg next i a b = i ∙ rw (a, b)

  pub filled-cg : {name source comment bytes : ℕ} {inval : Bool}
      → e ≡ f (cg_from s h.group h.cn name source comment h.remote h.master h.records bytes inval) d
      → name ≡ new_link m (link_at s h.group 2) → source ≡ new_link m (link_at s h.group 3) → comment ≡ new_link m (link_at s h.group 5)
      → bytes ≡ channel_bytes s h.channel → inval ≡ keeps_inval s h.group h.channel → e ≡ f (column_cg s m h) d
  unfolding column_cg
  filled-cg i a b c x y = i ∙ rw (a, b, c, x, y)

  pub filled-front : {size links name source conversion unit comment : ℕ}
      → e ≡ f (cn_front size links name source conversion h.sd unit comment) d → size ≡ cn_length h → links ≡ 8 + h.photos
      → name ≡ new_link m (link_at s h.channel 2) → source ≡ new_link m (link_at s h.channel 3) → conversion ≡ new_link m (link_at s h.channel 4)
      → unit ≡ new_link m (link_at s h.channel 6) → comment ≡ new_link m (link_at s h.channel 7) → e ≡ f (column_front s m h) d
  unfolding column_front
  filled-front i k l a b c x y = i ∙ rw (k, l, a, b, c, x, y)

-- its data, over what is lent
pub filled_data : (s : List ℕ) (h : PlacedColumn) (p : ℕ) (d ys : List ℕ) {k : Bool}
    → ys ≡ blit 0 (cn_data_from s h.channel h.stored k h.photos) (mid_of p (length d - p) d) → k ≡ keeps_inval s h.group h.channel
    → put_mid p (length d - p) d ys ≡ blit p (column_data s h) d
filled_data s h p d ys e k = lent_is p (column_data s h) d ys (e ∙ rw k)

-- ---- lengths
pub length-column_dg : (s : List ℕ) (memo : List Copy) (h : PlacedColumn) (next : ℕ) → length (column_dg s memo h next) ≡ 64
unfolding column_dg dg_from
length-column_dg s memo h next = simp (length-append, length-header, length-le)

length-cg_from : (s : List ℕ) (g cn name source comment : ℕ) (remote : Bool) (master records bytes : ℕ) (inval : Bool) → data_at s g + 32 ≤ length s
    → length (cg_from s g cn name source comment remote master records bytes inval) ≡ cg_length remote
unfolding cg_from cg_front cg_header cg_data_from cg_counts
length-cg_from s g cn name source comment true master records bytes inval h =
    simp (length-append, length-header, length-le, length_part (data_at s g + 18) 2 s (omega arith))
length-cg_from s g cn name source comment false master records bytes inval h =
    simp (length-append, length-header, length-le, length_part (data_at s g + 18) 2 s (omega arith))

pub length-column_cg : (s : List ℕ) (memo : List Copy) (h : PlacedColumn) → data_at s h.group + 32 ≤ length s
    → length (column_cg s memo h) ≡ cg_length h.remote
unfolding column_cg
length-column_cg s memo h i = length-cg_from s h.group _ _ _ _ h.remote _ _ _ _ i

pub length_front : (s : List ℕ) (memo : List Copy) (h : PlacedColumn) → length (column_front s memo h) ≡ 88
unfolding column_front cn_front cn_links
length_front s memo h = simp (length-append, length-header, length-le)

pub length_links : (s : List ℕ) (ats : List Attachment) (h : PlacedColumn) → length (column_photos s ats h) ≡ 8 * h.photos
length_links s ats h = rw (length-words (photo_links ats (links_from s h.photos (h.channel + 88))), length_photos ats (links_from s h.photos (h.channel + 88)), length-links_from s h.photos (h.channel + 88))

length_data : (s : List ℕ) (h : PlacedColumn) → data_at s h.channel + 72 ≤ length s → length (column_data s h) ≡ 72
unfolding cn_data_from cn_types cn_rest
length_data s h i =
    simp (
      length-append,
      length-le,
      length_part (data_at s h.channel + 1) 3 s (omega arith),
      length_part (data_at s h.channel + 8) 4 s (omega arith),
      length_part (data_at s h.channel + 20) 2 s (omega arith),
      length_part (data_at s h.channel + 24) 48 s (omega arith),
    )

pub length-column_cn : (s : List ℕ) (memo : List Copy) (ats : List Attachment) (h : PlacedColumn) → data_at s h.channel + 72 ≤ length s
    → length (column_cn s memo ats h) ≡ cn_length h
unfolding column_cn
length-column_cn s memo ats h i =
    simp length-append (omega (arith, length_front s memo h, length_links s ats h, length_data s h i))

-- the three parts of a CN, one after the other
pub filled-cn : (s : List ℕ) (memo : List Copy) (ats : List Attachment) (h : PlacedColumn) (d x y z : List ℕ) → x ≡ blit 0 (column_front s memo h) d
    → y ≡ blit 88 (column_photos s ats h) x → z ≡ blit (88 + 8 * h.photos) (column_data s h) y → z ≡ blit 0 (column_cn s memo ats h) d
unfolding column_cn
filled-cn s memo ats h d x y z a b c =
    let e : y ≡ blit 0 (column_front s memo h ++ column_photos s ats h) d =
    b ∙ rw a (sym (blit-append (column_front s memo h) 0 (column_photos s ats h) d ∙ rw (length_front s memo h) refl)) in
    c ∙ rw e (sym (blit-append (column_front s memo h ++ column_photos s ats h) 0 (column_data s h) d
    ∙ ap (λ (k : ℕ). blit k (column_data s h) (blit 0 (column_front s memo h ++ column_photos s ats h) d))
    (simp length-append (omega (arith, length_front s memo h, length_links s ats h)))))

pub length-column_dl : (h : PlacedColumn) → length (column_dl h) ≡ 48 + 8 * h.blocks
unfolding column_dl dl_from
length-column_dl h = simp (length-append, length-header, length-le, length-block_links) (omega arith)

pub dl-some : (n : ℕ) → (n ≢ 0) → dl_size n ≡ 48 + 8 * n
unfolding dl_size
dl-some n h = sym (eq_no n 0 _ _ h (omega arith))

-- ---- a column's blocks
none-ordered : (a e : ℕ) → a ≤ e → Ordered a [] e
unfolding Ordered
none-ordered a e h = h

one-ordered : (a e : ℕ) (bs : List ℕ) → a + length bs ≤ e → Ordered a (block a bs ∷ []) e
unfolding Ordered
one-ordered a e bs h = (le_refl a, h)

dls_ordered : (h : PlacedColumn) (e : ℕ) → h.cn + cn_length h + dl_size h.blocks ≤ e → Ordered (h.cn + cn_length h) (column_d_ls h) e
unfolding column_d_ls
dls_ordered h e l =
    on_eq (λ (bs : List Block). Ordered (h.cn + cn_length h) bs e) h.blocks 0 _ _
    (λ z. none-ordered _ _ (omega arith))
    (λ z. one-ordered _ _ (column_dl h) (omega (arith, length-column_dl h, dl-some h.blocks z)))

module _ {s : List ℕ} (memo : List Copy) (ats : List Attachment) {h : PlacedColumn} {a e : ℕ} (next : ℕ) (o : Room s h a e) where
  pub parts_ordered : Ordered a (column_parts s memo ats h next) e
  unfolding column_parts Ordered
  parts_ordered =
      let g = o.cn in (
        o.begins,
        rw (length-column_dg s memo h next) (
          le_refl _,
          rw (length-column_cg s memo h o.group, ← g) (
            le_refl _,
            rw (length-column_cn s memo ats h o.channel) (dls_ordered h e o.ends),
          ),
        ),
      )

  -- one after the other
  pub wrote_column : {p q t r : ℕ} {out x y z last : List ℕ} → Wrote a (block h.dg (column_dg s memo h next) ∷ []) p out x
      → Wrote p (block (h.dg + 64) (column_cg s memo h) ∷ []) q x y → Wrote q (block h.cn (column_cn s memo ats h) ∷ []) t y z
      → Wrote t (column_d_ls h) r z last → Wrote a (column_parts s memo ats h next) r out last
  unfolding column_parts
  wrote_column v w u d =
      let i = parts_ordered in
      let dg : List Block = block h.dg (column_dg s memo h next) ∷ [] in
      let cg : List Block = block (h.dg + 64) (column_cg s memo h) ∷ [] in
      let cn : List Block = block h.cn (column_cn s memo ats h) ∷ [] in
      let j = ordered-first a (dg ++ cg ++ cn) (column_d_ls h) e i in
      let k = ordered-first a (dg ++ cg) cn e j in
      wrote_append e {xs = dg ++ cg ++ cn} (wrote_append e {xs = dg ++ cg} (wrote_append e {xs = dg} v w k) u j) d i

-- past one block
pub past_one : {a r : ℕ} {out last : List ℕ} (b : Block) (n : ℕ) → Wrote a (b ∷ []) r out last → length b.bytes ≡ n → r ≡ b.at + n
unfolding end_of
past_one b n w l = w.end ∙ rw l

-- ---- columns in words

-- the CG of column number m
cg_in : (ph : Bool) (s columns memo : List ℕ) (k m n : ℕ) → cg_at m (placed_in ph s columns memo k n) ≡ if_lt m n (slice_index memo (placed_at + 3 * (k + m)) + 64) 0
unfolding cg_at placed_in placed_one
cg_in ph s columns memo k m zero = lt_no m 0 _ _ (omega arith) refl
cg_in ph s columns memo k zero (suc n) = lt_yes 0 (suc n) _ _ (omega arith) (rw add-zero)
cg_in ph s columns memo k (suc m) (suc n) =
    let e : k + suc m ≡ k + 1 + m = omega arith in
    cg_in ph s columns memo (k + 1) m n ∙ rw e (more_lt m n _ _)
  where
    more_lt : (m n a b : ℕ) → if_lt m n a b ≡ if_lt (suc m) (suc n) a b
    more_lt m n a b =
        ⊎_elim (λ l. sym (lt_yes m n a b l refl) ∙ lt_yes (suc m) (suc n) a b (omega arith) refl)
        (λ l. sym (lt_no m n a b l refl) ∙ lt_no (suc m) (suc n) a b (omega arith) refl) (lt_or_le m n)

master_in_lem : (ph : Bool) (s columns memo : List ℕ) (n w : ℕ) → master_cg (placed_in ph s columns memo 0 n) (master_in w) ≡ master_place memo n w
unfolding master_in master_place
master_in_lem ph s columns memo n zero = refl
master_in_lem ph s columns memo n (suc m) = cg_in ph s columns memo 0 m n ∙ rw zero-add

next_in : (ph : Bool) (s columns memo : List ℕ) (n k j : ℕ) → k + suc j ≡ n → next_dg (placed_in ph s columns memo (k + 1) j) ≡ next_place memo n k
unfolding placed_in placed_one next_place
next_in ph s columns memo n k zero e = lt_no _ _ _ _ (omega arith) refl
next_in ph s columns memo n k (suc j) e = lt_yes _ _ _ _ (omega arith) refl

placed_cons : (ph : Bool) (s columns memo : List ℕ) (k j : ℕ) → placed_in ph s columns memo k (suc j) ≡ placed_one ph s columns memo k ∷ placed_in ph s columns memo (k + 1) j
unfolding placed_in
placed_cons ph s columns memo k j = refl

-- the references that a column keeps, by their number
kept_links : (ph : Bool) (s : List ℕ) (c : ℕ) → links_from s (length (photos_of ph s c)) (c + 88) ≡ photos_of ph s c
unfolding photos_of links_from references
kept_links true s c = ap (λ (n : ℕ). links_from s n (c + 88)) (length-links_from s (photo_count s c) (c + 88))
kept_links false s c = refl

-- each block of column number k
module _ (ph : Bool) (rs : Rules) (s : List ℕ) (size : ℕ) (m : List Copy) (ats : List Attachment) (columns memo : List ℕ) (n k : ℕ) where
  dg-same : {x y : ℕ} → x ≡ y → dg_bytes s size m (placed_one ph s columns memo k) x ≡ column_dg s m (column_of ph rs.table s size columns memo n k) y
  unfolding column_dg column_of column_blocks column_width placed_one column_in cn_size
  dg-same {x} e = dg-from s size m (placed_one ph s columns memo k) x ∙ rw e

  cg-same : cg_bytes s m (placed_in ph s columns memo 0 n) (placed_one ph s columns memo k) ≡ column_cg s m (column_of ph rs.table s size columns memo n k)
  unfolding column_cg column_of placed_one column_in
  cg-same = cg-from s m (placed_in ph s columns memo 0 n) (placed_one ph s columns memo k) ∙ rw (master_in_lem ph s columns memo n (slice_index columns (8 * k + 5)))

  cn-same : cn_bytes rs s m ats (placed_one ph s columns memo k) ≡ column_cn s m ats (column_of ph rs.table s size columns memo n k)
  unfolding column_cn column_front column_of placed_one column_in cn_size
  cn-same =
      cn-from rs s m ats (placed_one ph s columns memo k) _ refl
      ∙ rw (kept_links ph s (slice_index columns (8 * k)))

  dl-same : dl_blocks s size (placed_one ph s columns memo k) ≡ column_d_ls (column_of ph rs.table s size columns memo n k)
  unfolding dl_blocks column_d_ls column_dl column_of column_blocks column_width column_payload placed_one column_in cn_size
  dl-same = rw (dl-from s size m (placed_one ph s columns memo k))

  parts_open : (next : ℕ) (bs : List Block)
      → block (placed_one ph s columns memo k).dg (column_dg s m (column_of ph rs.table s size columns memo n k) next)
      ∷ block (cg_of (placed_one ph s columns memo k)) (column_cg s m (column_of ph rs.table s size columns memo n k))
      ∷ block (cn_of (placed_one ph s columns memo k)) (column_cn s m ats (column_of ph rs.table s size columns memo n k)) ∷ (column_d_ls (column_of ph rs.table s size columns memo n k) ++ bs)
      ≡ column_parts s m ats (column_of ph rs.table s size columns memo n k) next ++ bs
  unfolding column_parts column_of placed_one column_in
  parts_open next bs = refl

-- of what is chosen the blocks take the table alone
pub by_table : (rs : Rules) (s : List ℕ) (size : ℕ) (m : List Copy) (ats : List Attachment) (all ps : List Placed)
    → structure_blocks (on_table rs.table) s size m ats all ps ≡ structure_blocks rs s size m ats all ps
unfolding structure_blocks cn_bytes
by_table rs s size m ats all [] = refl
by_table rs s size m ats all (p ∷ ps) = rw (by_table rs s size m ats all ps)

-- one column's blocks, then the others'
pub structure_cons : (ph : Bool) (rs : Rules) (s : List ℕ) (size : ℕ) (m : List Copy) (ats : List Attachment) (columns memo : List ℕ) (n k j : ℕ) → k + suc j ≡ n
    → structure_blocks rs s size m ats (placed_in ph s columns memo 0 n) (placed_in ph s columns memo k (suc j))
    ≡ column_parts s m ats (column_of ph rs.table s size columns memo n k) (next_place memo n k)
    ++ structure_blocks rs s size m ats (placed_in ph s columns memo 0 n) (placed_in ph s columns memo (k + 1) j)
unfolding structure_blocks
structure_cons ph rs s size m ats columns memo n k j e =
    ap (structure_blocks rs s size m ats (placed_in ph s columns memo 0 n)) (placed_cons ph s columns memo k j)
    ∙ rw (
      dg-same ph rs s size m ats columns memo n k (next_in ph s columns memo n k j e),
      cg-same ph rs s size m ats columns memo n k,
      cn-same ph rs s size m ats columns memo n k,
      dl-same ph rs s size m ats columns memo n k,
    ) (parts_open ph rs s size m ats columns memo n k (next_place memo n k) _)

-- ---- room, by the order of blocks
dl-none : (n : ℕ) → n ≡ 0 → dl_size n ≡ 0
unfolding dl_size
dl-none n h = sym (eq_yes n 0 _ _ h refl)

some_end : (a e : ℕ) (bs : List ℕ) → Ordered a (block a bs ∷ []) e → a + length bs ≤ e
unfolding Ordered
some_end a e bs o = o.1

none_end : (a e : ℕ) → Ordered a [] e → a ≤ e
unfolding Ordered
none_end a e o = o

dls_end : (h : PlacedColumn) (e : ℕ) → Ordered (h.cn + cn_length h) (column_d_ls h) e → h.cn + cn_length h + dl_size h.blocks ≤ e
unfolding column_d_ls
dls_end h e =
    on_eq (λ (bs : List Block). Ordered (h.cn + cn_length h) bs e → h.cn + cn_length h + dl_size h.blocks ≤ e) h.blocks 0 _ _
    (λ z o. omega (arith, none_end _ _ o, dl-none h.blocks z))
    (λ z o. omega (arith, some_end _ _ (column_dl h) o, length-column_dl h, dl-some h.blocks z))

parts_room : (s : List ℕ) (memo : List Copy) (ats : List Attachment) (h : PlacedColumn) (a e next : ℕ) → Ordered a (column_parts s memo ats h next) e
    → h.cn ≡ h.dg + 64 + cg_length h.remote → data_at s h.group + 32 ≤ length s → data_at s h.channel + 72 ≤ length s → Room s h a e
unfolding column_parts Ordered
parts_room s memo ats h a e next o q g c =
    record {
      begins = o.0;
      cn = q;
      ends = dls_end h e (rw (length-column_cn s memo ats h c) at o.1.1.1);
      group = g;
      channel = c;
    }

module _ (ph : Bool) (rs : Rules) (s : List ℕ) (size : ℕ) (m : List Copy) (ats : List Attachment) (columns memo : List ℕ) (n : ℕ) where
  -- column number k has room
  pub room_of : (k j a e : ℕ) → k + suc j ≡ n → InImage s (column_in ph s columns (8 * k))
      → Ordered a (structure_blocks rs s size m ats (placed_in ph s columns memo 0 n) (placed_in ph s columns memo k (suc j))) e
      → Room s (column_of ph rs.table s size columns memo n k) a e
  unfolding column_of column_in
  room_of k j a e q i o =
      let t : Ordered a (column_parts s m ats (column_of ph rs.table s size columns memo n k) (next_place memo n k)
      ++ structure_blocks rs s size m ats (placed_in ph s columns memo 0 n) (placed_in ph s columns memo (k + 1) j)) e =
      rw (structure_cons ph rs s size m ats columns memo n k j q) at o in
      parts_room s m ats (column_of ph rs.table s size columns memo n k) a e (next_place memo n k)
      (ordered-first a (column_parts s m ats (column_of ph rs.table s size columns memo n k) (next_place memo n k)) _ e t)
      (ap (λ (x : ℕ). slice_index memo (placed_at + 3 * k) + 64 + x) (size_master (master_in (slice_index columns (8 * k + 5))))) i.group i.channel

ordered-here : (a e : ℕ) (b : Block) (bs : List Block) → Ordered a (b ∷ bs) e → b.at ≤ e
unfolding Ordered
ordered-here a e b bs o = let r = ordered_end (b.at + length b.bytes) bs e o.1 in omega (arith, r.0, r.1)

ordered-next : (a e : ℕ) (b : Block) (bs : List Block) → Ordered a (b ∷ bs) e → Ordered (b.at + length b.bytes) bs e
unfolding Ordered
ordered-next a e b bs o = o.1

-- every column's DG lies before the end
dg_in : (ph : Bool) (rs : Rules) (s : List ℕ) (size : ℕ) (m : List Copy) (ats : List Attachment) (all : List Placed) (columns memo : List ℕ) (k n i a e : ℕ)
    → Ordered a (structure_blocks rs s size m ats all (placed_in ph s columns memo k n)) e → i < n → slice_index memo (placed_at + 3 * (k + i)) ≤ e
unfolding structure_blocks placed_in placed_one
dg_in ph rs s size m ats all columns memo k zero i a e o h = absurd (omega arith)
dg_in ph rs s size m ats all columns memo k (suc n) zero a e o h = rw add-zero (ordered-here a e _ _ o)
dg_in ph rs s size m ats all columns memo k (suc n) (suc i) a e o h =
    let q : k + suc i ≡ k + 1 + i = omega arith in
    let x = ordered-next _ e _ _ (ordered-next _ e _ _ (ordered-next a e _ _ o)) in
    rw q (dg_in ph rs s size m ats all columns memo (k + 1) n i _ e (ordered_back _ (dl_blocks s size (placed_one ph s columns memo k)) _ e x) (omega arith))

pub near_ready : {ph : Bool} {rs : Rules} {s : List ℕ} {size : ℕ} {columns memo : List ℕ} {ats : List Attachment} {n used a e : ℕ} → StructureReady ph rs s size columns memo ats n used a e
    → e < 9223372036854775808 → Near memo n
near_ready {ph} {rs} {s} {size} {columns} {memo} {ats} {n} {used} {a} {e} q h =
    record {
      few = q.few;
      long = q.placed;
      below = λ i l.
          let x : slice_index_or memo (placed_at + 3 * i) 0 ≤ e =
          rw zero-add at (dg_in ph rs s size (copies_in memo used) ats (placed_in ph s columns memo 0 n) columns memo 0 n i a e q.ordered l) in
          omega (arith, x, h);
    }

-- ---- all columns, the first of which is number k, are left to be written; written, they give what all give
pub record Structures (ph : Bool) (rs : Rules) (s : List ℕ) (size : ℕ) (columns memo : List ℕ) (ats : List Attachment) (n used a : ℕ) (out₀ : List ℕ) (k to : ℕ) (out : List ℕ) : Type 0 where
  pub few : k ≤ n
  pub same : length out ≡ length out₀
  pub ordered : Ordered to (structure_blocks rs s size (copies_in memo used) ats (placed_in ph s columns memo 0 n) (placed_in ph s columns memo k (n - k))) (length out)
  pub rest : (r : ℕ) (last : List ℕ)
      → Wrote to (structure_blocks rs s size (copies_in memo used) ats (placed_in ph s columns memo 0 n) (placed_in ph s columns memo k (n - k))) r out last
      → Wrote a (structure_blocks rs s size (copies_in memo used) ats (placed_in ph s columns memo 0 n) (placed_in ph s columns memo 0 n)) r out₀ last

module _ {ph : Bool} {rs : Rules} {s : List ℕ} {size : ℕ} {columns memo : List ℕ} {ats : List Attachment} {n used a : ℕ} {out₀ : List ℕ} where
  pub structures_begin : StructureReady ph rs s size columns memo ats n used a (length out₀) → Structures ph rs s size columns memo ats n used a out₀ 0 a out₀
  structures_begin q =
      record { few = omega arith; same = refl; ordered = rw sub-zero q.ordered; rest = λ r last w. rw sub-zero at w }

  pub structures_end_lem : {k to : ℕ} {out : List ℕ} → Structures ph rs s size columns memo ats n used a out₀ k to out → n ≤ k
      → Wrote a (structure_blocks rs s size (copies_in memo used) ats (placed_in ph s columns memo 0 n) (placed_in ph s columns memo 0 n)) to out₀ out
  unfolding placed_in structure_blocks
  structures_end_lem {k} {to} {out} t h =
      let e : n - k ≡ 0 = omega arith in
      t.rest to out (rw e (wrote_none to out))

  pub structures_room : {k to : ℕ} {out : List ℕ} {e : ℕ} → StructureReady ph rs s size columns memo ats n used a e
      → Structures ph rs s size columns memo ats n used a out₀ k to out → k < n → Room s (column_of ph rs.table s size columns memo n k) to (length out)
  structures_room {k} {to} {out} q t h =
      let e : n - k ≡ suc (n - (k + 1)) = omega arith in
      room_of ph rs s size (copies_in memo used) ats columns memo n k (n - (k + 1)) to (length out) (omega arith) (q.seen k h) (rw e at t.ordered)

  pub structures_turn : {k to r next : ℕ} {h : PlacedColumn} {out last : List ℕ} → Structures ph rs s size columns memo ats n used a out₀ k to out → k < n
      → h ≡ column_of ph rs.table s size columns memo n k → next ≡ next_place memo n k
      → Wrote to (column_parts s (copies_in memo used) ats h next) r out last → length last ≡ length out
      → Structures ph rs s size columns memo ats n used a out₀ (k + 1) r last
  structures_turn {k} {to} {r} {out = out} {last = last} t h c x v l =
      let w : Wrote to (column_parts s (copies_in memo used) ats (column_of ph rs.table s size columns memo n k) (next_place memo n k)) r out last = rw (c, x) at v in
      let m : List Copy = copies_in memo used in
      let all : List Placed = placed_in ph s columns memo 0 n in
      let e : n - k ≡ suc (n - (k + 1)) = omega arith in
      let parts : List Block = column_parts s m ats (column_of ph rs.table s size columns memo n k) (next_place memo n k) in
      let later : List Block = structure_blocks rs s size m ats all (placed_in ph s columns memo (k + 1) (n - (k + 1))) in
      let whole : structure_blocks rs s size m ats all (placed_in ph s columns memo k (n - k)) ≡ parts ++ later =
      rw e (structure_cons ph rs s size m ats columns memo n k (n - (k + 1)) (omega arith)) in
      let o : Ordered to (parts ++ later) (length out) = rw whole at t.ordered in
      record {
        few = omega arith;
        same = l ∙ t.same;
        ordered = rw (w.end, l) (ordered_back to parts later (length out) o);
        rest = λ y fin u. t.rest y fin (rw whole (wrote_append (length out) w u o));
      }
