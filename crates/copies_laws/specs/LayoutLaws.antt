-- What is known of an accepted layout: its parts, the order of its blocks, and how far they reach.
use Prim.{Unit}
use Rattle.std.specs.Prelude.{ℕ, ◌+◌, ◌*◌, ◌≤◌, List, [], ◌≡◌, refl, length, drop}
use Rattle.std.proofs.Common.{sym, ap, subst, le_refl, mul-le-mul_right, arith, length-append}
use Rattle.base.specs.Checked.{ok}
use Rattle.mdf.specs.Block.{link_at}
use Rattle.plan.specs.Columns.{Column}
use Rattle.plan.specs.Data.{blocks_in}
use Rattle.plan.specs.Geometry.{align8}
use Rattle.plan.specs.Copies.{Copy, copies, most_copies, Attachment, copy_root, history_of, column_copies, attachments_of}
use Rattle.plan.specs.Rules.{Rules}
use Rattle.plan.specs.Layout.{Placed, placed_from, structure_end, data_end, md_size, Layout, past_copies, fh_place, layout}
use Rattle.result.specs.Fill.{copied_blocks, structure_blocks, data_blocks, attachment_blocks}
use Rattle.result.specs.Ordered.{Ordered}
use Rattle.result.specs.Result.{Args, rules_of, memo_of, hd_block, blocks_of}
use Rattle.result.specs.Guarantee.{In, columns_placed}
use Rattle.copies_laws.specs.AnswerLaws.{ok_same, then_ok}
use Rattle.copies_laws.specs.Laid.{Laid, align_past, align_near, Grown, grown_new, grown_then}
use Rattle.copies_laws.specs.CopyLaws.{root_grown, past_grown, columns_grown}
use Rattle.copies_laws.specs.AttachLaws.{own_copies, AllAttached, all_attached}
use Rattle.copies_laws.specs.LengthLaws.{length_md, length_fh, length-hd, InImage}
use Rattle.copies_laws.specs.OrderLaws.{ordered-to, ordered-append, ordered_cons, copied-ordered, attached_ordered, structure-ordered, placed-columns}
use Rattle.copies_laws.specs.PlacedLaws.{FewPhotos, structures_near, Within, placed-within}

-- the parts of a layout, for n bytes of history text
pub record LaidOut (r : Rules) (s : List ℕ) (size n : ℕ) (cs : List Column) (l : Layout) : Type 0 where
  pub comment : copy_root most_copies s (link_at s 64 5) (copies [] 168) ≡ ok l.comment
  pub past : history_of most_copies s (link_at s 64 1) l.comment ≡ ok l.past
  pub md : l.md ≡ align8 l.past.made.next
  pub fh : l.fh ≡ l.md + md_size n
  pub metadata : column_copies most_copies s cs (copies l.past.made.memo (l.fh + 56)) ≡ ok l.metadata
  pub metadata_end_lem : l.metadata_end_lem ≡ structure_end s size (past_copies l.metadata) cs
  pub placed : l.placed ≡ placed_from r s size (past_copies l.metadata) l.metadata_end_lem cs
  pub attached : attachments_of most_copies s (link_at s 64 3) (copies l.metadata.memo (data_end r s size l.metadata_end_lem cs)) ≡ ok l.attached
  pub file_size_lem : l.file_size_lem ≡ l.attached.made.next

pub laid_out_lem : (r : Rules) (s : List ℕ) (size n : ℕ) (cs : List Column) (l : Layout) → layout r s size n cs ≡ ok l → LaidOut r s size n cs l
unfolding layout past_copies fh_place
laid_out_lem r s size n cs l e =
    let a = then_ok (copy_root most_copies s (link_at s 64 5) (copies [] 168)) _ e in
    let b = then_ok (history_of most_copies s (link_at s 64 1) a.0) _ a.2 in
    let c = then_ok (column_copies most_copies s cs (copies b.0.made.memo (fh_place b.0.made n + 56))) _ b.2 in
    let e1 : ℕ = data_end r s size (structure_end s size (past_copies c.0) cs) cs in
    let d = then_ok (attachments_of most_copies s (link_at s 64 3) (copies c.0.memo e1)) _ c.2 in
    rw (← ok_same d.2) (record {
      comment = a.1;
      past = b.1;
      md = refl;
      fh = refl;
      metadata = c.1;
      metadata_end_lem = refl;
      placed = refl;
      attached = d.1;
      file_size_lem = refl;
    })

pub md_near : (n : ℕ) → md_size n ≤ n + 32
unfolding md_size align8
md_near n = omega arith

module _ {r : Rules} {s : List ℕ} {size n : ℕ} {cs : List Column} {l : Layout} (o : LaidOut r s size n cs l) where
  -- ---- copies: those of the HD comment and the history, then those of the columns
  pub history-from-start : Grown most_copies s 0 (copies [] 168) l.past.made
  history-from-start = grown_then (root_grown s _ _ _ o.comment) (past_grown s _ _ _ o.past)

  pub history-laid : Laid s 168 l.past.made.memo l.past.made.next
  history-laid = grown_new history-from-start

  pub columns-after-history : Grown most_copies s 0 (copies l.past.made.memo (l.fh + 56)) l.metadata
  columns-after-history = columns_grown s cs _ _ o.metadata

  pub columns-laid : Laid s (l.fh + 56) (drop (length l.past.made.memo) l.metadata.memo) l.metadata.next
  columns-laid = grown_new columns-after-history

  pub attachments-laid : AllAttached most_copies s (copies l.metadata.memo (data_end r s size l.metadata_end_lem cs)) l.attached
  attachments-laid = all_attached s _ _ _ o.attached

  -- "2,048 copied blocks", with those of attachments
  pub few-copies : length l.metadata.memo ≤ 2048
  few-copies =
      let g = history-from-start in
      let h = columns-after-history in
      let p : length l.past.made.memo + 0 ≤ 2048 = g.few (omega arith) in
      let q : length l.metadata.memo + 0 ≤ 2048 = h.few p in
      omega arith

  pub few_in_all : length l.attached.made.memo ≤ 2048
  few_in_all = attachments-laid.few few-copies

  -- ---- order
  module _ (chain : List ℕ) (memo : List Copy) (fh : ℕ) where
    pub history-ordered : Ordered 168 (copied_blocks s chain memo fh l.past.made.memo) l.md
    history-ordered =
        let h : l.past.made.next ≤ l.md = omega (arith, align_past l.past.made.next, o.md) in
        ordered-to 168 l.past.made.next l.md _ (copied-ordered s chain memo fh 168 _ l.past.made.memo history-laid) h

    pub columns-ordered :
        Ordered (l.fh + 56) (copied_blocks s chain memo fh (drop (length l.past.made.memo) l.metadata.memo)) (past_copies l.metadata)
    unfolding past_copies
    columns-ordered =
        ordered-to _ l.metadata.next _ _
        (copied-ordered s chain memo fh _ _ (drop (length l.past.made.memo) l.metadata.memo) columns-laid)
        (align_past l.metadata.next)

    pub attachments-ordered :
        Ordered (data_end r s size l.metadata_end_lem cs) (attachment_blocks s chain memo fh l.attached.attachments) l.file_size_lem
    attachments-ordered = rw o.file_size_lem (attached_ordered s chain memo fh _ _ l.attached.attachments attachments-laid.laid)

  -- "Then per column DG 64, CG 104 (112 with a master), CN 160", DL
  pub structures_ordered : (memo : List Copy) (ats : List Attachment) (all : List Placed) → ((c : Column) → In c cs → InImage s c)
      → Ordered (past_copies l.metadata) (structure_blocks r s size memo ats all l.placed) l.metadata_end_lem
  structures_ordered memo ats all f =
      rw (o.placed, o.metadata_end_lem) (structure-ordered r s size memo ats all (past_copies l.metadata) _ cs f)

  -- the columns planned are those placed
  pub columns-placed : columns_placed l.placed ≡ cs
  columns-placed = rw o.placed (placed-columns r s size _ _ cs)

  -- ---- bounds

  -- 2,048 copies of 268,435,456 bytes, 7 bytes before each; MD, FH and what is lost to multiples of 8
  pub metadata_near : l.metadata.next ≤ 549755828487 + n
  metadata_near =
      let g = history-from-start in
      let h = columns-after-history in
      let k : length h.new + length l.past.made.memo ≤ 2048 = omega (arith, few-copies, simp length-append at (ap length h.memo)) in
      let j : length l.past.made.memo ≡ length g.new = ap length g.memo in
      omega (arith, g.near, h.near, o.md, o.fh, align_near l.past.made.next, md_near n)

  -- past the columns' DG, CG, CN and DL, under the limit of blocks
  pub metadata_end_near : {u : Unit {0}} → blocks_in s size cs ≡ ok u → FewPhotos cs → l.metadata_end_lem ≤ 549755828494 + n + length cs * 34628174200
  unfolding past_copies
  metadata_end_near b f =
      omega (arith, o.metadata_end_lem, metadata_near, align_near l.metadata.next, structures_near s size (past_copies l.metadata) cs b f)

  -- every column's DG, CG, CN and DL stand between the metadata and its end
  pub columns-within : {p : Placed} → In p l.placed → Within s size (past_copies l.metadata) l.metadata_end_lem p
  columns-within {p} i =
      subst (λ (e : ℕ). Within s size (past_copies l.metadata) e p) (sym o.metadata_end_lem)
      (placed-within r s size (past_copies l.metadata) l.metadata_end_lem cs (subst (In p) o.placed i))

  -- the end of the file: past the data of columns, at most 2,048 copies and 64 attachments that stand in the image
  pub file_near : l.file_size_lem ≤ data_end r s size l.metadata_end_lem cs + 549755828224 + 64 * (length s + 14)
  file_near =
      let t = attachments-laid in
      let k : length (own_copies l.attached.attachments) ≤ 2048 = omega (arith, few_in_all, simp length-append at (ap length t.memo)) in
      let j : length l.attached.attachments * (length s + 14) ≤ 64 * (length s + 14) = mul-le-mul_right (length s + 14) t.most in
      omega (arith, t.near, o.file_size_lem)

-- ---- all blocks, where those with the columns' data stand in order
pub blocks-ordered : (x : Args) (cs : List Column) (l : Layout) → LaidOut (rules_of x) x.image x.block_size (length x.text) cs l
    → length x.ident ≡ 64 → ((c : Column) → In c cs → InImage x.image c)
    → Ordered l.metadata_end_lem (data_blocks x.image x.block_size l.placed) (data_end (rules_of x) x.image x.block_size l.metadata_end_lem cs)
    → Ordered 0 (blocks_of x l) l.file_size_lem
unfolding blocks_of hd_block
blocks-ordered x cs l o i f d =
    ordered_cons 0 64 _ _ _ (le_refl 0) i
    (ordered_cons 64 104 _ _ _ (le_refl 64) (length-hd x.image _ _ _ _)
    (ordered-append 168 l.md _ _ _ (history-ordered o l.past.chain (memo_of l) l.fh)
    (ordered_cons l.md (md_size (length x.text)) _ _ _ (le_refl _) (length_md x.text)
    (ordered_cons _ 56 _ _ _ (omega (arith, o.fh)) (length_fh l.md x.time)
    (ordered-append (l.fh + 56) _ _ _ _ (columns-ordered o l.past.chain (memo_of l) l.fh)
    (ordered-append _ l.metadata_end_lem _ _ _ (structures_ordered o (memo_of l) l.attached.attachments l.placed f)
    (ordered-append l.metadata_end_lem _ _ _ _ d (attachments-ordered o l.past.chain (memo_of l) l.fh))))))))
