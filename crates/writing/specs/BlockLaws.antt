-- Laws of one block of a column: zeros up to its place, then what was laid over the rest.
use Rattle.std.specs.Prelude.{◌≡◌, ℕ, zero, suc, ◌+◌, ◌-◌, ◌*◌, ◌/◌, ◌^◌, ◌<◌, ◌≤◌, max, Bool, true, false, List, [], ◌∷◌, ◌++◌, length, replicate, ◌≢◌, nat_le, slice_index, slice_index_or}
use Rattle.std.proofs.Math.Option.{Option, none, some}
use Rattle.std.proofs.Common.{⊎_elim, subst, ◌∙◌, add-zero, zero-add, le_trans, mul-le-mul_right, div-le_self, div-mul-le_self, length-append, leb-true}
use Rattle.std.proofs.Math.Path.{refl, sym, ap}
use Rattle.std.proofs.Math.Nat.{sub-zero, le_refl, max-eq_left, max-eq_right}
use native.Mathlib.Omega.{arith}
use borrow.Rule.Slice.PartMut.{put_mid, mid_of}
use Rattle.base.specs.Choice.{pick, if_lt, if_le, if_eq}
use Rattle.base.specs.ChoiceLaws.{lt_yes, lt_no, eq_yes, eq_no}
use Rattle.base.specs.FieldLaws.{length-le}
use Rattle.base.specs.Blit.{blit}
use Rattle.base.specs.BlitLaws.{length_part, blit-append}
use Rattle.shown_laws.specs.Header.{length-words}
use Rattle.shown_laws.specs.Shapes.{length_photos}
use Rattle.mdf.specs.Block.{link_at, data_at}
use Rattle.plan.specs.Rules.{Rules}
use Rattle.plan.specs.Table.{treatment}
use Rattle.plan.specs.Channel.{channel_type, channel_bytes, keeps_inval, width}
use Rattle.plan.specs.Photos.{photo_count, links_from, references, photos_of}
use Rattle.plan.specs.PhotosLaws.{length-links_from}
use Rattle.plan.specs.Copies.{Copy, copy_of, Attachment}
use Rattle.work_words.specs.CopyWords.{placed_at}
use Rattle.plan.specs.Geometry.{power_in, step_of, per_block, per_full, block_count, block_payload}
use Rattle.plan.specs.Layout.{column_width, column_blocks, cg_size, cn_size, dl_size, Placed, cg_of, cn_of}
use Rattle.result.specs.Fill.{
  Block,
  block,
  or_zero,
  new_link,
  stored_type,
  sd_link,
  next_dg,
  cg_at,
  dg_bytes,
  cg_bytes,
  cn_bytes,
  dl_blocks,
  column_payload,
  words,
  photo_links,
  structure_blocks,
}
use Rattle.result.specs.Ordered.{Ordered}
use Rattle.copies_laws.specs.AnswerLaws.{on_eq}
use Rattle.copies_laws.specs.LengthLaws.{InImage, length-header, length-block_links}
use Rattle.filling.specs.Blocks.{dg_from, cg_header, cg_front, cg_counts, cg_data_from, cg_from, cn_links, cn_front, cn_types, cn_rest, cn_data_from, dl_from}
use Rattle.filling.specs.FillLaws.{has_master, master_cg, dg-from, cg-from, cn-from, dl-from}
use Rattle.copier.specs.Answer.{link_of}
use Rattle.copier.specs.Standing.{copies_in}
use Rattle.puts.specs.PutLaws.{lent_is}
use Rattle.writing.specs.declared.placed.PlacedColumn.{PlacedColumn}
use Rattle.records.specs.FragmentLaws.{lt_or_le}
use Rattle.writing.specs.PlacedIn.{master_in, signal_in, column_in, placed_one, placed_in}
use Rattle.writing.specs.Structure.{
  master_place,
  next_place,
  column_of,
  Near,
  column_dg,
  cn_length,
  column_cg,
  column_front,
  column_photos,
  column_data,
  column_cn,
  column_dl,
  column_d_ls,
  column_parts,
  cg_length,
  Room,
  StructureReady,
  on_table,
}
use Rattle.write_copies.specs.Wrote.{end_of, Wrote}
use Rattle.write_copies.specs.WroteLaws.{ordered_end, ordered_back, ordered-first, wrote_none, wrote_block, wrote_append}
use Rattle.writing.specs.StructureLaws.{length-column_cg, length-column_cn, length-column_dg, length-column_dl}

-- ---- one block: zeros up to its place, then what was laid over the rest
pub wrote_at : (a to r : ℕ) (bs out mid ys : List ℕ) → a ≤ to → r ≡ to + length bs → mid ≡ blit a (replicate (to - a) 0) out
    → ys ≡ blit 0 bs (mid_of to (length mid - to) mid) → Wrote a (block to bs ∷ []) r out (put_mid to (length mid - to) mid ys)
wrote_at a to r bs out mid ys h l g e =
    rw l (wrote_block (block to bs) h (lent_is to bs mid ys e ∙ ap (blit to bs) g))

module _ (s : List ℕ) (m : List Copy) (h : PlacedColumn) (a : ℕ) (out mid ys : List ℕ) where
  pub wrote_dg : (next : ℕ) → mid ≡ blit a (replicate (h.dg - a) 0) out
      → ys ≡ blit 0 (column_dg s m h next) (mid_of h.dg (length mid - h.dg) mid) → a ≤ h.dg
      → Wrote a (block h.dg (column_dg s m h next) ∷ []) (h.dg + 64) out (put_mid h.dg (length mid - h.dg) mid ys)
  wrote_dg next g e l = wrote_at a h.dg (h.dg + 64) (column_dg s m h next) out mid ys l (rw (length-column_dg s m h next)) g e

  pub wrote_cg : mid ≡ blit a (replicate (h.dg + 64 - a) 0) out
      → ys ≡ blit 0 (column_cg s m h) (mid_of (h.dg + 64) (length mid - (h.dg + 64)) mid) → a ≤ h.dg + 64
      → h.cn ≡ h.dg + 64 + cg_length h.remote → data_at s h.group + 32 ≤ length s
      → Wrote a (block (h.dg + 64) (column_cg s m h) ∷ []) h.cn out (put_mid (h.dg + 64) (length mid - (h.dg + 64)) mid ys)
  wrote_cg g e l q i = wrote_at a (h.dg + 64) h.cn (column_cg s m h) out mid ys l (q ∙ rw (length-column_cg s m h i)) g e

  pub wrote_cn : (ats : List Attachment) → mid ≡ blit a (replicate (h.cn - a) 0) out
      → ys ≡ blit 0 (column_cn s m ats h) (mid_of h.cn (length mid - h.cn) mid) → a ≤ h.cn → data_at s h.channel + 72 ≤ length s
      → Wrote a (block h.cn (column_cn s m ats h) ∷ []) (h.cn + cn_length h) out (put_mid h.cn (length mid - h.cn) mid ys)
  wrote_cn ats g e l i = wrote_at a h.cn (h.cn + cn_length h) (column_cn s m ats h) out mid ys l (rw (length-column_cn s m ats h i)) g e

pub wrote_dl : (h : PlacedColumn) (a : ℕ) (out mid ys : List ℕ) → mid ≡ blit a (replicate (h.cn + cn_length h - a) 0) out
    → ys ≡ blit 0 (dl_from h.payload h.blocks h.first) (mid_of (h.cn + cn_length h) (length mid - (h.cn + cn_length h)) mid) → a ≤ h.cn + cn_length h
    → (h.blocks ≢ 0)
    → Wrote a (column_d_ls h) (h.cn + cn_length h + (48 + 8 * h.blocks)) out (put_mid (h.cn + cn_length h) (length mid - (h.cn + cn_length h)) mid ys)
unfolding column_d_ls column_dl
wrote_dl h a out mid ys g e l z =
    subst (λ (bs : List Block). Wrote a bs (h.cn + cn_length h + (48 + 8 * h.blocks)) out (put_mid (h.cn + cn_length h) (length mid - (h.cn + cn_length h)) mid ys))
    (eq_no h.blocks 0 _ _ z refl)
    (wrote_at a (h.cn + cn_length h) _ (column_dl h) out mid ys l (rw (length-column_dl h)) g e)

pub wrote_no_dl : (a : ℕ) (h : PlacedColumn) (out : List ℕ) → h.blocks ≡ 0 → Wrote a (column_d_ls h) a out out
unfolding column_d_ls
wrote_no_dl a h out z = subst (λ (bs : List Block). Wrote a bs a out out) (eq_yes h.blocks 0 _ _ z refl) (wrote_none a out)
