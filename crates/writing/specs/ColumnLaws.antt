-- Laws of a column's numbers: they fit, and they are the definitions'.
use Rattle.std.specs.Prelude.{◌≡◌, ℕ, zero, suc, ◌+◌, ◌-◌, ◌*◌, ◌/◌, ◌^◌, ◌<◌, ◌≤◌, max, Bool, true, false, List, [], ◌∷◌, ◌++◌, length, replicate, ◌≢◌, nat_le, slice_index, slice_index_or}
use Rattle.std.proofs.Math.Option.{Option, none, some}
use Rattle.std.proofs.Common.{⊎_elim, subst, ◌∙◌, add-zero, zero-add, le_trans, mul-le-mul_right, div-le_self, div-mul-le_self, length-append, leb-true}
use Rattle.std.proofs.Math.Path.{refl, sym, ap}
use Rattle.std.proofs.Math.Nat.{sub-zero, le_refl, max-eq_left, max-eq_right}
use native.Mathlib.Omega.{arith}
use borrow.Rule.Slice.PartMut.{put_mid, mid_of}
use Rattle.base.specs.Choice.{pick, if_lt, if_le, if_eq}
use Rattle.base.specs.ChoiceLaws.{lt_yes, lt_no, eq_yes, eq_no}
use Rattle.base.specs.FieldLaws.{length-le}
use Rattle.base.specs.Blit.{blit}
use Rattle.base.specs.BlitLaws.{length_part, blit-append}
use Rattle.shown_laws.specs.Header.{length-words}
use Rattle.shown_laws.specs.Shapes.{length_photos}
use Rattle.mdf.specs.Block.{link_at, data_at}
use Rattle.plan.specs.Rules.{Rules}
use Rattle.plan.specs.Table.{treatment}
use Rattle.plan.specs.Channel.{channel_type, channel_bytes, keeps_inval, width}
use Rattle.plan.specs.Photos.{photo_count, links_from, references, photos_of}
use Rattle.plan.specs.PhotosLaws.{length-links_from}
use Rattle.plan.specs.Copies.{Copy, copy_of, Attachment}
use Rattle.work_words.specs.CopyWords.{placed_at}
use Rattle.plan.specs.Geometry.{power_in, step_of, per_block, per_full, block_count, block_payload}
use Rattle.plan.specs.Layout.{column_width, column_blocks, cg_size, cn_size, dl_size, Placed, cg_of, cn_of}
use Rattle.result.specs.Fill.{
  Block,
  block,
  or_zero,
  new_link,
  stored_type,
  sd_link,
  next_dg,
  cg_at,
  dg_bytes,
  cg_bytes,
  cn_bytes,
  dl_blocks,
  column_payload,
  words,
  photo_links,
  structure_blocks,
}
use Rattle.result.specs.Ordered.{Ordered}
use Rattle.copies_laws.specs.AnswerLaws.{on_eq}
use Rattle.copies_laws.specs.LengthLaws.{InImage, length-header, length-block_links}
use Rattle.filling.specs.Blocks.{dg_from, cg_header, cg_front, cg_counts, cg_data_from, cg_from, cn_links, cn_front, cn_types, cn_rest, cn_data_from, dl_from}
use Rattle.filling.specs.FillLaws.{has_master, master_cg, dg-from, cg-from, cn-from, dl-from}
use Rattle.copier.specs.Answer.{link_of}
use Rattle.copier.specs.Standing.{copies_in}
use Rattle.puts.specs.PutLaws.{lent_is}
use Rattle.writing.specs.declared.placed.PlacedColumn.{PlacedColumn}
use Rattle.records.specs.FragmentLaws.{lt_or_le}
use Rattle.writing.specs.PlacedIn.{master_in, signal_in, column_in, placed_one, placed_in}
use Rattle.writing.specs.Structure.{
  master_place,
  next_place,
  column_of,
  Near,
  column_dg,
  cn_length,
  column_cg,
  column_front,
  column_photos,
  column_data,
  column_cn,
  column_dl,
  column_d_ls,
  column_parts,
  cg_length,
  Room,
  StructureReady,
  on_table,
}
use Rattle.write_copies.specs.Wrote.{end_of, Wrote}
use Rattle.write_copies.specs.WroteLaws.{ordered_end, ordered_back, ordered-first, wrote_none, wrote_block, wrote_append}

-- no place is far
pub not_far : {A : Type 0} {memo : List ℕ} {n m : ℕ} → Near memo n → m < n → 9223372036854775808 ≤ slice_index memo (placed_at + 3 * m) → A
not_far {m = m} q h l = let b = q.below m h in absurd (omega arith)

-- the master's CG
module _ (memo : List ℕ) (n : ℕ) where
  pub place_no : (w : ℕ) → w ≡ 0 → 0 ≡ master_place memo n w
  unfolding master_place
  place_no w e = rw e

  pub place_past : (w : ℕ) → (w ≢ 0) → n ≤ w - 1 → 0 ≡ master_place memo n w
  unfolding master_place
  place_past zero h l = absurd (h refl)
  place_past (suc m) h l = lt_no m n _ _ (omega arith) refl

  pub place_yes : (w : ℕ) → (w ≢ 0) → w - 1 < n → slice_index memo (placed_at + 3 * (w - 1)) + 64 ≡ master_place memo n w
  unfolding master_place
  place_yes zero h l = absurd (h refl)
  place_yes (suc m) h l =
      let e : suc m - 1 ≡ m = omega arith in
      lt_yes m n _ _ (omega arith) (rw e)

-- the length of a CG by whether it has a master
-- ---- the payload of a block fits 64 bits
full_le : (size w n : ℕ) → per_full size w n ≤ per_block size w
unfolding per_full if_le
full_le size w n = go (nat_le n (per_block size w)) refl
  where
    go : (t : Bool) → nat_le n (per_block size w) ≡ t → pick t n (per_block size w) ≤ per_block size w
    go true q = leb-true n (per_block size w) q
    go false q = le_refl _

step_near : (w : ℕ) → step_of w ≤ 8
unfolding step_of
step_near w = div-le_self 8 (power_in w)

fit_near : (size w step : ℕ) → size / w / step * step * w ≤ size
fit_near size w step = le_trans (mul-le-mul_right w (div-mul-le_self (size / w) step)) (div-mul-le_self size w)

per_near : (size w : ℕ) → size < 2 ^ 64 → w < 256 ^ 5 → per_block size w * w < 2 ^ 64
unfolding per_block
per_near size w h k =
    ⊎_elim
    (λ l.
    let q : max (step_of w) (size / w / step_of w * step_of w) ≡ step_of w = max-eq_left (omega arith) in
    rw q (omega (arith, mul-le-mul_right w (step_near w))))
    (λ l.
    let q : max (step_of w) (size / w / step_of w * step_of w) ≡ size / w / step_of w * step_of w = max-eq_right l in
    rw q (omega (arith, fit_near size w (step_of w))))
    (lt_or_le (size / w / step_of w * step_of w) (step_of w))

pub payload_near : (size w n : ℕ) {m : ℕ} → m ≡ per_full size w n → size < 2 ^ 64 → w < 256 ^ 5 → m * w < 2 ^ 64
payload_near size w n e h k = rw e (omega (arith, per_near size w h k, mul-le-mul_right w (full_le size w n)))

pub payload_is : (size w n x : ℕ) {m : ℕ} → m ≡ per_full size w n → w ≡ x → m * w ≡ block_payload size x n
unfolding block_payload
payload_is size w n x e q = rw (e, q)

-- ---- a column's numbers
pub size_near : (m : Option ℕ) → cg_size m ≤ 112
size_near none = omega arith
size_near (some m) = le_refl 112

pub cn_near : (d w : ℕ) {x : ℕ} → x ≡ cg_size (master_in w) → d + 64 + x ≤ d + 176
cn_near d w e = omega (arith, e, size_near (master_in w))

-- the stored type: t is the channel's, v its treatment
module _ (table s : List ℕ) (c : ℕ) {t v : ℕ} (e : t ≡ channel_type s c) (k : v ≡ treatment table t) where
  pub stored-zero : v ≡ 2 → 0 ≡ stored_type table (channel_type s c)
  unfolding stored_type
  stored-zero h = eq_yes _ _ _ _ (ap (treatment table) (sym e) ∙ sym k ∙ h) refl

  pub stored_same : (v ≢ 2) → t ≡ stored_type table (channel_type s c)
  unfolding stored_type
  stored_same h = eq_no _ _ _ _ (λ q. h (k ∙ ap (treatment table) e ∙ q)) e

module _ (ph : Bool) (table s : List ℕ) (size : ℕ) (columns memo : List ℕ) (n k : ℕ) where
  pub column-made : {remote : Bool} {stored master x sd blocks photos payload : ℕ} → remote ≡ has_master (master_in (slice_index columns (8 * k + 5)))
      → master ≡ master_place memo n (slice_index columns (8 * k + 5)) → x ≡ cg_size (master_in (slice_index columns (8 * k + 5)))
      → sd ≡ sd_link (signal_in (slice_index columns (8 * k + 6))) (slice_index memo (placed_at + 3 * k + 2))
      → blocks ≡ block_count size (width s (slice_index columns (8 * k + 1)) (slice_index columns (8 * k))) (slice_index columns (8 * k + 3))
      → payload ≡ block_payload size (width s (slice_index columns (8 * k + 1)) (slice_index columns (8 * k))) (slice_index columns (8 * k + 3))
      → stored ≡ stored_type table (channel_type s (slice_index columns (8 * k))) → photos ≡ length (photos_of ph s (slice_index columns (8 * k)))
      → record {
        channel = slice_index columns (8 * k);
        stored = stored;
        group = slice_index columns (8 * k + 1);
        parent = slice_index columns (8 * k + 2);
        records = slice_index columns (8 * k + 3);
        remote = remote;
        master = master;
        dg = slice_index memo (placed_at + 3 * k);
        cn = slice_index memo (placed_at + 3 * k) + 64 + x;
        first = slice_index memo (placed_at + 3 * k + 1);
        sd = sd;
        blocks = blocks;
        photos = photos;
        payload = payload;
      }
      ≡ column_of ph table s size columns memo n k
  unfolding column_of
  column-made a b c d e f g h = rw (a, b, c, d, e, f, g, h)
