-- Columns start on the unit, and fewer than its bytes lie between two blocks of a file with columns taken out (document 02, requests 5 and 13).
use Prim.Native.Nat.{ℕ, ◌+◌, ◌*◌, ◌≤◌, ◌<◌}
use mathlib.Core.List.{List, [], ◌∷◌, ◌++◌}
use Rattle.std.specs.Prelude.{◌≡◌}
use Rattle.std.proofs.Common.{subst}
use native.Mathlib.Omega.{arith}
use Rattle.std.proofs.Math.ListN.{length}
use Rattle.base.specs.BlitLaws.{length_part}
use Rattle.base.specs.Checked.{fine}
use Rattle.mdf.specs.Chain.{Fragment}
use Rattle.mdf.specs.Records.{ranges_in, size_of}
use Rattle.plan.specs.Columns.{Column}
use Rattle.plan.specs.Copies.{Copy, Attachment}
use Rattle.plan.specs.Geometry.{align8, align_to}
use Rattle.plan.specs.Layout.{
  cg_size,
  dl_size,
  Sizes,
  first_at,
  blocks_end,
  signal_at,
  signal_end,
  places_at,
  past_data,
  places_from,
  structures_end,
  places_end,
  Placed,
  cg_of,
  cn_of,
  dl_of,
  placed_at,
  with_places,
  Layout,
  past_copies,
}
use Rattle.result.specs.Fill.{Block, copied_blocks, next_dg, sd_blocks, attachment_blocks}
use Rattle.result.specs.Ordered.{Close}
use Rattle.result.specs.Result.{memo_of, hd_block}
use Rattle.result.specs.Guarantee.{In, here, there}
use Rattle.copies_laws.specs.AnswerLaws.{on_eq}
use Rattle.copies_laws.specs.Laid.{align_past, laid-to, tight_to}
use Rattle.copies_laws.specs.LengthLaws.{length-hd}
use Rattle.payload_laws.specs.UnitLaws.{IsUnit, to_is, first_some}
use Rattle.payload_laws.specs.Near.{Near}
use Rattle.payload_laws.specs.NearLaws.{near_close, eight_within, near_from, near_append, near_cons, near_none, signal_near, first-within, signal_within}
use Rattle.file_laws.specs.JoinedLaws.{ranges_cons}
use Rattle.guarantee.specs.Close.{dl-none, signal_starts, here_near, copied_near, attached_near}
use Rattle.thin.specs.Place.{blocks_of, kept_size, kept_sizes}
use Rattle.thin.specs.Fill.{kind_number, kept_lists, kept_structure, moved_blocks, kept_blocks, blocks_kept}
use Rattle.thin.specs.Guarantee.{StartsOn}
use Rattle.thin_laws.specs.LaidLaws.{placed_kept, LaidKept, copies-laid, copies_tight, attachments-laid}
use Rattle.thin_laws.specs.Inside.{Inside}
use Rattle.thin_laws.specs.LengthLaws.{length-kept_dg, length-kept_cg, length-kept_cn, length-kept_dl, length_moved}

-- ---- starts
all_start : (u : ℕ) → 0 < u → (a d : ℕ) (cs : List Column) (p : Placed) → In p (placed_kept u a d cs) → StartsOn u p
unfolding with_places places_from kept_sizes
all_start u h a d [] p x' = elim x' [ ]
all_start u h a d (c ∷ cs) p here =
    record {
      blocks = λ b. rw (← first_some u (kept_size c) d b) (to_is u d h);
      signal = λ b. signal_starts u h c.signal_of _ b;
    }
all_start u h a d (c ∷ cs) p (there i) = all_start u h (a + (kept_size c).structure) (past_data u (kept_size c) d) cs p i

pub kept-starts : {u : ℕ} {s : List ℕ} {cs : List Column} {l : Layout} → LaidKept u s cs l → IsUnit u
    → (p : Placed) → In p l.placed → StartsOn u p
kept-starts {u} {cs = cs} o i p j = all_start u (omega (arith, i.least)) _ _ cs p (subst (In p) o.placed j)

-- ---- blocks that each begin by the next multiple of the unit
module _ (u : ℕ) (i : IsUnit u) where
  list_near : (s : List ℕ) (p : Placed) → Near u (dl_of p) (kept_lists s p) (dl_of p + dl_size (blocks_of p.column))
  unfolding kept_lists
  list_near s p =
      on_eq (λ (l : List Block). Near u (dl_of p) l (dl_of p + dl_size (blocks_of p.column))) (blocks_of p.column) 0 _ _
      (λ h. near_none u i (dl_of p) _ (rw (dl-none (blocks_of p.column) h) (omega (arith, here_near u i (dl_of p)))))
      (λ h. near_cons u i (dl_of p) _ _ _ [] (here_near u i (dl_of p)) (length-kept_dl s p h) (near_none u i _ _ (here_near u i _)))

  column_near_lem : (s : List ℕ) (memo : List Copy) (ats : List Attachment) (all ps : List Placed) (p : Placed) (e : ℕ)
      → Near u (p.dg + (kept_size p.column).structure) (kept_structure s memo ats all ps) e
      → Near u p.dg (kept_structure s memo ats all (p ∷ ps)) e
  unfolding kept_structure
  column_near_lem s memo ats all ps p e o =
      let w : dl_of p + dl_size (blocks_of p.column) ≡ p.dg + (kept_size p.column).structure = omega arith in
      near_cons u i p.dg _ e _ _ (here_near u i _) (length-kept_dg s memo p (next_dg ps))
      (near_cons u i (cg_of p) (cg_size p.column.master) e _ _ (here_near u i _) (length-kept_cg s memo all p)
      (near_cons u i (cn_of p) _ e _ _ (here_near u i _) (length-kept_cn s memo ats p)
      (near_append u i (dl_of p) (dl_of p + dl_size (blocks_of p.column)) e (kept_lists s p) _ (list_near s p) (rw w o))))

  structure_near : (s : List ℕ) (memo : List Copy) (ats : List Attachment) (all : List Placed) (a d : ℕ) (cs : List Column)
      → Near u a (kept_structure s memo ats all (placed_kept u a d cs)) (structures_end a (kept_sizes cs))
  unfolding with_places places_from structures_end kept_sizes kept_structure Near
  structure_near s memo ats all a d [] = here_near u i a
  structure_near s memo ats all a d (c ∷ cs) =
      let z : Sizes = kept_size c in
      column_near_lem s memo ats all (placed_kept u (a + z.structure) (past_data u z d) cs) (placed_at c (places_at u a d z))
      (structures_end (a + z.structure) (kept_sizes cs)) (structure_near s memo ats all (a + z.structure) (past_data u z d) cs)

  moved_near : (s : List ℕ) (a e : ℕ) (fs : List Fragment) → ranges_in s fs ≡ fine → e ≤ align_to u (a + (24 * length fs + size_of fs))
      → Near u a (moved_blocks s a fs) e
  unfolding moved_blocks size_of
  moved_near s a e [] r h = let z : a + (24 * 0 + 0) ≡ a = omega arith in near_none u i a e (rw z at h)
  moved_near s a e (f ∷ fs) r h =
      let b = ranges_cons s f fs r in
      let z : a + (24 * length (f ∷ fs) + (f.size + size_of fs)) ≡ a + (24 + f.size) + (24 * length fs + size_of fs) = omega arith in
      near_cons u i a (24 + f.size) e _ _ (here_near u i a) (length_moved (kind_number f.kind) s f b.0)
      (moved_near s (a + (24 + f.size)) e fs b.1 (rw z at h))

  blocks_near : (s : List ℕ) (c : Column) (a : ℕ) → Inside s c
      → Near u a (moved_blocks s a c.group.data_group.fragments) (blocks_end (kept_size c) a)
  unfolding blocks_end blocks_of
  blocks_near s c a g = moved_near s a _ c.group.data_group.fragments g.ranges (eight_within u i _)

  data_near : (s : List ℕ) (a d : ℕ) (cs : List Column) → ((c : Column) → In c cs → Inside s c)
      → Near u d (kept_blocks s (placed_kept u a d cs)) (places_end u d (kept_sizes cs))
  unfolding kept_blocks with_places places_from places_end kept_sizes Near
  data_near s a d [] g = here_near u i d
  data_near s a d (c ∷ cs) g =
      let z : Sizes = kept_size c in
      let first : ℕ = first_at u z d in
      let e : ℕ = blocks_end z first in
      let sd : ℕ = signal_at u z.signal e in
      let f : ℕ = signal_end z.signal sd in
      let end : ℕ = places_end u f (kept_sizes cs) in
      let own : List Block = moved_blocks s first c.group.data_group.fragments in
      let rest : List Block = kept_blocks s (placed_kept u (a + z.structure) f cs) in
      near_append u i d e end own (sd_blocks s c.signal_of sd ++ rest)
      (near_from u i d first e own (first-within u i z d) (blocks_near s c first (g c here)))
      (near_from u i e sd end (sd_blocks s c.signal_of sd ++ rest) (signal_within u i z.signal e)
      (near_append u i sd f end (sd_blocks s c.signal_of sd) rest (signal_near u i s c.signal_of sd (g c here).signals)
      (data_near s (a + z.structure) f cs (λ b j. g b (there j)))))

-- ---- all blocks
pub kept_close : {u : ℕ} {s : List ℕ} {cs : List Column} {l : Layout} → LaidKept u s cs l → IsUnit u → 64 ≤ length s
    → ((c : Column) → In c cs → Inside s c) → Close u 0 (blocks_kept s l) l.file_size_lem
unfolding blocks_kept hd_block past_copies
kept_close {u} {s} {cs} {l} o i h g =
    let chain : List ℕ = l.past.chain in
    let memo : List Copy = memo_of l in
    let ats : List Attachment = l.attached.attachments in
    let copied : Near u 168 (copied_blocks s chain memo l.fh l.metadata.memo) (align8 l.metadata.next) =
    copied_near u i s chain memo l.fh 168 (align8 l.metadata.next) l.metadata.memo
    (laid-to s _ _ _ l.metadata.memo (copies-laid o) (align_past _)) (tight_to s _ _ l.metadata.memo (copies_tight o)) in
    let structures : Near u (align8 l.metadata.next) (kept_structure s memo ats l.placed l.placed) l.metadata_end_lem =
    rw (o.placed, o.metadata_end_lem) (structure_near u i s memo ats _ (align8 l.metadata.next) _ cs) in
    let blocks : Near u l.metadata_end_lem (kept_blocks s l.placed) (places_end u l.metadata_end_lem (kept_sizes cs)) =
    rw o.placed (data_near u i s (align8 l.metadata.next) l.metadata_end_lem cs g) in
    let attached : Near u (places_end u l.metadata_end_lem (kept_sizes cs)) (attachment_blocks s chain memo l.fh ats) l.file_size_lem =
    rw o.file_size_lem (attached_near u i s chain memo l.fh _ _ ats (attachments-laid o).laid (attachments-laid o).tight) in
    near_close u i 0 l.file_size_lem (blocks_kept s l)
    (near_cons u i 0 64 _ _ _ (here_near u i 0) (length_part 0 64 s h)
    (near_cons u i 64 104 _ _ _ (here_near u i 64) (length-hd s _ _ _ _)
    (near_append u i 168 _ _ _ _ copied
    (near_append u i _ l.metadata_end_lem _ _ _ structures
    (near_append u i l.metadata_end_lem _ _ _ _ blocks attached)))))
