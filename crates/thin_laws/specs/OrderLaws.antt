-- The blocks of a file with columns taken out stand in the order of their addresses.
use Rattle.std.specs.Prelude.{ℕ, ◌+◌, ◌*◌, ◌≤◌, List, [], ◌∷◌, ◌++◌, ◌≡◌, length}
use Rattle.std.proofs.Common.{le_refl, arith}
use Rattle.base.specs.BlitLaws.{length_part}
use Rattle.base.specs.Checked.{fine}
use Rattle.mdf.specs.Chain.{Fragment}
use Rattle.mdf.specs.Records.{ranges_in, size_of}
use Rattle.plan.specs.Columns.{Column}
use Rattle.plan.specs.Copies.{Copy, Copies, Attachment}
use Rattle.plan.specs.Layout.{
  cg_size,
  cn_size,
  dl_size,
  Sizes,
  first_at,
  blocks_end,
  signal_at,
  signal_end,
  places_at,
  past_data,
  places_from,
  structures_end,
  places_end,
  Placed,
  cg_of,
  cn_of,
  dl_of,
  placed_at,
  with_places,
  Layout,
  past_copies,
}
use Rattle.result.specs.Fill.{Block, next_dg, sd_blocks}
use Rattle.result.specs.Ordered.{Ordered}
use Rattle.result.specs.Result.{memo_of, hd_block}
use Rattle.result.specs.Guarantee.{In, here, there}
use Rattle.copies_laws.specs.AnswerLaws.{on_eq}
use Rattle.copies_laws.specs.Laid.{align_past}
use Rattle.copies_laws.specs.LengthLaws.{length-hd}
use Rattle.copies_laws.specs.OrderLaws.{ordered-from, ordered-append, ordered-to, ordered_cons, copied-ordered, attached_ordered}
use Rattle.payload_laws.specs.UnitLaws.{IsUnit, first_past, signal_past}
use Rattle.payload_laws.specs.SignalLaws.{signal_ordered}
use Rattle.file_laws.specs.JoinedLaws.{ranges_cons}
use Rattle.thin.specs.Place.{blocks_of, kept_size, kept_sizes}
use Rattle.thin.specs.Fill.{kind_number, kept_lists, kept_structure, moved_blocks, kept_blocks, blocks_kept}
use Rattle.thin_laws.specs.LaidLaws.{placed_kept, LaidKept, copies-laid, attachments-laid}
use Rattle.thin_laws.specs.Inside.{Inside}
use Rattle.thin_laws.specs.LengthLaws.{length-kept_dg, length-kept_cg, length-kept_cn, length-kept_dl, length_moved}

-- ---- DG, CG, CN and DL
ordered-none : (a e : ℕ) → a ≤ e → Ordered a [] e
unfolding Ordered
ordered-none a e h = h

list-ordered : (s : List ℕ) (p : Placed) → Ordered (dl_of p) (kept_lists s p) (dl_of p + dl_size (blocks_of p.column))
unfolding kept_lists
list-ordered s p =
    on_eq (λ (l : List Block). Ordered (dl_of p) l (dl_of p + dl_size (blocks_of p.column))) (blocks_of p.column) 0 _ _
    (λ _. ordered-none _ _ (omega arith)) (λ h. ordered_cons (dl_of p) _ _ _ [] (le_refl _) (length-kept_dl s p h) (ordered-none _ _ (le_refl _)))

-- those of one column, then the rest
column-ordered : (s : List ℕ) (memo : List Copy) (ats : List Attachment) (all ps : List Placed) (p : Placed) (e : ℕ)
    → Ordered (p.dg + (kept_size p.column).structure) (kept_structure s memo ats all ps) e
    → Ordered p.dg (kept_structure s memo ats all (p ∷ ps)) e
unfolding kept_structure
column-ordered s memo ats all ps p e o =
    ordered_cons p.dg 64 e _ _ (le_refl _) (length-kept_dg s memo p (next_dg ps))
    (ordered_cons (cg_of p) (cg_size p.column.master) e _ _ (le_refl _) (length-kept_cg s memo all p)
    (ordered_cons (cn_of p) (cn_size p.column) e _ _ (le_refl _) (length-kept_cn s memo ats p)
    (ordered-append (dl_of p) (dl_of p + dl_size (blocks_of p.column)) e (kept_lists s p) _ (list-ordered s p)
    (ordered-from _ _ e _ (omega arith) o))))

-- those of every column that is placed from a on
pub structure-ordered : (u : ℕ) (s : List ℕ) (memo : List Copy) (ats : List Attachment) (all : List Placed) (a d : ℕ) (cs : List Column)
    → Ordered a (kept_structure s memo ats all (placed_kept u a d cs)) (structures_end a (kept_sizes cs))
unfolding with_places places_from structures_end kept_sizes kept_structure Ordered
structure-ordered u s memo ats all a d [] = le_refl a
structure-ordered u s memo ats all a d (c ∷ cs) =
    let z : Sizes = kept_size c in
    column-ordered s memo ats all (placed_kept u (a + z.structure) (past_data u z d) cs) (placed_at c (places_at u a d z))
    (structures_end (a + z.structure) (kept_sizes cs)) (structure-ordered u s memo ats all (a + z.structure) (past_data u z d) cs)

-- ---- data blocks and SD
pub moved-ordered : (s : List ℕ) (a e : ℕ) (fs : List Fragment) → ranges_in s fs ≡ fine → a + (24 * length fs + size_of fs) ≤ e
    → Ordered a (moved_blocks s a fs) e
unfolding moved_blocks size_of
moved-ordered s a e [] r h = ordered-none a e (omega arith)
moved-ordered s a e (f ∷ fs) r h =
    let b = ranges_cons s f fs r in
    ordered_cons a (24 + f.size) e _ _ (le_refl a) (length_moved (kind_number f.kind) s f b.0)
    (moved-ordered s (a + (24 + f.size)) e fs b.1 (omega arith))

blocks-ordered : (s : List ℕ) (c : Column) (a : ℕ) → Inside s c
    → Ordered a (moved_blocks s a c.group.data_group.fragments) (blocks_end (kept_size c) a)
unfolding blocks_end blocks_of
blocks-ordered s c a i = moved-ordered s a _ c.group.data_group.fragments i.ranges (align_past _)

-- those of every column, from d on
pub data_ordered : (u : ℕ) → IsUnit u → (s : List ℕ) (a d : ℕ) (cs : List Column) → ((c : Column) → In c cs → Inside s c)
    → Ordered d (kept_blocks s (placed_kept u a d cs)) (places_end u d (kept_sizes cs))
unfolding Ordered kept_blocks with_places places_from places_end kept_sizes
data_ordered u i s a d [] g = le_refl d
data_ordered u i s a d (c ∷ cs) g =
    let z : Sizes = kept_size c in
    let first : ℕ = first_at u z d in
    let e : ℕ = blocks_end z first in
    let sd : ℕ = signal_at u z.signal e in
    let f : ℕ = signal_end z.signal sd in
    let end : ℕ = places_end u f (kept_sizes cs) in
    let own : List Block = moved_blocks s first c.group.data_group.fragments in
    let rest : List Block = kept_blocks s (placed_kept u (a + z.structure) f cs) in
    ordered-append d e end own (sd_blocks s c.signal_of sd ++ rest)
    (ordered-from d first e own (first_past u i z d).0 (blocks-ordered s c first (g c here)))
    (ordered-from e sd end (sd_blocks s c.signal_of sd ++ rest) (signal_past u i z.signal e).0
    (ordered-append sd f end (sd_blocks s c.signal_of sd) rest (signal_ordered s c.signal_of sd (g c here).signals)
    (data_ordered u i s (a + z.structure) f cs (λ b j. g b (there j)))))

-- ---- all blocks
pub past-copies : (m : Copies) → m.next ≤ past_copies m
unfolding past_copies
past-copies m = align_past m.next

pub kept-ordered : {u : ℕ} {s : List ℕ} {cs : List Column} {l : Layout} → LaidKept u s cs l → IsUnit u → 64 ≤ length s
    → ((c : Column) → In c cs → Inside s c) → Ordered 0 (blocks_kept s l) l.file_size_lem
unfolding blocks_kept hd_block
kept-ordered {u} {s} {cs} {l} o i h g =
    let chain : List ℕ = l.past.chain in
    let memo : List Copy = memo_of l in
    let ats : List Attachment = l.attached.attachments in
    let copied =
    ordered-to 168 _ (past_copies l.metadata) _ (copied-ordered s chain memo l.fh 168 _ l.metadata.memo (copies-laid o))
    (past-copies l.metadata) in
    let structures : Ordered (past_copies l.metadata) (kept_structure s memo ats l.placed l.placed) l.metadata_end_lem =
    rw (o.placed, o.metadata_end_lem) (structure-ordered u s memo ats _ (past_copies l.metadata) _ cs) in
    let blocks : Ordered l.metadata_end_lem (kept_blocks s l.placed) (places_end u l.metadata_end_lem (kept_sizes cs)) =
    rw o.placed (data_ordered u i s (past_copies l.metadata) l.metadata_end_lem cs g) in
    let attached = attached_ordered s chain memo l.fh _ _ ats (attachments-laid o).laid in
    ordered_cons 0 64 _ _ _ (le_refl 0) (length_part 0 64 s h)
    (ordered_cons 64 104 _ _ _ (le_refl 64) (length-hd s _ _ _ _)
    (ordered-append 168 (past_copies l.metadata) _ _ _ copied
    (ordered-append _ l.metadata_end_lem _ _ _ structures
    (ordered-append l.metadata_end_lem _ _ _ _ blocks (rw o.file_size_lem attached)))))
