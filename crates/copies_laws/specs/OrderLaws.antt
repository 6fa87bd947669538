-- Blocks of the result stand in the order of their addresses.
use Rattle.mdf.specs.Block.{size_at}
use Rattle.std.specs.Prelude.{ℕ, ◌+◌, ◌≤◌, List, [], ◌∷◌, ◌≡◌, refl, length}
use Rattle.std.proofs.Common.{ap, le_refl, arith}
use Rattle.plan.specs.Columns.{Column}
use Rattle.plan.specs.Copies.{Copy, Attachment}
use Rattle.plan.specs.Rules.{Rules}
use Rattle.plan.specs.Layout.{
  Sizes,
  column_blocks,
  cg_size,
  dl_size,
  structure_size,
  column_sizes,
  places_at,
  past_data,
  places_from,
  structures_end,
  sizes_of,
  placed_at,
  with_places,
  Placed,
  cg_of,
  cn_of,
  dl_of,
  placed_from,
  structure_end,
  cn_size,
}
use Rattle.result.specs.Fill.{Block, block, copied_blocks, next_dg, dl_blocks, structure_blocks, next_attachment, attachment_blocks}
use Rattle.result.specs.Ordered.{Ordered}
use Rattle.result.specs.Guarantee.{In, here, there, columns_placed}
use Rattle.copies_laws.specs.AnswerLaws.{on_eq}
use Rattle.copies_laws.specs.Laid.{Laid}
use Rattle.copies_laws.specs.AttachLaws.{LaidAt}
use Rattle.copies_laws.specs.LengthLaws.{length-copied, length_at, InImage, length-dg, length-cg, length-cn, length-dl}
pub use Rattle.result.specs.OrderedLaws.{ordered-from, ordered-append}

pub ordered-to : (a d e : ℕ) (bs : List Block) → Ordered a bs d → d ≤ e → Ordered a bs e
unfolding Ordered
ordered-to a d e [] o h = omega arith
ordered-to a d e (b ∷ bs) o h = (o.0, ordered-to (b.at + length b.bytes) d e bs o.1 h)

pub ordered-ends : (a e : ℕ) (bs : List Block) → Ordered a bs e → a ≤ e
unfolding Ordered
ordered-ends a e [] o = o
ordered-ends a e (b ∷ bs) o =
    let h : a ≤ b.at = o.0 in
    let k : b.at + length b.bytes ≤ e = ordered-ends (b.at + length b.bytes) e bs o.1 in
    omega arith

-- a block of n bytes at a or past it, then the rest
pub ordered_cons : (a n e : ℕ) (b : Block) (bs : List Block) → a ≤ b.at → length b.bytes ≡ n
    → Ordered (b.at + n) bs e → Ordered a (b ∷ bs) e
unfolding Ordered
ordered_cons a n e b bs h l o = (h, rw l o)

-- ---- copies
pub copied-ordered : (s chain : List ℕ) (memo : List Copy) (fh a e : ℕ) (cs : List Copy) → Laid s a cs e
    → Ordered a (copied_blocks s chain memo fh cs) e
unfolding Laid copied_blocks Ordered
copied-ordered s chain memo fh a e [] l = l
copied-ordered s chain memo fh a e (c ∷ cs) l =
    (l.0, rw (length-copied s chain memo fh c.from l.1) (copied-ordered s chain memo fh (c.to + size_at s c.from) e cs l.2))

-- ---- attachments
pub attached_ordered : (s chain : List ℕ) (memo : List Copy) (fh a e : ℕ) (ts : List Attachment) → LaidAt s a ts e
    → Ordered a (attachment_blocks s chain memo fh ts) e
unfolding LaidAt attachment_blocks Ordered
attached_ordered s chain memo fh a e [] l = l
attached_ordered s chain memo fh a e (t ∷ ts) l =
    ordered-append a t.to e (copied_blocks s chain memo fh t.own) _ (copied-ordered s chain memo fh a t.to t.own l.0)
    (le_refl _, rw (length_at s memo t.from (next_attachment ts) l.1) (attached_ordered s chain memo fh (t.to + size_at s t.from) e ts l.2))

-- ---- columns
ordered-none : (a n : ℕ) → Ordered a [] (a + n)
unfolding Ordered
ordered-none a n = omega arith

ordered-one : (a n : ℕ) (bs : List ℕ) → length bs ≡ n → Ordered a (block a bs ∷ []) (a + n)
unfolding Ordered
ordered-one a n bs h = (le_refl a, omega arith)

pub dl-ordered : (s : List ℕ) (size : ℕ) (p : Placed) → Ordered (dl_of p) (dl_blocks s size p) (dl_of p + dl_size (column_blocks s size p.column))
unfolding dl_blocks
dl-ordered s size p =
    on_eq (λ (l : List Block). Ordered (dl_of p) l (dl_of p + dl_size (column_blocks s size p.column))) (column_blocks s size p.column) 0 _ _
    (λ _. ordered-none _ _) (λ h. ordered-one _ _ _ (length-dl s size p h))

-- DG, CG, CN and DL of one column, then the rest
column-ordered : (r : Rules) (s : List ℕ) (size : ℕ) (memo : List Copy) (ats : List Attachment) (all ps : List Placed) (p : Placed) (e : ℕ) → InImage s p.column
    → Ordered (p.dg + structure_size s size p.column) (structure_blocks r s size memo ats all ps) e
    → Ordered p.dg (structure_blocks r s size memo ats all (p ∷ ps)) e
unfolding structure_blocks structure_size
column-ordered r s size memo ats all ps p e i o =
    ordered_cons p.dg 64 e _ _ (le_refl _) (length-dg s size memo p (next_dg ps))
    (ordered_cons (cg_of p) (cg_size p.column.master) e _ _ (le_refl _) (length-cg s memo all p i)
    (ordered_cons (cn_of p) (cn_size p.column) e _ _ (le_refl _) (length-cn r s memo ats p i)
    (ordered-append (dl_of p) (dl_of p + dl_size (column_blocks s size p.column)) e (dl_blocks s size p) _ (dl-ordered s size p)
    (ordered-from _ _ e _ (omega arith) o))))

-- those of every column that is placed from a on, where every column's CG and CN lie in the image
pub structure-ordered : (o : Rules) (s : List ℕ) (size : ℕ) (memo : List Copy) (ats : List Attachment) (all : List Placed) (a d : ℕ) (cs : List Column)
    → ((c : Column) → In c cs → InImage s c) → Ordered a (structure_blocks o s size memo ats all (placed_from o s size a d cs)) (structure_end s size a cs)
unfolding with_places places_from structures_end sizes_of structure_blocks Ordered
structure-ordered o s size memo ats all a d [] f = le_refl a
structure-ordered o s size memo ats all a d (c ∷ cs) f =
    let a1 : ℕ = a + structure_size s size c in
    let d1 : ℕ = past_data o.unit (column_sizes s size c) d in
    column-ordered o s size memo ats all (placed_from o s size a1 d1 cs) (placed_at c (places_at o.unit a d (column_sizes s size c)))
    (structure_end s size a1 cs) (f c here) (structure-ordered o s size memo ats all a1 d1 cs (λ b i. f b (there i)))

-- the columns placed are those that were to be placed
pub placed-columns : (o : Rules) (s : List ℕ) (size a d : ℕ) (cs : List Column) → columns_placed (placed_from o s size a d cs) ≡ cs
unfolding with_places places_from sizes_of columns_placed
placed-columns o s size a d [] = refl
placed-columns o s size a d (c ∷ cs) = ap (λ (l : List Column). c ∷ l) (placed-columns o s size (a + structure_size s size c) (past_data o.unit (column_sizes s size c) d) cs)
