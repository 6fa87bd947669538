-- How many bytes each block of the result has.
use Rattle.std.specs.Prelude.{ℕ, zero, suc, ◌+◌, ◌*◌, ◌-◌, ◌≤◌, List, [], ◌∷◌, ◌++◌, ◌≡◌, refl, length, take, replicate}
use Rattle.std.proofs.Math.Option.{Option, none, some}
use Rattle.std.proofs.Common.{arith, length-append, length-take-le}
use Rattle.std.proofs.lemmas.List.{length-replicate}
use Rattle.base.specs.ChoiceLaws.{eq_no}
use Rattle.base.specs.FieldLaws.{length-le}
use Rattle.mdf.specs.Block.{size_at, links_at, data_at}
use Rattle.plan.specs.Columns.{Column}
use Rattle.plan.specs.Geometry.{align8}
use Rattle.plan.specs.Copies.{Copy, Attachment}
use Rattle.plan.specs.Rules.{Rules}
use Rattle.plan.specs.Layout.{column_blocks, cg_size, cn_size, dl_size, Placed, md_size}
use Rattle.result.specs.Fill.{
  new_links,
  copied_links,
  data_of,
  copied_bytes,
  md_bytes,
  fh_bytes,
  dg_bytes,
  master_link,
  cg_data,
  cg_bytes,
  cn_data,
  cn_bytes,
  dl_bytes,
  at_bytes,
  hd_data,
  hd_bytes,
  words,
  photo_links,
}
use Rattle.copies_laws.specs.AnswerLaws.{Whole}
use Rattle.copies_laws.specs.AttachLaws.{Moved}
pub use Rattle.base.specs.BlitLaws.{length_part}
pub use Rattle.result.specs.FillLaws.{length-header, length-block_links}

pub length-new_links : (s : List ℕ) (memo : List Copy) (k p : ℕ) → length (new_links s memo k p) ≡ 8 * k
unfolding new_links
length-new_links s memo zero p = refl
length-new_links s memo (suc k) p = simp (length-append, length-le, length-new_links s memo k (p + 8)) (omega arith)

pub length-copied_links : (s chain : List ℕ) (memo : List Copy) (fh a k : ℕ) → length (copied_links s chain memo fh a k) ≡ 8 * k
unfolding copied_links
length-copied_links s chain memo fh a zero = refl
length-copied_links s chain memo fh a (suc k) = simp (length-append, length-le, length-new_links) (omega arith)

-- ---- copies
module _ (s : List ℕ) (a : ℕ) (range : a + size_at s a ≤ length s) (within : 24 + 8 * links_at s a ≤ size_at s a) where
  pub length_data_of : length (data_of s a) ≡ size_at s a - (24 + 8 * links_at s a)
  unfolding data_of data_at
  length_data_of = length_part _ _ s (omega arith)

pub length-copied : (s chain : List ℕ) (memo : List Copy) (fh a : ℕ) → Whole s a → length (copied_bytes s chain memo fh a) ≡ size_at s a
unfolding copied_bytes
length-copied s chain memo fh a w =
    simp (length-append, length-header, length-copied_links, length_data_of s a w.range w.within) (omega arith)

pub length_at : (s : List ℕ) (memo : List Copy) (a next : ℕ) → Moved s a → length (at_bytes s memo a next) ≡ size_at s a
unfolding at_bytes
length_at s memo a next w =
    simp (length-append, length_part a 24 s (omega arith), length-le, length-new_links, length_data_of s a w.range w.within) (omega arith)

-- ---- the new MD and FH, and HD
pub length_md : (text : List ℕ) → length (md_bytes text) ≡ md_size (length text)
unfolding md_bytes md_size align8
length_md text = simp (length-append, length-header, length-replicate) (omega arith)

pub length_fh : (md time : ℕ) → length (fh_bytes md time) ≡ 56
unfolding fh_bytes
length_fh md time = simp (length-append, length-header, length-le)

pub length-hd : (s : List ℕ) (first_dg first_fh first_at_lem comment : ℕ) → length (hd_bytes s first_dg first_fh first_at_lem comment) ≡ 104
unfolding hd_bytes hd_data
length-hd s first_dg first_fh first_at_lem comment =
    let k : length (take 32 (data_of s 64 ++ replicate 32 0)) ≡ 32 =
    length-take-le 32 (data_of s 64 ++ replicate 32 0) (rw (length-append, length-replicate) (omega arith)) in
    simp (length-append, length-header, length-le, k)

-- ---- a column's DG, CG, CN and DL

-- the data bytes of the column's CG and CN lie in the image
pub record InImage (s : List ℕ) (c : Column) : Type 0 where
  pub group : data_at s c.group.at + 32 ≤ length s
  pub channel : data_at s c.channel + 72 ≤ length s

pub length-dg : (s : List ℕ) (size : ℕ) (memo : List Copy) (p : Placed) (next : ℕ) → length (dg_bytes s size memo p next) ≡ 64
unfolding dg_bytes
length-dg s size memo p next = simp (length-append, length-header, length-le)

pub length-master_link : (ps : List Placed) (m : Option ℕ) → 72 + length (master_link ps m) + 32 ≡ cg_size m
length-master_link ps none = refl
length-master_link ps (some m) = simp length-le

length-cg_data : (s : List ℕ) (c : Column) → data_at s c.group.at + 32 ≤ length s → length (cg_data s c) ≡ 32
unfolding cg_data
length-cg_data s c h = simp (length-append, length-le, length_part (data_at s c.group.at + 18) 2 s (omega arith))

pub length-cg : (s : List ℕ) (memo : List Copy) (ps : List Placed) (p : Placed) → InImage s p.column
    → length (cg_bytes s memo ps p) ≡ cg_size p.column.master
unfolding cg_bytes
length-cg s memo ps p i =
    simp (length-append, length-header, length-le, length-cg_data s p.column i.group) (length-master_link ps p.column.master)

length-cn_data : (table s : List ℕ) (g c n : ℕ) → data_at s c + 72 ≤ length s → length (cn_data table s g c n) ≡ 72
unfolding cn_data
length-cn_data table s g c n h =
    simp (
      length-append,
      length-le,
      length_part (data_at s c + 1) 3 s (omega arith),
      length_part (data_at s c + 8) 4 s (omega arith),
      length_part (data_at s c + 20) 2 s (omega arith),
      length_part (data_at s c + 24) 48 s (omega arith),
    )

length-photo_links : (ats : List Attachment) (as' : List ℕ) → length (words (photo_links ats as')) ≡ 8 * length as'
unfolding photo_links words
length-photo_links ats [] = refl
length-photo_links ats (a ∷ as') = simp (length-append, length-le) (omega (arith, length-photo_links ats as'))

pub length-cn : (o : Rules) (s : List ℕ) (memo : List Copy) (ats : List Attachment) (p : Placed) → InImage s p.column
    → length (cn_bytes o s memo ats p) ≡ cn_size p.column
unfolding cn_bytes cn_size
length-cn o s memo ats p i =
    simp (
      length-append,
      length-header,
      length-le,
      length-photo_links ats p.column.photos,
      length-cn_data o.table s p.column.group.at p.column.channel (length p.column.photos) i.channel,
    ) (omega arith)

pub length-dl : (s : List ℕ) (size : ℕ) (p : Placed) → (column_blocks s size p.column ≡ 0 → ⊥)
    → length (dl_bytes s size p) ≡ dl_size (column_blocks s size p.column)
unfolding dl_bytes dl_size
length-dl s size p h = eq_no _ _ _ _ h (simp (length-append, length-header, length-le, length-block_links) (omega arith))
