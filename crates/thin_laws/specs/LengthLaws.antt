-- How many bytes each block of a file with columns taken out has.
use Rattle.std.specs.Prelude.{ℕ, ◌+◌, ◌≤◌, List, ◌++◌, ◌≡◌, length, replicate}
use Rattle.std.proofs.Common.{◌∙◌, arith, length-append, length-take-le}
use Rattle.std.proofs.lemmas.List.{length-replicate}
use Rattle.base.specs.Blit.{part}
use Rattle.base.specs.BlitLaws.{length_part}
use Rattle.base.specs.ChoiceLaws.{eq_no}
use Rattle.base.specs.FieldLaws.{length-le}
use Rattle.mdf.specs.Chain.{Fragment}
use Rattle.plan.specs.Copies.{Copy, Attachment}
use Rattle.plan.specs.Layout.{cg_size, cn_size, dl_size, Placed}
use Rattle.result.specs.Fill.{data_of, block_of}
use Rattle.result.specs.FillLaws.{length-header, length-block_links}
use Rattle.copies_laws.specs.LengthLaws.{length-master_link}
use Rattle.payload_laws.specs.PayloadLaws.{length_framed}
use Rattle.shown_laws.specs.Header.{length-words}
use Rattle.shown_laws.specs.Shapes.{length_photos}
use Rattle.thin.specs.Place.{blocks_of}
use Rattle.thin.specs.Fill.{kept_data, kept_dg, kept_cg, kept_cn, kept_dl}

-- ---- DG, CG and CN: their data cut or filled to so many bytes
pub length-kept_data : (n : ℕ) (s : List ℕ) (a : ℕ) → length (kept_data n s a) ≡ n
unfolding kept_data
length-kept_data n s a = length-take-le n (data_of s a ++ replicate n 0) (rw (length-append, length-replicate) (omega arith))

pub length-kept_dg : (s : List ℕ) (memo : List Copy) (p : Placed) (next : ℕ) → length (kept_dg s memo p next) ≡ 64
unfolding kept_dg
length-kept_dg s memo p next = simp (length-append, length-header, length-le, length-kept_data)

pub length-kept_cg : (s : List ℕ) (memo : List Copy) (ps : List Placed) (p : Placed) → length (kept_cg s memo ps p) ≡ cg_size p.column.master
unfolding kept_cg
length-kept_cg s memo ps p = simp (length-append, length-header, length-le, length-kept_data) (length-master_link ps p.column.master)

pub length-kept_cn : (s : List ℕ) (memo : List Copy) (ats : List Attachment) (p : Placed) → length (kept_cn s memo ats p) ≡ cn_size p.column
unfolding kept_cn cn_size
length-kept_cn s memo ats p =
    simp (length-append, length-header, length-le, length-words, length_photos, length-kept_data) (omega arith)

-- ---- DL and data blocks
pub length-kept_dl : (s : List ℕ) (p : Placed) → (blocks_of p.column ≡ 0 → ⊥) → length (kept_dl s p) ≡ dl_size (blocks_of p.column)
unfolding kept_dl dl_size
length-kept_dl s p h = eq_no _ _ _ _ h (simp (length-append, length-header, length-le, length-block_links) (omega arith))

pub length_moved : (kind : ℕ) (s : List ℕ) (f : Fragment) → f.offset + f.size ≤ length s
    → length (block_of kind (part f.offset f.size s)) ≡ 24 + f.size
length_moved kind s f h = length_framed kind (part f.offset f.size s) ∙ rw (length_part f.offset f.size s h)
