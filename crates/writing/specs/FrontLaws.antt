-- Laws of the identification and the HD, and of the new MD and FH, written.
use Rattle.std.specs.Prelude.{◌≡◌, ℕ, ◌+◌, ◌-◌, ◌*◌, ◌/◌, ◌≤◌, List, [], ◌∷◌, length, replicate}
use Rattle.std.proofs.Math.Path.{refl, ap}
use Rattle.std.proofs.Common.{◌∙◌, le_refl, take_all}
use native.Mathlib.Omega.{arith}
use borrow.Rule.Slice.PartMut.{put_mid, mid_of}
use Rattle.base.specs.Blit.{part, blit}
use Rattle.plan.specs.Geometry.{align8}
use Rattle.plan.specs.Layout.{md_size}
use Rattle.result.specs.Fill.{block, hd_bytes, md_bytes, fh_bytes}
use Rattle.result.specs.Ordered.{Ordered}
use Rattle.copies_laws.specs.LengthLaws.{length_md, length_fh, length-hd}
use Rattle.write_copies.specs.Wrote.{Wrote}
use Rattle.write_copies.specs.WroteLaws.{wrote_block, wrote_append}
use Rattle.writing.specs.BlockLaws.{wrote_at}
use Rattle.writing.specs.StructureLaws.{past_one}

-- ---- the identification and the HD
all-part : (bs : List ℕ) → length bs ≡ 64 → part 0 64 bs ≡ bs
unfolding part
all-part bs e = take_all 64 bs (omega arith)

module _ (s ident : List ℕ) (dg fh attachment comment : ℕ) (e : length ident ≡ 64) where
  front_ordered : Ordered 0 (block 0 ident ∷ block 64 (hd_bytes s dg fh attachment comment) ∷ []) 168
  unfolding Ordered
  front_ordered = (le_refl 0, (omega arith, omega (arith, length-hd s dg fh attachment comment)))

  pub wrote_front : (out mid ys : List ℕ) → mid ≡ blit 0 (part 0 64 ident) out
      → ys ≡ blit 0 (hd_bytes s dg fh attachment comment) (mid_of 64 (length mid - 64) mid)
      → Wrote 0 (block 0 ident ∷ block 64 (hd_bytes s dg fh attachment comment) ∷ []) 168 out (put_mid 64 (length mid - 64) mid ys)
  unfolding blit
  wrote_front out mid ys g q =
      let a : Wrote 0 (block 0 ident ∷ []) 64 out mid =
      rw e at (wrote_block {a = 0} (block 0 ident) {out = out} (le_refl 0) (g ∙ ap (λ (x : List ℕ). blit 0 x out) (all-part ident e))) in
      let l : 168 ≡ 64 + length (hd_bytes s dg fh attachment comment) = omega (arith, length-hd s dg fh attachment comment) in
      wrote_append 168 a (wrote_at 64 64 168 (hd_bytes s dg fh attachment comment) mid mid ys (le_refl 64) l refl q) front_ordered

-- ---- the new MD and FH
pub md_size_lem : (n : ℕ) → md_size n ≡ n / 8 * 8 + 32
unfolding md_size align8
md_size_lem n = omega arith

module _ (text out mid ys : List ℕ) (a md : ℕ) where
  pub wrote_md : mid ≡ blit a (replicate (md - a) 0) out → ys ≡ blit 0 (md_bytes text) (mid_of md (length mid - md) mid) → a ≤ md
      → Wrote a (block md (md_bytes text) ∷ []) (md + (length text / 8 * 8 + 32)) out (put_mid md (length mid - md) mid ys)
  wrote_md g q h =
      wrote_at a md (md + (length text / 8 * 8 + 32)) (md_bytes text) out mid ys h (omega (arith, md_size_lem (length text), length_md text)) g q

pub wrote_fh : (out mid ys : List ℕ) (a md fh time : ℕ) → mid ≡ blit a (replicate (fh - a) 0) out
    → ys ≡ blit 0 (fh_bytes md time) (mid_of fh (length mid - fh) mid) → a ≤ fh
    → Wrote a (block fh (fh_bytes md time) ∷ []) (fh + 56) out (put_mid fh (length mid - fh) mid ys)
wrote_fh out mid ys a md fh time g q h = wrote_at a fh (fh + 56) (fh_bytes md time) out mid ys h (rw (length_fh md time)) g q

-- past the MD
pub past_md : {a r : ℕ} {out last : List ℕ} (md : ℕ) (text : List ℕ) → Wrote a (block md (md_bytes text) ∷ []) r out last
    → r ≡ md + md_size (length text)
past_md md text w = past_one (block md (md_bytes text)) _ w (length_md text)

pub record HistoryRoom (a md fh n e : ℕ) : Type 0 where
  pub begins : a ≤ md
  pub next : md + md_size n ≤ fh
  pub ends : fh + 56 ≤ e

pub history-room : (a md fh time e : ℕ) (text : List ℕ) → Ordered a (block md (md_bytes text) ∷ block fh (fh_bytes md time) ∷ []) e
    → HistoryRoom a md fh (length text) e
unfolding Ordered
history-room a md fh time e text o =
    record {
      begins = o.0;
      next = rw (length_md text) at o.1.0;
      ends = rw (length_fh md time) at o.1.1;
    }
