-- Laws of the identification and the HD.
use Rattle.std.specs.Prelude.{ℕ, ◌-◌, ◌≤◌, List, [], ◌∷◌, ◌≡◌, refl, length}
use Rattle.std.proofs.Common.{le_refl}
use native.Mathlib.Omega.{arith}
use borrow.Rule.Slice.PartMut.{put_mid, mid_of}
use Rattle.base.specs.Choice.{if_eq}
use Rattle.base.specs.ChoiceLaws.{eq_no}
use Rattle.base.specs.Blit.{part, blit}
use Rattle.base.specs.BlitLaws.{length_part}
use Rattle.plan.specs.Copies.{Copy, copy_of}
use Rattle.copier.specs.Answer.{link_of}
use Rattle.puts.specs.PutLaws.{lent_is}
use Rattle.result.specs.Fill.{block, new_link, hd_bytes}
use Rattle.result.specs.Ordered.{Ordered}
use Rattle.copies_laws.specs.LengthLaws.{length-hd}
use Rattle.write_copies.specs.Wrote.{Wrote}
use Rattle.write_copies.specs.WroteLaws.{wrote_block, wrote_append}
use Rattle.thinning.specs.StructureLaws.{link_new}

-- ---- the first block of the history
pub history-some : (m : List Copy) (a n : ℕ) {r : ℕ} → (n ≡ 0 → ⊥) → r ≡ link_of (copy_of a m) → r ≡ if_eq n 0 0 (new_link m a)
history-some m a n z e = eq_no _ _ _ _ z (link_new m a a e refl)

-- ---- the blocks
module _ (s : List ℕ) (dg fh attachment comment : ℕ) (h : 64 ≤ length s) where
  front_ordered : Ordered 0 (block 0 (part 0 64 s) ∷ block 64 (hd_bytes s dg fh attachment comment) ∷ []) 168
  unfolding Ordered
  front_ordered = let e = length_part 0 64 s h in (le_refl 0, (omega arith, omega (arith, length-hd s dg fh attachment comment)))

  pub wrote_front : (out mid ys : List ℕ) → mid ≡ blit 0 (part 0 64 s) out
      → ys ≡ blit 0 (hd_bytes s dg fh attachment comment) (mid_of 64 (length mid - 64) mid)
      → Wrote 0 (block 0 (part 0 64 s) ∷ block 64 (hd_bytes s dg fh attachment comment) ∷ []) 168 out (put_mid 64 (length mid - 64) mid ys)
  unfolding blit
  wrote_front out mid ys g q =
      let a : Wrote 0 (block 0 (part 0 64 s) ∷ []) 64 out mid =
      rw (length_part 0 64 s h) at (wrote_block {a = 0} (block 0 (part 0 64 s)) {out = out} (le_refl 0) g) in
      let b : Wrote 64 (block 64 (hd_bytes s dg fh attachment comment) ∷ []) 168 mid (put_mid 64 (length mid - 64) mid ys) =
      rw (length-hd s dg fh attachment comment) at
      (wrote_block {a = 64} (block 64 (hd_bytes s dg fh attachment comment)) {out = mid} (le_refl 64)
      (lent_is 64 (hd_bytes s dg fh attachment comment) mid ys q)) in
      wrote_append 168 a b front_ordered
