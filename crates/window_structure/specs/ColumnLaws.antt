-- Laws of a column's blocks over a window.
use Rattle.std.specs.Prelude.{ℕ, ◌+◌, ◌*◌, ◌≤◌, List, ◌++◌, Bool, ◌≡◌, refl, length}
use Rattle.std.proofs.Common.{⊎_elim, inl, inr, sym, subst, ◌∙◌, le_refl, arith, length-append}
use Rattle.std.proofs.Math.Path.{ap}
use Rattle.base.specs.ChoiceLaws.{eq_yes, eq_no}
use Rattle.plan.specs.Channel.{keeps_inval}
use Rattle.plan.specs.Copies.{Copy, Attachment}
use Rattle.result.specs.Fill.{Block}
use Rattle.filling.specs.Blocks.{cn_data_from, dl_from}
use Rattle.stores.specs.Over.{over}
use Rattle.stores.specs.OverLaws.{over-append}
use Rattle.windows.specs.Windowed.{over_all}
use Rattle.window_blocks.specs.Apart.{Apart}
use Rattle.window_blocks.specs.ApartLaws.{apart_same}
use Rattle.window_blocks.specs.SizesLaws.{cg-within, length_data, data_most}
use Rattle.writing.specs.declared.placed.PlacedColumn.{PlacedColumn}
use Rattle.writing.specs.Structure.{
  Bounded,
  cn_length,
  column_dg,
  column_cg,
  column_front,
  column_photos,
  column_data,
  column_cn,
  column_dl,
  column_d_ls,
  column_parts,
}
use Rattle.writing.specs.StructureLaws.{length-column_dg, length_front, length_links}

-- ---- lengths, also where the image ends inside what they are made from
pub cg_most : (s : List ℕ) (m : List Copy) (h : PlacedColumn) → length (column_cg s m h) ≤ 112
unfolding column_cg
cg_most s m h = cg-within s h.group _ _ _ _ h.remote _ _ _ _

pub data_few : (s : List ℕ) (h : PlacedColumn) → length (column_data s h) ≤ 72
data_few s h = rw (length_data s h.channel h.stored (keeps_inval s h.group h.channel) h.photos) (data_most s h.channel)

cn_most : (s : List ℕ) (m : List Copy) (ats : List Attachment) (h : PlacedColumn) → length (column_cn s m ats h) ≤ cn_length h
unfolding column_cn
cn_most s m ats h = simp length-append (omega (arith, length_front s m h, length_links s ats h, data_few s h))

-- ---- each block's bytes over what was laid
pub laid_data : (s : List ℕ) (h : PlacedColumn) (a at : ℕ) (w v : List ℕ) {k : Bool}
    → v ≡ over a at (cn_data_from s h.channel h.stored k h.photos) w → k ≡ keeps_inval s h.group h.channel → v ≡ over a at (column_data s h) w
laid_data s h a at w v i k = i ∙ rw k

-- the three parts of a CN, one after the other
pub laid-cn : (s : List ℕ) (m : List Copy) (ats : List Attachment) (h : PlacedColumn) (a : ℕ) (w x y z : List ℕ)
    → x ≡ over a h.cn (column_front s m h) w → y ≡ over a (h.cn + 88) (column_photos s ats h) x
    → z ≡ over a (h.cn + 88 + 8 * h.photos) (column_data s h) y → z ≡ over a h.cn (column_cn s m ats h) w
unfolding column_cn
laid-cn s m ats h a w x y z e f g =
    let xs : List ℕ = column_front s m h in
    let ys : List ℕ = column_photos s ats h in
    let zs : List ℕ = column_data s h in
    let j : y ≡ over a h.cn (xs ++ ys) w = f ∙ rw e (sym (over-append a h.cn xs ys w ∙ rw (length_front s m h) refl)) in
    let n : h.cn + length (xs ++ ys) ≡ h.cn + 88 + 8 * h.photos = simp length-append (omega (arith, length_front s m h, length_links s ats h)) in
    g ∙ rw j (sym (over-append a h.cn (xs ++ ys) zs w ∙ ap (λ (k : ℕ). over a k zs (over a h.cn (xs ++ ys) w)) n))

-- no DL without blocks
pub laid_no_dl : (h : PlacedColumn) (a : ℕ) (w : List ℕ) → h.blocks ≡ 0 → w ≡ over_all a (column_d_ls h) w
unfolding column_d_ls over_all
laid_no_dl h a w z = subst (λ (bs : List Block). w ≡ over_all a bs w) (eq_yes h.blocks 0 _ _ z refl) refl

pub laid-dl : (h : PlacedColumn) (a : ℕ) (w v : List ℕ) → (h.blocks ≡ 0 → ⊥)
    → v ≡ over a (h.cn + cn_length h) (dl_from h.payload h.blocks h.first) w → v ≡ over_all a (column_d_ls h) w
unfolding column_d_ls column_dl over_all
laid-dl h a w v z e = subst (λ (bs : List Block). v ≡ over_all a bs w) (eq_no h.blocks 0 _ _ z refl) e

-- ---- a column's blocks
module _ (s : List ℕ) (m : List Copy) (ats : List Attachment) (h : PlacedColumn) (next a : ℕ) (w : List ℕ) where
  pub laid-column : {x y z v : List ℕ} → x ≡ over a h.dg (column_dg s m h next) w → y ≡ over a (h.dg + 64) (column_cg s m h) x
      → z ≡ over a h.cn (column_cn s m ats h) y → v ≡ over_all a (column_d_ls h) z → v ≡ over_all a (column_parts s m ats h next) w
  unfolding column_parts over_all
  laid-column e f g d =
      d ∙ ap (over_all a (column_d_ls h)) (g ∙ ap (over a h.cn (column_cn s m ats h)) (f ∙ ap (over a (h.dg + 64) (column_cg s m h)) e))

  -- what lies among the first bytes of a column that has none of them in the window
  kept : Apart (length w) a h.dg (336 + 8 * h.photos) → (i : ℕ) (bs : List ℕ) → h.dg ≤ i → i + length bs ≤ h.dg + (336 + 8 * h.photos) → w ≡ over a i bs w
  kept p i bs l k =
      let q : Apart (length w) a i (length bs) = ⊎_elim (λ x. inl (omega arith)) (λ x. inr (omega arith)) p in
      apart_same a i (length bs) (length bs) bs w q refl (le_refl _)

  -- it leaves nothing but its DL
  pub passed-column : Bounded h → Apart (length w) a h.dg (336 + 8 * h.photos) → over_all a (column_d_ls h) w ≡ over_all a (column_parts s m ats h next) w
  passed-column b p =
      laid-column {x = w} {y = w} {z = w}
      (kept p h.dg _ (le_refl _) (omega (arith, length-column_dg s m h next)))
      (kept p (h.dg + 64) _ (omega arith) (omega (arith, cg_most s m h)))
      (kept p h.cn _ b.after (omega (arith, b.cn, cn_most s m ats h)))
      refl
