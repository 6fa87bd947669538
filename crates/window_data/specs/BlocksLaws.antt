-- Laws of a column's blocks over a window, from its group's records.
use Rattle.std.specs.Prelude.{ℕ, Bool, true, not, List, [], ◌∷◌, ◌≡◌, length, get_or}
use Rattle.std.proofs.lemmas.Bool.{false≢true}
use Rattle.std.proofs.Common.{sym, ap, ◌∙◌, subst, arith}
use Rattle.mdf.specs.Records.{most64}
use Rattle.plan.specs.Channel.{fits}
use Rattle.places.specs.Stretch.{number_in, Ready}
use Rattle.places.specs.Pool.{Pooled, KeepsRight}
use Rattle.offsets.specs.declared.kept.Offsets.{Offsets}
use Rattle.stores.specs.Over.{over}
use Rattle.data_blocks.specs.declared.column.Column.{Column}
use Rattle.data_blocks.specs.declared.piece.Form.{Form}
use Rattle.std.specs.Prelude.{Option, None}
use Rattle.data_blocks.specs.Region.{Formed}
use Rattle.data_blocks.specs.Filled.{TotalOf}
use Rattle.data_blocks.specs.Blocks.{column_records, PlacesKept}
use Rattle.data_blocks.specs.Written.{FormOf, IfRoom, Prepares}
use Rattle.data_blocks.specs.WrittenLaws.{form_region, form_none, ready_ready, ready_group, ready_due, ready_room, ready_total, single, not-true}
use Rattle.window_data.specs.RegionLaws.{over_none}
use Rattle.window_data.specs.Filled.{FromOf, FilledIn, LaysAll}
use Rattle.window_data.specs.FilledLaws.{filled-all}
use Rattle.window_data.specs.Kept.{PoolFilledIn, ListFilledIn}
use Rattle.window_data.specs.Blocks.{LaysRecords, LaysBlocks}

-- ---- the group's records
module _ (a : ℕ) (s gs ws : List ℕ) (c : Column) (f : Form) (p q w : List ℕ) {last : List ℕ} where
  -- the only group
  pub alone-laid : length gs ≡ 1 → LaysAll a s c.parent 0 (get_or gs 0 0 ∷ []) ws f w last → LaysRecords a s gs ws c f p p q q w last
  alone-laid l v gs_of ws_of x y h r g d =
      let z : 0 ≡ number_in c.group gs = omega (arith, r.listed) in
      let u : LaysAll a s c.parent 0 gs ws f w last = subst (λ (b : List ℕ). LaysAll a s c.parent 0 b ws f w last) (single gs l) v in
      let t : LaysAll a s c.parent (number_in c.group gs) gs ws f w last = subst (λ (i : ℕ). LaysAll a s c.parent i gs ws f w last) z u in
      (h, t r g d)

-- one of several, found in more than one way
module _ (a : ℕ) (s gs ws : List ℕ) (c : Column) (f : Form) (p p' : List ℕ) (k : KeepsRight s c.parent gs ws p p') {r : ℕ} (z : Formed s f most64)
    (o : FromOf f a r) (n : ℕ) (w mid : List ℕ) (l : PoolFilledIn a s c.parent c.group ws f p' r n w mid) where
  pool_part : (gs_of ws_of : ℕ → List ℕ) → gs_of c.parent ≡ gs → ws_of c.parent ≡ ws → Pooled s gs_of ws_of p
      → Ready s c.parent (number_in c.group gs) gs ws
      → Pooled s gs_of ws_of p' × FilledIn a s c.parent (number_in c.group gs) gs ws f r n w mid
  pool_part gs_of ws_of x y h i = let v = k gs_of ws_of x y i.checked h in (v, rw x at (l gs_of ws_of y v))

  -- all by kept stretches
  pub pool_laid : (q : List ℕ) → n ≡ f.records → LaysRecords a s gs ws c f p p' q q w mid
  pool_laid q e gs_of ws_of x y h i g d =
      let v = pool_part gs_of ws_of x y h.stretches i in
      let t : FilledIn a s c.parent (number_in c.group gs) gs ws f r f.records w mid =
      subst (λ (b : ℕ). FilledIn a s c.parent (number_in c.group gs) gs ws f r b w mid) e v.1 in
      (record { stretches = v.0; offsets = h.offsets }, filled-all z o t i g d)

  -- others by kept offsets
  module _ (q q' : List ℕ) {u : Offsets} (v : Prepares s c.parent c.group gs ws q q' u) (m : ℕ) (past : List ℕ)
      (t : ListFilledIn a s ws f q' u.first u.count n m mid past) where
    offsets_part : (gs_of ws_of : ℕ → List ℕ) → gs_of c.parent ≡ gs → ws_of c.parent ≡ ws → PlacesKept s gs_of ws_of p q
        → Ready s c.parent (number_in c.group gs) gs ws
        → PlacesKept s gs_of ws_of p' q' × FilledIn a s c.parent (number_in c.group gs) gs ws f r m w past
    offsets_part gs_of ws_of x y h i =
        let b = pool_part gs_of ws_of x y h.stretches i in
        let j = v.keeps gs_of ws_of x y i.checked h.offsets in
        let e : FilledIn a s c.parent (number_in c.group gs) gs ws f n m mid past =
        t c.parent (number_in c.group gs) gs (rw (x, y) at (v.told.right s gs_of ws_of j)) in
        (record { stretches = b.0; offsets = j }, λ i g d base before. e i g d base (b.1 i g d base before))

    pub listed-laid : m ≡ f.records → LaysRecords a s gs ws c f p p' q q' w past
    listed-laid e gs_of ws_of x y h i g d =
        let b = offsets_part gs_of ws_of x y h i in
        let j : FilledIn a s c.parent (number_in c.group gs) gs ws f r f.records w past =
        subst (λ (b : ℕ). FilledIn a s c.parent (number_in c.group gs) gs ws f r b w past) e b.1 in
        (b.0, filled-all z o j i g d)

    -- the last by framing
    pub framed_laid : {last : List ℕ} {j : ℕ} → j ≡ number_in c.group gs → FilledIn a s c.parent j gs ws f m f.records past last
        → LaysRecords a s gs ws c f p p' q q' w last
    framed_laid {last} {j} e x gs_of ws_of y h b i g d =
        let l = offsets_part gs_of ws_of y h b i in
        let k : FilledIn a s c.parent (number_in c.group gs) gs ws f m f.records past last =
        subst (λ (b : ℕ). FilledIn a s c.parent b gs ws f m f.records past last) e x in
        let all : FilledIn a s c.parent (number_in c.group gs) gs ws f r f.records w last = λ i g d base before. k i g d base (l.1 i g d base before) in
        (l.0, filled-all z o all i g d)

-- ---- tests that a column that is ready passes
module _ (a : ℕ) (s : List ℕ) (size : ℕ) (gs ws : List ℕ) (c : Column) (p q w : List ℕ) where
  pub laid-unfit : (b : Bool) → b ≡ fits s c.group c.channel → not b ≡ true → LaysBlocks a s size gs ws c p p q q w w
  laid-unfit b e n gs_of ws_of x y h d = absurd (false≢true (sym (not-true b n) ∙ e ∙ d.fit))

  module _ {f : Form} (o : FormOf s size c f) where
    -- without blocks
    pub laid_empty : f.blocks ≡ 0 → LaysBlocks a s size gs ws c p p q q w w
    laid_empty z gs_of ws_of x y h d = (h, sym (rw (form_none o (column_records s gs ws c) z) (over_none a 0 w)))

    module _ (z : f.blocks ≡ 0 → ⊥) where
      pub laid_full : (b : Bool) → IfRoom most64 f b → not b ≡ true → LaysBlocks a s size gs ws c p p q q w w
      laid_full b r n gs_of ws_of x y h d = absurd (r.no (not-true b n) (ready_room o z d))

      pub laid_outside : {t : Option ℕ} → TotalOf s ws t → t ≡ None → LaysBlocks a s size gs ws c p p q q w w
      laid_outside r n gs_of ws_of x y h d = absurd (ready_total o z d r n)

      -- all its records are laid: so are its blocks
      pub laid-blocks : {last-p last-q last : List ℕ} → LaysRecords a s gs ws c f p last-p q last-q w last
          → LaysBlocks a s size gs ws c p last-p q last-q w last
      laid-blocks v gs_of ws_of x y h d =
          let u = v gs_of ws_of x y h (ready_ready o z d) (ready_group o z d) (ready_due o z d) in
          (u.0, u.1 ∙ ap (λ (b : List ℕ). over a 0 b w) (form_region o (column_records s gs ws c)))
