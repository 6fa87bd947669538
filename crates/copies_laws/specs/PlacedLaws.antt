-- How far the blocks reach that make up columns.
use Prim.{Unit}
use Rattle.std.specs.Prelude.{ℕ, ◌+◌, ◌*◌, ◌≤◌, List, [], ◌∷◌, ◌≡◌, length}
use Rattle.std.proofs.Math.Option.{Option, none, some}
use Rattle.std.proofs.Common.{le_refl, arith}
use Rattle.base.specs.ChoiceLaws.{lt_back}
use Rattle.base.specs.Checked.{ok}
use Rattle.plan.specs.Columns.{Column}
use Rattle.plan.specs.Data.{blocks_in}
use Rattle.plan.specs.Rules.{Rules}
use Rattle.plan.specs.Layout.{
  places_at,
  placed_at,
  column_width,
  column_blocks,
  cg_size,
  dl_size,
  structure_size,
  column_sizes,
  past_data,
  places_from,
  structures_end,
  sizes_of,
  with_places,
  Placed,
  placed_from,
  structure_end,
  cn_size,
}
use Rattle.result.specs.Guarantee.{In, here, there}
use Rattle.copies_laws.specs.AnswerLaws.{refused≢ok, on_eq}

cg_near : (m : Option ℕ) → cg_size m ≤ 112
cg_near none = omega arith
cg_near (some m) = le_refl 112

dl_near : (n : ℕ) → dl_size n ≤ 48 + 8 * n
unfolding dl_size
dl_near n = on_eq (λ (x : ℕ). x ≤ 48 + 8 * n) n 0 _ _ (λ h. omega arith) (λ h. omega arith)

-- each column refers to at most so many attachments as links fit a block
abbrev pub FewPhotos : List Column → Type 0
FewPhotos cs = (c : Column) → In c cs → length c.photos ≤ 33554432

-- DG, CG, CN and DL of a column with at most 4,294,967,295 blocks
pub structure_near : (s : List ℕ) (size : ℕ) (c : Column) → column_blocks s size c ≤ 4294967295 → length c.photos ≤ 33554432 → structure_size s size c ≤ 34628174200
unfolding structure_size cn_size
structure_near s size c h f = omega (arith, cg_near c.master, dl_near (column_blocks s size c))

-- those of all columns, under the limit of blocks
pub structures_near : (s : List ℕ) (size a : ℕ) (cs : List Column) {u : Unit {0}} → blocks_in s size cs ≡ ok u → FewPhotos cs
    → structure_end s size a cs ≤ a + length cs * 34628174200
unfolding structures_end sizes_of blocks_in column_blocks column_width
structures_near s size a [] e f = omega arith
structures_near s size a (c ∷ cs) e f =
    let h = lt_back _ _ _ _ e refused≢ok in
    let g : structure_size s size c ≤ 34628174200 = structure_near s size c h.0 (f c here) in
    let k : structure_end s size (a + structure_size s size c) cs ≤ a + structure_size s size c + length cs * 34628174200 =
    structures_near s size (a + structure_size s size c) cs h.1 (λ b i. f b (there i)) in
    omega arith

pub structure_grows : (s : List ℕ) (size a : ℕ) (cs : List Column) → a ≤ structure_end s size a cs
unfolding structures_end sizes_of
structure_grows s size a [] = le_refl a
structure_grows s size a (c ∷ cs) = omega (arith, structure_grows s size (a + structure_size s size c) cs)

-- a column's DG, CG, CN and DL stand between the first's and the end
pub record Within (s : List ℕ) (size a e : ℕ) (p : Placed) : Type 0 where
  pub begins : a ≤ p.dg
  pub ends : p.dg + structure_size s size p.column ≤ e

-- one of a list is its first or one of the others
first_or : (P : Placed → Type 0) (d : Placed) (ds : List Placed) {p : Placed} → In p (d ∷ ds) → P d → (In p ds → P p) → P p
first_or P d ds here a f = a
first_or P d ds (there i) a f = f i

pub placed-within : {p : Placed} (o : Rules) (s : List ℕ) (size a d : ℕ) (cs : List Column) → In p (placed_from o s size a d cs)
    → Within s size a (structure_end s size a cs) p
unfolding with_places places_from structures_end sizes_of
placed-within {p = p} o s size a d [] x' = elim x' [ ]
placed-within {p = p} o s size a d (c ∷ cs) i =
    let next : ℕ = a + structure_size s size c in
    let later : ℕ = past_data o.unit (column_sizes s size c) d in
    first_or (Within s size a (structure_end s size next cs)) (placed_at c (places_at o.unit a d (column_sizes s size c))) (placed_from o s size next later cs) i
    (record { begins = le_refl a; ends = structure_grows s size next cs })
    (λ j. let w = placed-within {p = p} o s size next later cs j in record { begins = omega arith; ends = w.ends })
