-- Columns that are kept take no more bytes than all did.
use Prim.{Unit}
use Rattle.std.specs.Prelude.{ℕ, suc, ◌+◌, ◌≤◌, Bool}
use mathlib.Core.List.{List, [], ◌∷◌}
use Rattle.std.proofs.Math.Bool.{true, false}
use native.Mathlib.Omega.{arith}
use Rattle.base.specs.Choice.{pick}
use Rattle.mdf.specs.Chain.{is_in}
use Rattle.plan.specs.Columns.{Column}
use Rattle.plan.specs.Layout.{Sizes}
use Rattle.file.specs.Form.{FileColumn}
use Rattle.thin.specs.Kept.{kept_column, kept_from, kept_columns}
use Rattle.thin.specs.Place.{kept_size, kept_sizes}
use Rattle.thin_lengths.specs.Lengths.{data_bytes, structure_sum, data_sum}

-- one column's sizes against another's
pub record NoMore (z y : Sizes) : Type 0 where
  pub structure : z.structure ≤ y.structure
  pub bytes : data_bytes z ≤ data_bytes y

module _ (f numbers : List ℕ) (all : List FileColumn) where
  -- the columns cs of the file f, where they are kept, against these sizes, one by one
  unfoldable pub NoneMore : List FileColumn → List Sizes → Type 0
  NoneMore [] ys = Unit {0}
  NoneMore (c ∷ cs) [] = ⊥
  NoneMore (c ∷ cs) (y ∷ ys) = NoMore (kept_size (kept_column f numbers all c)) y × NoneMore cs ys

  pub fewer_from : (k : ℕ) (cs : List FileColumn) (ys : List Sizes) → NoneMore cs ys
      → (structure_sum (kept_sizes (kept_from f numbers all k cs)) ≤ structure_sum ys) × (data_sum (kept_sizes (kept_from f numbers all k cs)) ≤ data_sum ys)
  unfolding NoneMore kept_from kept_sizes structure_sum data_sum
  fewer_from k [] ys h = (omega arith, omega arith)
  fewer_from k (c ∷ cs) [] h = absurd h
  fewer_from k (c ∷ cs) (y ∷ ys) h = go (is_in k numbers) (kept_from f numbers all (suc k) cs) (fewer_from (suc k) cs ys h.1)
    where
      go : (t : Bool) (more : List Column) → (structure_sum (kept_sizes more) ≤ structure_sum ys) × (data_sum (kept_sizes more) ≤ data_sum ys)
          → (structure_sum (kept_sizes (pick t more (kept_column f numbers all c ∷ more))) ≤ y.structure + structure_sum ys)
          × (data_sum (kept_sizes (pick t more (kept_column f numbers all c ∷ more))) ≤ data_bytes y + data_sum ys)
      go true more p = (omega (arith, p.0), omega (arith, p.1))
      go false more p = (omega (arith, p.0, h.0.structure), omega (arith, p.1, h.0.bytes))

  pub fewer : (ys : List Sizes) → NoneMore all ys
      → (structure_sum (kept_sizes (kept_columns f numbers all)) ≤ structure_sum ys) × (data_sum (kept_sizes (kept_columns f numbers all)) ≤ data_sum ys)
  unfolding kept_columns
  fewer ys h = fewer_from 0 all ys h
