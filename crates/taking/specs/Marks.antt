-- Marks of the columns that are taken out, and the tests that go by them.
use Rattle.std.specs.Prelude.{ℕ, List, Bool, true, false, ◌≡◌, get_or, Result, Ok, Err, ⊤}
use Rattle.base.specs.Choice.{pick}
use Rattle.base.specs.Checked.{refused, Verdict, fine}
use Rattle.mdf.specs.Chain.{is_in}
use Rattle.fields.specs.declared.refusal.Refusal.{Refusal}
use Rattle.fields.specs.Answer.{refused_by}
use Rattle.plan.specs.Photos.{photos_in}
use Rattle.file.specs.Form.{FileColumn}
use Rattle.ranges.specs.Open.{column_at}
use Rattle.sheet.specs.Sheet.{master_of}
use Rattle.thin.specs.Kept.{numbers_in, is_taken}

-- mark k is true exactly where k is one of the numbers
pub record Marked (numbers : List ℕ) (marks : List Bool) : Type 0 where
  pub is : (k : ℕ) → get_or marks k false ≡ is_in k numbers

-- the code's answer to 33, of n columns, and the marks that it leaves; after a refusal they are not said
abbrev pub Marks : ℕ → List ℕ → Result ⊤ Refusal → List Bool → Type 0
Marks n numbers (Ok u) marks = (numbers_in n numbers ≡ fine) × Marked numbers marks
Marks n numbers (Err x) marks = numbers_in n numbers ≡ refused_by x

-- 34, of column k
unfoldable pub master_at : List ℕ → List ℕ → List FileColumn → List ℕ → ℕ → Verdict
master_at s w all numbers k =
    pick (is_in k numbers) fine (pick (is_taken (master_of s all (column_at s w k).cg) numbers) (refused 34 0) fine)

-- 28, of column k
unfoldable pub photos_at : List ℕ → List ℕ → List ℕ → ℕ → Verdict
photos_at s w numbers k = pick (is_in k numbers) fine (photos_in true s (column_at s w k).cn)
