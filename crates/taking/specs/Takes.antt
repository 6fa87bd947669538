-- What is answered of a file whose columns are taken out, before anything is placed.
use Rattle.std.specs.Prelude.{ℕ, ◌≤◌, List, true, ◌≡◌, length, Result, Ok, Err}
use Rattle.base.specs.Checked.{Checked, ok, refused, and_then}
use Rattle.plan.specs.Columns.{Column}
use Rattle.plan.specs.Photos.{photos_first}
use Rattle.file.specs.Form.{FileColumn}
use Rattle.file.specs.Opened.{opened}
use Rattle.ranges.specs.Open.{columns_of}
use Rattle.thin.specs.Kept.{columns_sound, numbers_in, masters_kept, kept_columns, photos_kept}
use Rattle.fields.specs.declared.refusal.Refusal.{Refusal}
use Rattle.fields.specs.Answer.{number_of, place_of}
use Rattle.taking.specs.Words.{ColumnsPut}

-- ---- the part of `arranged` between the file's length and the placement

-- the photo choice's refusals
unfoldable pub photos_taken : List ℕ → List Column → Checked (List Column)
photos_taken s ks = and_then (photos_first true s) (λ _. and_then (photos_kept s ks) (λ _. ok ks))

-- of a file's columns
unfoldable pub taken_from : List ℕ → List ℕ → List FileColumn → Checked (List Column)
taken_from s numbers all =
    and_then (columns_sound s all all) (λ _.
    and_then (numbers_in (length all) numbers) (λ _.
    and_then (masters_kept s numbers all 0 all) (λ _.
    photos_taken s (kept_columns s numbers all))))

-- of a file
unfoldable pub taken_of : List ℕ → List ℕ → Checked (List Column)
taken_of s numbers = and_then (opened s) (λ all. taken_from s numbers all)

-- ---- the code's answer

-- so many columns, in words
pub record KeptAs (v : Checked (List Column)) (ks : List Column) (n : ℕ) (b b' c c' : List ℕ) : Type 0 where
  pub is : v ≡ ok ks
  pub few : n ≤ 512
  pub put : ColumnsPut ks n b b' c c'

-- after a refusal the words are not said
abbrev pub TakenAs : Checked (List Column) → List Column → Result ℕ Refusal → List ℕ → List ℕ → List ℕ → List ℕ → Type 0
TakenAs v ks (Err x) b b' c c' = v ≡ refused (number_of x) (place_of x)
TakenAs v ks (Ok n) b b' c c' = KeptAs v ks n b b' c c'

pub record TakesAs (v : Checked (List Column)) (ks : List Column) (r : Result ℕ Refusal) (b b' c c' : List ℕ) : Type 0 where
  pub answer : TakenAs v ks r b b' c c'

-- the columns of the file, which words named by their addresses
pub record KeptOf (s numbers : List ℕ) (n : ℕ) (b b' c c' : List ℕ) : Type 0 where
  pub source : List ℕ
  pub count : ℕ
  pub is_all : opened s ≡ ok (columns_of s source count 0)
  pub kept : KeptAs (taken_of s numbers) (kept_columns s numbers (columns_of s source count 0)) n b b' c c'

abbrev pub Takes : List ℕ → List ℕ → Result ℕ Refusal → List ℕ → List ℕ → List ℕ → List ℕ → Type 0
Takes s numbers (Err x) b b' c c' = taken_of s numbers ≡ refused (number_of x) (place_of x)
Takes s numbers (Ok n) b b' c c' = KeptOf s numbers n b b' c c'
