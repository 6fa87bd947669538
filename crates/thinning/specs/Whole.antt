-- What was decided stands in the words.
use Rattle.std.specs.Prelude.{ℕ, ◌≤◌, List, ◌≡◌, length}
use Rattle.base.specs.Blit.{blit}
use Rattle.base.specs.Checked.{ok}
use Rattle.plan.specs.Layout.{Layout}
use Rattle.work_words.specs.PlanWords.{columns_words}
use Rattle.guarantee.specs.Theorem.{AllBytes}
use Rattle.file.specs.Form.{FileColumn}
use Rattle.file.specs.Opened.{opened}
use Rattle.thin.specs.Kept.{kept_columns}
use Rattle.thin.specs.TakenOut.{answer}
use Rattle.arranging.specs.declared.decide.Numbers.{Numbers}
use Rattle.arranging.specs.Answered.{Numbered}

-- the columns of s that are kept, and the layout l of the new file, over some words that were there before: of a call that is accepted for this output
pub record Stands (s columns memo : List ℕ) (n : Numbers) (out : List ℕ) (l : Layout) : Type 0 where
  pub u : ℕ
  pub numbers : List ℕ
  pub all : List FileColumn
  pub c : List ℕ
  pub d : List ℕ
  pub bytes : AllBytes s
  pub opens : opened s ≡ ok all
  pub is : answer u s numbers (length out) ≡ ok l
  pub long_c : 8192 ≤ length c
  pub long_d : 8192 ≤ length d
  pub in_columns : columns ≡ blit 0 (columns_words 0 (kept_columns s numbers all)) c
  pub numbered : Numbered l d memo n

-- some layout
pub record Ready (s columns memo : List ℕ) (n : Numbers) (out : List ℕ) : Type 0 where
  pub told : Layout
  pub stands : Stands s columns memo n out told
