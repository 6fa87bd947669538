-- What the exported call that takes columns out answers, every number in every case (include/sitaungo.h).
use Rattle.std.specs.Prelude.{ℕ, true, false, List}
use Rattle.base.specs.Checked.{Checked, ok, refused}
use Rattle.thin.specs.TakenOut as thin
use Rattle.sitaungo.specs.declared.taking_out.TakenColumns.{TakenColumns}

-- "where accepted: number and place 0; else bytes 0"
abbrev pub taken_numbers : Checked ℕ → TakenColumns
taken_numbers (ok n) = record { accepted = true; number = 0; place = 0; bytes = n }
taken_numbers (refused n p) = record { accepted = false; number = n; place = p; bytes = 0 }

-- the answer with what the call left in output and work slices
pub record LeftBy : Type 0 where
  pub numbers : TakenColumns
  pub output : List ℕ
  pub work : List (List ℕ)

abbrev pub left_by : TakenColumns → List ℕ → List (List ℕ) → LeftBy
left_by r out work = record { numbers = r; output = out; work = work }

-- the outcome of a call, exported
abbrev pub exported_taken : thin.Outcome → LeftBy
exported_taken y = left_by (taken_numbers y.answered) y.output y.work
