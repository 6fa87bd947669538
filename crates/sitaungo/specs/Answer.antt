-- What the exported conversion answers, every number in every case: "where accepted, the report's seven counts, number and place 0; else number
-- and place, the counts 0" (include/sitaungo.h).
use Rattle.std.specs.Prelude.{ℕ, true, false, List}
use Rattle.base.specs.Checked.{Checked, ok, refused}
use Rattle.result.specs.Result as result
use Rattle.sitaungo.specs.declared.Outcome.{Outcome}

abbrev pub numbers_of : Checked result.Report → Outcome
numbers_of (ok r) = record {
  accepted = true;
  number = 0;
  place = 0;
  source_groups = r.source_groups_lem;
  time_groups = r.time_groups_lem;
  signal_groups = r.signal_groups_lem;
  shared_time_groups = r.shared_time_groups_lem;
  data_blocks = r.data_blocks;
  metadata_size = r.metadata_size_lem;
  file_size = r.file_size_lem;
}
numbers_of (refused n p) = record {
  accepted = false;
  number = n;
  place = p;
  source_groups = 0;
  time_groups = 0;
  signal_groups = 0;
  shared_time_groups = 0;
  data_blocks = 0;
  metadata_size = 0;
  file_size = 0;
}

-- the answer with what the call left in output, list and work slices
pub record Exported : Type 0 where
  pub numbers : Outcome
  pub output : List ℕ
  pub list : List ℕ
  pub work : List (List ℕ)

abbrev pub left : Outcome → List ℕ → List ℕ → List (List ℕ) → Exported
left r out list work = record { numbers = r; output = out; list = list; work = work }

-- the outcome of a call, exported
abbrev pub exported : result.Outcome → Exported
exported y = left (numbers_of y.answered) y.output y.list y.work
