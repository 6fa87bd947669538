-- What the exported reader answers, every number in every case (include/sitaungo.h).
use Rattle.std.specs.Prelude.{ℕ, true, false, List}
use Rattle.base.specs.Checked.{Checked, ok, refused, Verdict}
use Rattle.file.specs.Range.{Copied, Place, at, split}
use Rattle.sitaungo.specs.declared.column_file.Read.{Read}
use Rattle.sitaungo.specs.declared.column_file.Part.{Part}

-- "where refused number and place, else 0"
abbrev pub read_numbers : Verdict → Read
read_numbers (ok u) = record { accepted = true; number = 0; place = 0 }
read_numbers (refused n p) = record { accepted = false; number = n; place = p }

-- the answer with what the call left in the buffer
pub record Filled : Type 0 where
  pub numbers : Read
  pub buffer : List ℕ

abbrev pub filled : Read → List ℕ → Filled
filled r b = record { numbers = r; buffer = b }

abbrev pub exported_read : Copied → Filled
exported_read y = filled (read_numbers y.answered) y.buffer

-- "accepted and not split, `length` bytes at `offset`; split where they lie in several blocks. All else is 0."
abbrev pub place_numbers : Place → Part
place_numbers (at a n) = record { accepted = true; split = false; number = 0; place = 0; offset = a; length = n }
place_numbers split = record { accepted = true; split = true; number = 0; place = 0; offset = 0; length = 0 }

abbrev pub exported_part : Checked Place → Part
exported_part (ok p) = place_numbers p
exported_part (refused n p) = record { accepted = false; split = false; number = n; place = p; offset = 0; length = 0 }
