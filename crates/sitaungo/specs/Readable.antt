-- What the reader reads from the output of a conversion (document 02, request 1): "From a result it reads the records the archive was promised."
-- And what its inventory sheet says (request 10).
use Rattle.std.specs.Prelude.{ℕ, List, ◌≡◌}
use Rattle.base.specs.Checked.{ok, and_then}
use Rattle.result.specs.Result.{Args, Decided, answer, work_in}
use Rattle.file_guarantee.specs.Reads.{Reads}
use Rattle.sheet_guarantee.specs.SheetDue.{SheetDue}

-- of the output's last bytes, for whatever was accepted
pub record Readable (x : Args) (out list : ℕ) (work : List (List ℕ)) (bytes : List ℕ) : Type 0 where
  pub accepted : (d : Decided) → and_then (work_in work) (λ _. answer x out list) ≡ ok d → Reads x.image d.planned.columns bytes
  pub sheeted : (d : Decided) → and_then (work_in work) (λ _. answer x out list) ≡ ok d → SheetDue x.image d.planned.columns bytes
