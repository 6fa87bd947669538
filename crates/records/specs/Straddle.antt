-- A fragment's kind as the code tells it, and where a record straddles.
use Rattle.std.specs.Prelude.{ℕ, ◌+◌, ◌-◌, ◌%◌, Bool, true, false, List, ltb}
use Rattle.base.specs.Choice.{pick, if_le, if_eq}
use Rattle.base.specs.Checked.{refused, Verdict, fine}
use Rattle.mdf.specs.Group.{inval_bytes}
use Rattle.mdf.specs.Records.{any_dv}
use Rattle.mdf.specs.Chain.{Kind, dt, dv, Fragment}

-- whether it is DV
abbrev pub kind_if : Bool → Kind
kind_if false = dt
kind_if true = dv

-- "straddles DT and DV": of a record bytes were met in fragments of one kind, and then one of the other kind comes
abbrev pub straddles : ℕ → Bool → Bool → Bool
straddles bytes false false = false
straddles bytes true true = false
straddles bytes false true = ltb 0 bytes
straddles bytes true false = ltb 0 bytes

-- the bytes past the whole records of n bytes each
unfoldable pub remainder : ℕ → ℕ → ℕ
remainder n x = if_eq n 0 0 (x % n)

-- where the last record starts, which has so many bytes: in the last fragment, or where it started before
unfoldable pub start_of : ℕ → ℕ → ℕ → ℕ → ℕ
start_of bytes offset size start = if_le bytes size (offset + (size - bytes)) start

-- "14, DG: .. DV .. with invalidation bytes"
abbrev pub dv_fits : List ℕ → ℕ → ℕ → List Fragment → Verdict
dv_fits s d g fs = pick (any_dv fs) (if_eq (inval_bytes s g) 0 fine (refused 14 d)) fine
