-- The meaning of the count of one group: document 01's refusal, or the count.
use Rattle.std.specs.Prelude.{ℕ, List, [], ◌∷◌, Bool, true, false}
use Rattle.base.specs.Choice.{if_lt}
use Rattle.base.specs.Checked.{Checked, ok, refused}
use Rattle.mdf.specs.Chain.{Kind, dt, dv, Fragment}
use Rattle.mdf.specs.Records.{most64}
use Rattle.mdf.specs.Count.{size_dt, size_dv}

-- the bytes of the DV, or of the DT
abbrev pub bytes_of : Bool → List Fragment → ℕ
bytes_of false fs = size_dt fs
bytes_of true fs = size_dv fs

-- the bytes of a fragment of kind k with n bytes that count there
abbrev pub own_bytes : Bool → Kind → ℕ → ℕ
own_bytes false dt n = n
own_bytes false dv n = 0
own_bytes true dt n = 0
own_bytes true dv n = n

-- "19, DG: .. exceed 2^64 − 1"
unfoldable pub within64 : ℕ → ℕ → Checked (List ℕ)
within64 d n = if_lt most64 n (refused 19 d) (ok (n ∷ []))
