-- How many records each group has: "counts DG by DG" (document 01, counting and Order).
use Rattle.std.specs.Prelude.{ℕ, zero, suc, ◌+◌, ◌/◌, List, [], ◌∷◌, ◌++◌, length}
use Rattle.base.specs.Choice.{if_lt, if_eq}
use Rattle.base.specs.Checked.{Checked, ok, refused, and_then}
use Rattle.mdf.specs.Chain.{Kind, dt, dv, Fragment}
use Rattle.mdf.specs.Group.{DataGroup, addresses}
use Rattle.mdf.specs.Records.{most64, record_size, Frame, unsorted_frames}

-- "DT bytes" and "DV bytes" of one fragment
abbrev dt_bytes : Kind → ℕ → ℕ
dt_bytes dt n = n
dt_bytes dv n = 0

abbrev dv_bytes : Kind → ℕ → ℕ
dv_bytes dt n = 0
dv_bytes dv n = n

-- all DT bytes, and all DV bytes, of fragments
unfoldable pub size_dt : List Fragment → ℕ
size_dt [] = 0
size_dt (f ∷ fs) = dt_bytes f.kind f.size + size_dt fs

unfoldable pub size_dv : List Fragment → ℕ
size_dv [] = 0
size_dv (f ∷ fs) = dv_bytes f.kind f.size + size_dv fs

-- "a zero divisor giving 0"
unfoldable pub quotient : ℕ → ℕ → ℕ
quotient n m = if_eq m 0 0 (n / m)

-- "count = floor(DT bytes / (id size + samples + invalidation bytes)) + floor(DV bytes / samples)"
unfoldable pub sorted_count : List ℕ → ℕ → ℕ → List Fragment → ℕ
sorted_count s d g fs = quotient (size_dt fs) (record_size s d g dt) + quotient (size_dv fs) (record_size s d g dv)

-- "19, DG: the DT bytes, the DV bytes or the count of one group exceed 2^64 − 1"
unfoldable pub count_one : List ℕ → ℕ → ℕ → List Fragment → Checked (List ℕ)
count_one s d g fs =
    if_lt most64 (size_dt fs) (refused 19 d)
    (if_lt most64 (size_dv fs) (refused 19 d)
    (if_lt most64 (sorted_count s d g fs) (refused 19 d) (ok (sorted_count s d g fs ∷ []))))

-- "With several groups": how many of the records are of group k
unfoldable pub of_group : ℕ → List Frame → ℕ
of_group k [] = 0
of_group k (r ∷ rs) = if_eq r.group k 1 0 + of_group k rs

-- bookkeeping: the counts of n groups, from group k on
unfoldable pub tallies : ℕ → ℕ → List Frame → List ℕ
tallies zero k rs = []
tallies (suc n) k rs = of_group k rs ∷ tallies n (k + 1) rs

-- "counts DG by DG": of no group, of one by its bytes, of several by reading: "Such a DG's data is always read to the end."
unfoldable pub count_groups : List ℕ → ℕ → List ℕ → List Fragment → Checked (List ℕ)
count_groups s d [] fs = ok []
count_groups s d (g ∷ []) fs = count_one s d g fs
count_groups s d (g ∷ h ∷ gs) fs = and_then (unsorted_frames s d (g ∷ h ∷ gs) fs) (λ rs. ok (tallies (length (g ∷ h ∷ gs)) 0 rs))

-- bookkeeping: the counts of all groups, in the order of the walk, after those counted before
unfoldable pub counts_from : List ℕ → List DataGroup → List ℕ → Checked (List ℕ)
counts_from s [] done = ok done
counts_from s (d ∷ ds) done =
    and_then (count_groups s d.at (addresses d.groups) d.fragments) (λ ns. counts_from s ds (done ++ ns))

-- "counts DG by DG", of the whole recording
unfoldable pub counts : List ℕ → List DataGroup → Checked (List ℕ)
counts s ds = counts_from s ds []
