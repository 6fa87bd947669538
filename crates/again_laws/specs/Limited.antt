-- The refusals of document 01's limits that a walk with the reader's doesn't have, and a chain read with both.
use Prim.Native.Nat.{ℕ}
use mathlib.Core.List.{List, [], ◌∷◌}
use Rattle.mdf.specs.Chain.{Fragment, Found, stopped}
use Rattle.result.specs.Member.{In}

-- the refusals that come sooner
abbrev pub closer : List ℕ
closer = 9 ∷ 19 ∷ []

-- ---- what is found
pub data FoundLess (w : Found) : Found → Type 0 where
  same : FoundLess w w
  early : {n p : ℕ} {fs : List Fragment} → In n closer → FoundLess w (stopped n p fs)
