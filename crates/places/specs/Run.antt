-- Bookkeeping: the run of one kind that fragments begin with, found by the words of fragments.
use Rattle.std.specs.Prelude.{ℕ, ◌+◌, ◌/◌, ◌≤◌, ◌<◌, List, [], ◌∷◌, ◌≡◌}
use Rattle.base.specs.Choice.{if_eq}
use Rattle.mdf.specs.Chain.{Kind, dt, dv, Fragment}
use Rattle.mdf.specs.Records.{most64, size_of}
use Rattle.records.specs.Ahead.{fragments_from}
use Rattle.places.specs.declared.sorted.Passed.{Passed}

-- a choice by equal kinds
abbrev pub if_kind : {A : Type 0} → Kind → Kind → A → A → A
if_kind dt dt a b = a
if_kind dt dv a b = b
if_kind dv dt a b = b
if_kind dv dv a b = a

-- the fragments from the first on that has bytes
unfoldable pub with_bytes : List Fragment → List Fragment
with_bytes [] = []
with_bytes (f ∷ fs) = let later = with_bytes fs in if_eq f.size 0 later (f ∷ fs)

-- those of a kind that they begin with, and those past them
unfoldable pub of_kind : Kind → List Fragment → List Fragment
of_kind k [] = []
of_kind k (f ∷ fs) = let more = f ∷ of_kind k fs in if_kind f.kind k more []

unfoldable pub past_kind : Kind → List Fragment → List Fragment
past_kind k [] = []
past_kind k (f ∷ fs) = let more = past_kind k fs in if_kind f.kind k more (f ∷ fs)

-- fragments begin with one of a kind, or there are none, where the kind is DT
pub data Begins (k : Kind) : List Fragment → Type 0 where
  never : k ≡ dt → Begins k []
  first : {f : Fragment} {fs : List Fragment} → f.kind ≡ k → Begins k (f ∷ fs)

-- those of a kind from index i on were passed: how many bytes they have, and the index past them
pub record PassedBy (ws : List ℕ) (k : Kind) (i : ℕ) (r : Passed) : Type 0 where
  pub bytes : size_of (fragments_from ws i) ≤ most64 → r.bytes ≡ size_of (of_kind k (fragments_from ws i))
  pub past : size_of (fragments_from ws i) ≤ most64 → fragments_from ws r.at ≡ past_kind k (fragments_from ws i)

-- a sum that is small enough
abbrev pub SumOf : ℕ → ℕ → ℕ → Type 0
SumOf a b r = a + b ≤ most64 → r ≡ a + b

-- a quotient by a number that is not 0
abbrev pub QuotientOf : ℕ → ℕ → ℕ → Type 0
QuotientOf a b r = 0 < b → r ≡ a / b
