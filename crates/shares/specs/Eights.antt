-- Bookkeeping: caps, stores left and shares, in eights.
use Rattle.std.specs.Prelude.{ℕ, zero, suc, ◌-◌, Bool, true, false, List, [], ◌∷◌, ◌++◌, ◌≡◌, length, get_or, replicate, Result, Ok, Err}
use Rattle.base.specs.Checked.{Checked, ok, refused, Verdict, fine}
use Rattle.passes.specs.Passes.{Job}
use Rattle.shares.specs.declared.Eight.{Eight}
use Rattle.shares.specs.declared.Shares.{Shares}
use Rattle.shares.specs.declared.Refusal.{Refusal}
use Rattle.shares.specs.declared.Refusal.TheVariants.{Jobs, Nothing}

-- the eight
abbrev pub list_of : Eight → List ℕ
list_of e = e.a ∷ e.b ∷ e.c ∷ e.d ∷ e.e ∷ e.f ∷ e.g ∷ e.h ∷ []

-- n jobs from number i on, with their caps and what they have left
unfoldable pub jobs_from : List ℕ → List ℕ → ℕ → ℕ → List Job
jobs_from caps left i zero = []
jobs_from caps left i (suc n) = record { cap = get_or caps i 0; left = get_or left i 0 } ∷ jobs_from caps left (suc i) n

-- as many as have caps
abbrev pub jobs_of : List ℕ → List ℕ → List Job
jobs_of caps left = jobs_from caps left 0 (length caps)

-- whether each cap is above 0
abbrev pub verdict_of : Bool → Verdict
verdict_of true = fine
verdict_of false = refused 32 0

-- a refusal's number
abbrev pub number_of : Refusal → ℕ
number_of Jobs = 31
number_of Nothing = 32

-- what is given: the shares, and zeros past the jobs
abbrev pub GivenAs : Checked (List ℕ) → Result (List ℕ) Refusal → Type 0
GivenAs (ok ks) (Ok shares) = shares ≡ ks ++ replicate (8 - length ks) 0
GivenAs (ok ks) (Err r) = ⊥
GivenAs (refused number place) (Ok shares) = ⊥
GivenAs (refused number place) (Err r) = number_of r ≡ number

-- what is answered: the shares, and zeros past the jobs; zeros for a refusal
abbrev pub SharedAs : Checked (List ℕ) → Shares → Type 0
SharedAs (ok ks) r = (r.number ≡ 0) × (list_of r.shares ≡ ks ++ replicate (8 - length ks) 0)
SharedAs (refused number place) r = (r.number ≡ number) × (list_of r.shares ≡ replicate 8 0)
