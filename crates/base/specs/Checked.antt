-- What a check gives: a value, or a refusal with document 01's number and place. A refusal ends what follows it.
use Rattle.std.specs.Prelude.{ℕ}
use Prim.{Unit, tt}

pub data Checked (A : Type 0) : Type 0 where
  ok : A → Checked A
  refused : ℕ → ℕ → Checked A

-- "The first fault met ends the whole walk."
abbrev pub and_then : {A B : Type 0} → Checked A → (A → Checked B) → Checked B
and_then (ok a) f = f a
and_then (refused number place) f = refused number place

-- bookkeeping: a check that gives nothing but whether it passed
abbrev pub Verdict : Type 0
Verdict = Checked (Unit {0})

-- it passed
abbrev pub fine : Verdict
fine = ok tt
