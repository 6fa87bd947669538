-- What was decided, by the code's answer.
use Rattle.std.specs.Prelude.{◌≡◌, List, ℕ, Result, Ok, Err}
use Rattle.std.proofs.Common.{subst}
use Rattle.fields.specs.declared.refusal.Refusal.{Refusal}
use Rattle.fields.specs.Answer.{number_of, place_of}
use Rattle.result.specs.Result.{Args, decided}
use Rattle.placing.specs.declared.decide.Decision.{Decision}
use Rattle.placing.specs.Decision.{four, Shares, DecidedIn, RefusedIn, Decides}

pub decides_done : {x : Args} {a b c d : List ℕ} {r : Result Decision Refusal} {a' b' c' d' : List ℕ} {m : Decision}
    → Decides x a b c d r a' b' c' d' → r ≡ Ok m → DecidedIn x m.items m.fragments m.columns m.omissions m.numbers a b c d a' b' c' d'
decides_done {x} {a} {b} {c} {d} {a' = a'} {b' = b'} {c' = c'} {d' = d'} h e = (subst (λ r. Decides x a b c d r a' b' c' d') e h).0

pub decides_shares : (x : Args) (a b c d : List ℕ) (r : Result Decision Refusal) (a' b' c' d' : List ℕ) {m : Decision}
    → Decides x a b c d r a' b' c' d' → r ≡ Ok m → Shares (decided x) m.shared
decides_shares x a b c d r a' b' c' d' h e = (subst (λ r. Decides x a b c d r a' b' c' d') e h).1

pub decides_refused : {x : Args} {a b c d : List ℕ} {r : Result Decision Refusal} {a' b' c' d' : List ℕ} {y : Refusal}
    → Decides x a b c d r a' b' c' d' → r ≡ Err y → RefusedIn x (number_of y) (place_of y) (four a b c d) (four a' b' c' d')
decides_refused {x} {a} {b} {c} {d} {a' = a'} {b' = b'} {c' = c'} {d' = d'} h e = subst (λ r. Decides x a b c d r a' b' c' d') e h
