-- Lists of lists of one length, their joining, and membership.
use Rattle.std.specs.Prelude.{ℕ, zero, suc, List, [], ◌∷◌, ◌++◌, ◌≡◌, length, take, drop}
use Rattle.result.specs.Guarantee.{In, here, there}
pub use Rattle.base.specs.BlitLaws.{length_part}

-- every list has n elements
pub data Long (n : ℕ) : List (List ℕ) → Type 0 where
  none : Long n []
  next : {r : List ℕ} {rs : List (List ℕ)} → length r ≡ n → Long n rs → Long n (r ∷ rs)

-- the lists one after the other
unfoldable pub together : List (List ℕ) → List ℕ
together [] = []
together (p ∷ ps) = p ++ together ps

pub long-append : {n : ℕ} {rs : List (List ℕ)} (ts : List (List ℕ)) → Long n rs → Long n ts → Long n (rs ++ ts)
long-append ts none t = t
long-append ts (next e l) t = next e (long-append ts l t)

pub long-drop : {n : ℕ} {rs : List (List ℕ)} (i : ℕ) → Long n rs → Long n (drop i rs)
long-drop zero l = l
long-drop (suc i) none = none
long-drop (suc i) (next e l) = long-drop i l

pub long-take : {n : ℕ} {rs : List (List ℕ)} (i : ℕ) → Long n rs → Long n (take i rs)
long-take zero l = none
long-take (suc i) none = none
long-take (suc i) (next e l) = next e (long-take i l)

-- an element of two lists joined is in one of them
pub in_append : {A B : Type 0} {x : A} (as' bs : List A) → (In x as' → B) → (In x bs → B) → In x (as' ++ bs) → B
in_append [] bs f g i = g i
in_append (a ∷ as') bs f g here = f here
in_append (a ∷ as') bs f g (there i) = in_append as' bs (λ j. f (there j)) g i
