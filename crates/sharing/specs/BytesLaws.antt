-- Laws of equal bytes: slices are equal where their lists are the same.
use Rattle.std.specs.Prelude.{ℕ, ◌+◌, ◌-◌, List, [], ◌∷◌, Bool, true, false, ◌&&◌, ◌≡◌, refl, eqb, take, drop}
use Rattle.std.proofs.Common.{◌∙◌, arith}
use lib.Pointwise.{pointwise}
use Rattle.base.specs.Choice.{pick, if_eq}
use Rattle.base.specs.Blit.{part}
use Rattle.result.specs.Sharing.{same}

first_and : (b c : Bool) → (b && c) ≡ pick b c false
first_and true c = refl
first_and false c = refl

all-same : (xs ys : List ℕ) → pointwise eqb xs ys ≡ same xs ys
unfolding same if_eq
all-same [] [] = refl
all-same [] (y ∷ ys) = refl
all-same (x ∷ xs) [] = refl
all-same (x ∷ xs) (y ∷ ys) = rw (all-same xs ys) (first_and (eqb x y) (same xs ys))

pub slices-same : (s : List ℕ) (p q n : ℕ) {r : Bool} → r ≡ pointwise eqb (take (p + n - p) (drop p s)) (take (q + n - q) (drop q s)) → r ≡ same (part p n s) (part q n s)
unfolding part
slices-same s p q n e =
    let i : p + n - p ≡ n = omega arith in
    let j : q + n - q ≡ n = omega arith in
    rw (i, j) at (e ∙ all-same (take (p + n - p) (drop p s)) (take (q + n - q) (drop q s)))
