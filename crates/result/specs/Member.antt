-- Members of a list.
use Rattle.std.specs.Prelude.{List, ◌∷◌}

pub data In {A : Type 0} (b : A) : List A → Type 0 where
  here : {bs : List A} → In b (b ∷ bs)
  there : {c : A} {bs : List A} → In b bs → In b (c ∷ bs)
