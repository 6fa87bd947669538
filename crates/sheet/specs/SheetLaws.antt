-- What the laws of the inventory sheet speak of: what stands below the headings.
use Rattle.std.specs.Prelude.{ℕ, List, [], ◌∷◌, ◌++◌}

-- the lines of a page below its heading, of all pages
abbrev pub below : List (List ℕ) → List (List ℕ)
below [] = []
below (h ∷ ls) = ls

abbrev pub bodies : List (List (List ℕ)) → List (List ℕ)
bodies [] = []
bodies (p ∷ ps) = below p ++ bodies ps
