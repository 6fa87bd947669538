-- Where a DG stands among the items.
use Rattle.std.specs.Prelude.{ℕ, ◌+◌, List, [], ◌∷◌}
use Rattle.base.specs.Choice.{if_eq}
use Rattle.mdf.specs.Walk.{Item, dg, cg, cn}

-- the number of the item past the first DG at d, of items from number k on; past them all where there is none
unfoldable pub past_dg : ℕ → ℕ → List Item → ℕ
past_dg d k [] = k
past_dg d k (dg a n ∷ is) = let more = past_dg d (k + 1) is in if_eq a d (k + 1) more
past_dg d k (cg a ∷ is) = past_dg d (k + 1) is
past_dg d k (cn a ∷ is) = past_dg d (k + 1) is
