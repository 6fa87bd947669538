-- A number of bytes as whole records and bytes past them, so that no product is made; and the block that holds a byte of the joined data.
use Prim.{Unit}
use Rattle.std.specs.Prelude.{ℕ, ◌+◌, ◌*◌, ◌-◌, ◌≤◌, ◌<◌, List, [], ◌∷◌, ◌≡◌, Option, Some, None}
use Rattle.base.specs.Choice.{if_lt}
use Rattle.mdf.specs.Chain.{Fragment}
use Rattle.ranges.specs.declared.seek.Rest.{Rest}
use Rattle.ranges.specs.declared.seek.Spot.{Spot}
use Rattle.ranges.specs.Blocks.{listed_from}

-- z bytes taken off left records of w bytes and off bytes
pub record Less (left off z w : ℕ) (r : Rest) : Type 0 where
  pub enough : z ≤ left * w + off
  pub is : r.left * w + r.off ≡ left * w + off - z
  pub small : r.off < w

-- or none, where they lie inside
pub record TakenOff (left off z w : ℕ) (r : Option Rest) : Type 0 where
  pub yes : r ≡ None → left * w + off < z
  pub no : {x : Rest} → r ≡ Some x → Less left off z w x

-- byte p lies in the first block, or at its end
abbrev pub FirstIn : List Fragment → ℕ → Type 0
FirstIn [] p = Unit {0}
FirstIn (f ∷ fs) p = p ≤ f.size

-- the blocks from the one on that holds byte p, and the byte's place in it
pub data Sought : Type 0 where
  nowhere : Sought
  here : List Fragment → ℕ → Sought

unfoldable pub seek_in : List Fragment → ℕ → Sought
seek_in [] p = nowhere
seek_in (f ∷ fs) p = let later = seek_in fs (p - f.size) in if_lt p f.size (here (f ∷ fs) p) later

-- the code's answer: the number of the link, past all links for none
unfoldable pub spotted : List ℕ → ℕ → ℕ → Spot → Sought
spotted s a links r = if_lt r.link links (here (listed_from s a links r.link) r.place) nowhere
