-- What holds of every source that the walk gives: the limits, and that each DG's fragments follow those before it.
use Rattle.std.specs.Prelude.{ℕ, ◌≤◌, List, [], ◌∷◌, length}
use Rattle.mdf.specs.Chain.{Limits, limits}
use Rattle.mdf.specs.Walk.{Item, dg, cg, cn, Source, level_dg, level_cg, level_cn, tally, most_items}

-- each DG has no fewer fragments before it than the DG before, from lo up to hi
pub data Rising : ℕ → List Item → ℕ → Type 0 where
  none : {lo hi : ℕ} → lo ≤ hi → Rising lo [] hi
  next-dg : {lo hi a n : ℕ} {is : List Item} → lo ≤ n → Rising n is hi → Rising lo (dg a n ∷ is) hi
  next-cg : {lo hi a : ℕ} {is : List Item} → Rising lo is hi → Rising lo (cg a ∷ is) hi
  next-cn : {lo hi a : ℕ} {is : List Item} → Rising lo is hi → Rising lo (cn a ∷ is) hi

-- a DG comes first, if there is an item at all
pub data Starts : List Item → Type 0 where
  empty : Starts []
  first-dg : {a n : ℕ} {is : List Item} → Starts (dg a n ∷ is)

-- a DG comes first
pub data Begun : List Item → Type 0 where
  begun : {a n : ℕ} {is : List Item} → Begun (dg a n ∷ is)

pub record SoundWith (l : Limits) (B : List Item → Type 0) (st : Source) : Type 0 where
  pub dgs : tally level_dg.own st.items ≤ most_items
  pub cgs : tally level_cg.own st.items ≤ most_items
  pub cns : tally level_cn.own st.items ≤ most_items
  pub pieces : length st.fragments ≤ l.fragments
  pub rising : Rising 0 st.items (length st.fragments)
  pub begins : B st.items

abbrev pub Sound : Source → Type 0
Sound = SoundWith limits Starts
