-- The places of columns in words, and what the code answers: an end past 2^59 isn't told.
use Rattle.std.specs.Prelude.{ℕ, ◌≤◌, ◌<◌, List, [], ◌∷◌, ◌++◌, ◌≡◌, Option, Some, None}
use Rattle.base.specs.Blit.{blit}
use Rattle.plan.specs.Layout.{Sizes, Places, first_at, blocks_end, signal_at, past_data, places_from, places_end}
use Rattle.work_words.specs.CopyWords.{placed_at}
use Rattle.copier.specs.Standing.{copies_in}
use Rattle.thin.specs.TakenOut.{most_file}
use Rattle.arranging.specs.declared.placement.Spot.{Spot}
use Rattle.arranging.specs.Sized.{sizes_in}

-- three words for each column: the places of its DG, of its first data block and of its SD
unfoldable pub place_words : List Places → List ℕ
place_words [] = []
place_words (p ∷ ps) = (p.dg ∷ p.first ∷ p.sd ∷ []) ++ place_words ps

-- an end
abbrev pub Ends : Option ℕ → ℕ → Type 0
Ends (Some e) x = (e ≡ x) × (e ≤ most_file)
Ends None x = most_file < x

-- the data of one column, from d on
pub record Spotted (u : ℕ) (z : Sizes) (d f g e : ℕ) : Type 0 where
  pub first : f ≡ first_at u z d
  pub sd : g ≡ signal_at u z.signal (blocks_end z (first_at u z d))
  pub end : e ≡ past_data u z d
  pub near : e ≤ most_file

abbrev pub Spots : ℕ → Sizes → ℕ → Option Spot → Type 0
Spots u z d (Some r) = Spotted u z d r.first r.sd r.end
Spots u z d None = most_file < past_data u z d

-- all columns, n of them: their places over the words m, and past their data
pub record PlacedIn (u : ℕ) (s w : List ℕ) (n a d : ℕ) (m m' : List ℕ) (e : ℕ) : Type 0 where
  pub ends : e ≡ places_end u d (sizes_in s w 0 n)
  pub near : e ≤ most_file
  pub words : m' ≡ blit placed_at (place_words (places_from u a d (sizes_in s w 0 n))) m

-- past 2^59: the copies stand as they stood
pub record PlacedOver (u : ℕ) (s w : List ℕ) (n d : ℕ) (m m' : List ℕ) : Type 0 where
  pub over : most_file < places_end u d (sizes_in s w 0 n)
  pub copies : (k : ℕ) → k ≤ 2050 → copies_in m' k ≡ copies_in m k

abbrev pub AllPlaced : ℕ → List ℕ → List ℕ → ℕ → ℕ → ℕ → List ℕ → List ℕ → Option ℕ → Type 0
AllPlaced u s w n a d m m' (Some e) = PlacedIn u s w n a d m m' e
AllPlaced u s w n a d m m' None = PlacedOver u s w n d m m'
