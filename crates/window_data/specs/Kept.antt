-- Bookkeeping: the records of a group, at places that are kept, in the blocks of its column over a window.
use Rattle.std.specs.Prelude.{ℕ, List, ◌≡◌}
use Rattle.places.specs.Stretch.{number_in}
use Rattle.places.specs.Pool.{Pooled}
use Rattle.places.specs.Longer.{OffsetsIn}
use Rattle.data_blocks.specs.declared.piece.Form.{Form}
use Rattle.window_data.specs.Filled.{FilledIn}

-- those from number r up to b are laid, by kept stretches
abbrev pub PoolFilledIn : ℕ → List ℕ → ℕ → ℕ → List ℕ → Form → List ℕ → ℕ → ℕ → List ℕ → List ℕ → Type 0
PoolFilledIn a s d g ws f p r b w last =
    (gs_of ws_of : ℕ → List ℕ) → ws_of d ≡ ws → Pooled s gs_of ws_of p → FilledIn a s d (number_in g (gs_of d)) (gs_of d) ws f r b w last

-- those from number r up to b are laid, if n words of p tell the places of records
abbrev pub ListFilledIn : ℕ → List ℕ → List ℕ → Form → List ℕ → ℕ → ℕ → ℕ → ℕ → List ℕ → List ℕ → Type 0
ListFilledIn a s ws f p first n r b w last = (d k : ℕ) (gs : List ℕ) → OffsetsIn s d k gs ws p first n → FilledIn a s d k gs ws f r b w last
