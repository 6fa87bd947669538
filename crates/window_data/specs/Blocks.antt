-- The data blocks of a column over a window, and what is asked and promised of laying them.
use Rattle.std.specs.Prelude.{ℕ, List, ◌≡◌, get_or}
use Rattle.mdf.specs.Records.{most64}
use Rattle.places.specs.Stretch.{number_in, Ready}
use Rattle.stores.specs.Over.{over}
use Rattle.data_blocks.specs.declared.column.Column.{Column}
use Rattle.data_blocks.specs.declared.piece.Form.{Form}
use Rattle.data_blocks.specs.Region.{region_of, Due}
use Rattle.data_blocks.specs.Blocks.{column_records, blocks_bytes, BlocksReady, PlacesKept}

-- bookkeeping: all records of the column's group are laid, and the places that are kept stay right
abbrev pub LaysRecords : ℕ → List ℕ → List ℕ → List ℕ → Column → Form → List ℕ → List ℕ → List ℕ → List ℕ → List ℕ → List ℕ → Type 0
LaysRecords a s gs ws c f p last-p q last-q w last =
    (gs_of ws_of : ℕ → List ℕ) → gs_of c.parent ≡ gs → ws_of c.parent ≡ ws → PlacesKept s gs_of ws_of p q
    → Ready s c.parent (number_in c.group gs) gs ws → get_or gs (number_in c.group gs) 0 ≡ f.shape.group → Due f (column_records s gs ws c)
    → PlacesKept s gs_of ws_of last-p last-q × (last ≡ over a 0 (region_of s f (column_records s gs ws c)) w)

-- exactly the blocks are laid over the window, which begins at index a of them; the places that are kept stay right
abbrev pub LaysBlocks : ℕ → List ℕ → ℕ → List ℕ → List ℕ → Column → List ℕ → List ℕ → List ℕ → List ℕ → List ℕ → List ℕ → Type 0
LaysBlocks a s size gs ws c p last-p q last-q w last =
    (gs_of ws_of : ℕ → List ℕ) → gs_of c.parent ≡ gs → ws_of c.parent ≡ ws → PlacesKept s gs_of ws_of p q → BlocksReady s size gs ws c most64
    → PlacesKept s gs_of ws_of last-p last-q × (last ≡ over a 0 (blocks_bytes s size gs ws c) w)
