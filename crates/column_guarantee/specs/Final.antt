-- A column's data blocks and its SD in the final bytes: "its blocks final" (document 02, request 4).
use Rattle.std.specs.Prelude.{ℕ, List, [], ◌∷◌, ◌++◌}
use Rattle.plan.specs.Layout.{Placed}
use Rattle.result.specs.Fill.{Block, sd_blocks}
use Rattle.result.specs.Result.{Args}
use Rattle.result.specs.Guarantee.{Stands}
use Rattle.shown_laws.specs.ColumnShown.{blocks_at}

-- the bytes of blocks, one after the other
unfoldable pub bytes_of : List Block → List ℕ
bytes_of [] = []
bytes_of (b ∷ bs) = b.bytes ++ bytes_of bs

-- exactly its blocks' bytes stand from the address of the first on, and exactly its SD's at the address of the SD
pub record ColumnFinal (x : Args) (f : List ℕ) (p : Placed) : Type 0 where
  pub blocks : Stands f p.first (bytes_of (blocks_at x.image x.block_size p))
  pub signal : Stands f p.sd (bytes_of (sd_blocks x.image p.column.signal_of p.sd))
