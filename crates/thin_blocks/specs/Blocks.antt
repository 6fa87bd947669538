-- DG and CG of a kept column as Fill gives them, over the numbers that they hold.
use Rattle.std.specs.Prelude.{ℕ, List, [], ◌++◌, Bool}
use Rattle.base.specs.Choice.{pick}
use Rattle.base.specs.Field.{le}
use Rattle.mdf.specs.Block.{kind_dg}
use Rattle.result.specs.Fill.{header}
use Rattle.filling.specs.Blocks.{cg_front}
use Rattle.thin.specs.Fill.{kept_data}

-- with the data of the DG at a
unfoldable pub dg_kept : List ℕ → ℕ → ℕ → ℕ → ℕ → ℕ → List ℕ
dg_kept s a next cg dl comment = header kind_dg 64 4 ++ le 8 next ++ le 8 cg ++ le 8 dl ++ le 8 comment ++ kept_data 8 s a

-- with the data of the CG at g; master is the master's CG, where it has one
unfoldable pub cg_kept : List ℕ → ℕ → ℕ → ℕ → ℕ → ℕ → Bool → ℕ → List ℕ
cg_kept s g cn name source comment remote master =
    cg_front remote cn name source comment ++ pick remote (le 8 master) [] ++ kept_data 32 s g
