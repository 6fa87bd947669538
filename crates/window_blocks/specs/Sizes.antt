-- Bookkeeping: how many bytes a CG and the data of a CN have, also where the image ends inside the data that they are made from.
use Rattle.std.specs.Prelude.{ℕ, ◌+◌, Bool, List, length}
use Rattle.base.specs.Choice.{pick}
use Rattle.base.specs.Blit.{part}
use Rattle.mdf.specs.Block.{data_at}

-- 104 or 112, with the two bytes that are read
abbrev pub cg_length : List ℕ → ℕ → Bool → ℕ
cg_length s g remote = pick remote 110 102 + length (part (data_at s g + 18) 2 s)

-- 72, with all that are read
abbrev pub cn_data_length : List ℕ → ℕ → ℕ
cn_data_length s c =
    15 + length (part (data_at s c + 1) 3 s) + length (part (data_at s c + 8) 4 s) + length (part (data_at s c + 20) 2 s)
    + length (part (data_at s c + 24) 48 s)
