-- The data blocks of a column: records per block, their number and lengths (document 01, placement).
use Rattle.std.specs.Prelude.{ℕ, ◌+◌, ◌*◌, ◌-◌, ◌/◌, ◌%◌, max}
use Rattle.base.specs.Choice.{if_le, if_eq}

-- "the next multiple of 8"
unfoldable pub align8 : ℕ → ℕ
align8 x = (x + 7) / 8 * 8

-- "the next multiple of it", of a unit (document 02, request 5)
unfoldable pub align_to : ℕ → ℕ → ℕ
align_to u x = (x + (u - 1)) / u * u

-- "the largest power of two, at most 8, that divides the width"
unfoldable pub power_in : ℕ → ℕ
power_in w = if_eq (w % 8) 0 8 (if_eq (w % 4) 0 4 (if_eq (w % 2) 0 2 1))

-- "Step is 8 divided by" it
unfoldable pub step_of : ℕ → ℕ
step_of w = 8 / power_in w

-- "Records per block = max(step, floor(floor(block size / width) / step) × step)"
unfoldable pub per_block : ℕ → ℕ → ℕ
per_block size w = max (step_of w) (size / w / step_of w * step_of w)

-- "full payload": that of a block with as many records as may be
unfoldable pub full_payload : ℕ → ℕ → ℕ
full_payload size w = per_block size w * w

-- "A column of width 0 or without records has no blocks"; the last block holds what is left
unfoldable pub block_count : ℕ → ℕ → ℕ → ℕ
block_count size w n = if_eq (w * n) 0 0 ((n + per_block size w - 1) / per_block size w)

-- records of a block that is not the last; "if all fit one block, that block holds just them"
unfoldable pub per_full : ℕ → ℕ → ℕ → ℕ
per_full size w n = if_le n (per_block size w) n (per_block size w)

-- "64-bit payload" of the DL: that of a block that is not the last, or of the only one
unfoldable pub block_payload : ℕ → ℕ → ℕ → ℕ
block_payload size w n = per_full size w n * w
