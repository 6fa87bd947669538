-- Bookkeeping: a DL from one of its links on.
use Rattle.std.specs.Prelude.{ℕ, List, ◌++◌}
use Rattle.base.specs.Field.{le}
use Rattle.result.specs.Fill.{block_links}

-- the data of a DL of n blocks
unfoldable pub dl_data : ℕ → ℕ → List ℕ
dl_data payload n = le 4 1 ++ le 4 n ++ le 8 payload

-- its last k links, the first of them b, and its data
unfoldable pub dl_tail : ℕ → ℕ → ℕ → ℕ → List ℕ
dl_tail payload n k b = block_links payload k b ++ dl_data payload n
