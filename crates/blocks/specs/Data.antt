-- Where a block's data begins, in the image or at its end.
use Rattle.std.specs.Prelude.{ℕ, min, List, ◌≡◌, length}
use Rattle.mdf.specs.Block.{data_at}

abbrev pub Begins : List ℕ → ℕ → ℕ → Type 0
Begins s a r = r ≡ min (data_at s a) (length s)
