-- Where the data begins past the image there is nothing; else it begins where the code says.
use native.Mathlib.Nat.{min-le_left}
use Rattle.window_blocks.specs.SizesLaws.{length_there}
use Rattle.window_blocks.proofs.data_there.Goals as goal

pub returns : goal.returns
returns c = rw (c.min.ensures, c.saturating_sub.ensures) (length_there _ _ _ _ _ c.data_at-from.ensures, min-le_left _ _)
