-- The code's answers, as definitions speak of them.
use Rattle.std.specs.Prelude.{ℕ, Some, None}
use Rattle.std.specs.Prelude as std
use Rattle.std.proofs.Math.Option.{Option, none, some}

abbrev pub found_of : std.Option ℕ → Option ℕ
found_of (Some a) = some a
found_of None = none

-- a link to a block that isn't copied becomes 0
abbrev pub link_of : Option ℕ → ℕ
link_of none = 0
link_of (some a) = a
