-- The code's answer to a number and to what stands past a dot, as the definition's.
use Rattle.std.specs.Prelude.{ℕ, List, Option, Some, None}
use Rattle.std.specs.Borrow.{Bor}
use Rattle.mdf.specs.Identification.{Number, unreadable, value, Rest, absent, rest}

abbrev pub number_of : Option ℕ → Number
number_of None = unreadable
number_of (Some n) = value n

abbrev pub rest_of : Option (Bor (List ℕ)) → Rest
rest_of None = absent
rest_of (Some r) = rest r.now
