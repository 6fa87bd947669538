-- The parts of a step: a number of 64 bits, a record's bytes past its id, and the record itself.
use Rattle.std.specs.Prelude.{ℕ, ◌+◌, List, length}
use Rattle.base.specs.Choice.{pick, if_lt, if_le}
use Rattle.base.specs.Field.{le_at}
use Rattle.mdf.specs.Chain.{Fragment}
use Rattle.mdf.specs.Group.{samples, inval_bytes, is_storage}
use Rattle.mdf.specs.Records.{most64, joined}
use Rattle.records.specs.Ahead.{spot_past, Reached, halted, up_to}

-- a number, or none
pub data Numeral : Type 0 where
  none : Numeral
  value : ℕ → Numeral

-- a number that 64 bits hold
unfoldable pub numeral : ℕ → Numeral
numeral n = if_lt most64 n none (value n)

-- "a record is its id, then samples + invalidation bytes; in a VLSD storage group a 32-bit length and that many bytes follow the id":
-- the bytes past the id of a record of the group at g, where d begins past the id
unfoldable pub body_of : List ℕ → List ℕ → ℕ → Numeral
body_of s d g =
    pick (is_storage s g) (if_le 4 (length d) (value (4 + le_at 4 d 0)) none) (value (samples s g + inval_bytes s g))

abbrev pub on_numeral : Numeral → (ℕ → Reached) → Reached
on_numeral none f = halted
on_numeral (value n) f = f n

-- a record of group number k, whose CG is at g, past its id
unfoldable pub body_to : List ℕ → ℕ → ℕ → List Fragment → ℕ → Reached
body_to s k g fs at = on_numeral (body_of s (joined s fs) g) (λ m. up_to (spot_past m fs at) k m)
