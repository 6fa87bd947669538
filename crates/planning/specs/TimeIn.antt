-- The time column of a group, in the words of columns.
use Rattle.std.specs.Prelude.{ℕ, zero, suc, ◌+◌, ◌*◌, List, Bool, get_or, eqb}
use Rattle.base.specs.Choice.{pick}
use Rattle.plan.specs.Channel.{both}

-- column k is the time column of the group at g
unfoldable pub is_time_in : List ℕ → ℕ → ℕ → Bool
is_time_in w k g = both (eqb (get_or w (8 * k + 4) 0) 1) (eqb (get_or w (8 * k + 1) 0) g)

-- its number and 1, among n columns from k on; 0 for none
unfoldable pub time_in : List ℕ → ℕ → ℕ → ℕ → ℕ
time_in w g k zero = 0
time_in w g k (suc n) = let later = time_in w g (k + 1) n in pick (is_time_in w k g) (k + 1) later
