-- The bytes of fragments whose words are kept, three for each: offset, size, kind.
use Rattle.std.specs.Prelude.{ℕ, zero, suc, ◌+◌, ◌*◌, ◌-◌, List, get_or}
use Rattle.base.specs.Choice.{if_eq}

-- the sizes of so many fragments from number i on
unfoldable pub sizes_from : List ℕ → ℕ → ℕ → ℕ
sizes_from f i zero = 0
sizes_from f i (suc n) = get_or f (3 * i + 1) 0 + sizes_from f (i + 1) n

-- the bytes of signal data, by a column's two words for it: 0 for none, else the number of fragments before its own and 1; and how many they are
unfoldable pub signal_size : List ℕ → ℕ → ℕ → ℕ
signal_size f first n = if_eq first 0 0 (sizes_from f (first - 1) n)
