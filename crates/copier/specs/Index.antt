-- An index of the copies that stand in words: chains by the remainder of where a block stood, the newest copy first.
use Rattle.std.specs.Prelude.{ℕ, zero, suc, ◌+◌, ◌*◌, ◌-◌, ◌%◌, ◌≤◌, ◌<◌, List, ◌≡◌, length, get_or}
use Rattle.std.proofs.Math.Option.{Option, none, some}
use Rattle.base.specs.Choice.{if_eq}

-- the newest of the first k copies with remainder b, numbered from 1 on; 0 for none
unfoldable pub newest : List ℕ → ℕ → ℕ → ℕ
newest w b zero = 0
newest w b (suc k) = let older = newest w b k in if_eq (get_or w (2 * k) 0 % 2039) b (suc k) older

-- x is the index of the first n copies in w: its word i is the copy before copy i in its chain, its word 2050 + b the newest of chain b
pub record Indexed (w : List ℕ) (n : ℕ) (x : List ℕ) : Type 0 where
  pub long : length x ≡ 4096
  pub chains : (i : ℕ) → i < n → get_or x i 0 ≡ newest w (get_or w (2 * i) 0 % 2039) i
  pub heads : (b : ℕ) → b < 2039 → get_or x (2050 + b) 0 ≡ newest w b n

-- where there are no more copies than an index has room for, and their words are there
abbrev pub Indexes : List ℕ → ℕ → List ℕ → Type 0
Indexes w n x = n ≤ 2050 → 2 * n ≤ length w → Indexed w n x

-- the place of copy number k, counted from 1 on; none for 0
unfoldable pub place_of : List ℕ → ℕ → Option ℕ
place_of w k = if_eq k 0 none (some (get_or w (2 * k - 1) 0))
