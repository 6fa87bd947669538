-- The history chain by an index of its words.
use Rattle.std.specs.Prelude.{ℕ, ◌+◌, ◌≤◌, ◌<◌, List, ◌≡◌, length, get_or, drop}
use Rattle.work_words.specs.CopyWords.{history_at}
use Rattle.index.specs.Index.{Indexed}

-- x is the index of the first n words of the chain, where there are no more than it has room for and their words are there
abbrev pub ChainIndexes : List ℕ → ℕ → List ℕ → Type 0
ChainIndexes w n x = n ≤ 2048 → history_at + 2048 ≤ length w → Indexed 1 (drop history_at w) n x

-- r of n words stand in front of the first that is a; r is n where none is
pub record First (w : List ℕ) (n a r : ℕ) : Type 0 where
  pub within : r ≤ n
  pub own : r < n → get_or w r 0 ≡ a
  pub front : (j : ℕ) → j < r → get_or w j 0 ≡ a → ⊥
