-- The omissions as they stand in words, and as the list has them.
use Rattle.std.specs.Prelude.{ℕ, zero, suc, ◌+◌, List, [], ◌∷◌, ◌++◌, slice_index}
use Rattle.work_words.specs.PlanWords.{omissions_at}

-- n words from index i on, every second one
unfoldable pub every_other : List ℕ → ℕ → ℕ → List ℕ
every_other w i zero = []
every_other w i (suc n) = slice_index w i ∷ every_other w (i + 2) n

-- their number, their addresses, their reasons
unfoldable pub listed : List ℕ → ℕ → List ℕ
listed w n = n ∷ (every_other w omissions_at n ++ every_other w (omissions_at + 1) n)
