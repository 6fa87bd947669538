-- The data stage, for all columns that stand in the words.
use Rattle.std.specs.Prelude.{ℕ, ◌+◌, ◌*◌, ◌<◌, List, Bool, ◌≡◌, length, get_or, eqb, ltb, Result, ⊤}
use Rattle.fields.specs.declared.refusal.Refusal.{Refusal}
use Rattle.fields.specs.Answer.{verdict_of}
use Rattle.plan.specs.Channel.{width, both}
use Rattle.plan.specs.Columns.{Column}
use Rattle.work_words.specs.PlanWords.{columns_words}
use Rattle.plan.specs.Data.{blocks_in}

-- columns that stand in words from number k on; n fragments are kept before theirs
pub record Stand (w : List ℕ) (n k : ℕ) (cs : List Column) : Type 0 where
  pub at : (j : ℕ) → j < 8 * length cs → get_or w (8 * k + j) 0 ≡ get_or (columns_words n cs) j 0

unfoldable pub nonempty_in : List ℕ → List ℕ → ℕ → ℕ → Bool
nonempty_in s w k d =
    both (eqb (get_or w (8 * k + 2) 0) d)
    (both (ltb 0 (width s (get_or w (8 * k + 1) 0) (get_or w (8 * k) 0))) (ltb 0 (get_or w (8 * k + 3) 0)))

pub record BlocksStage (s w : List ℕ) (k size : ℕ) (r : Result ⊤ Refusal) : Type 0 where
  pub is : (n : ℕ) (cs : List Column) → Stand w n 0 cs → length cs ≡ k → verdict_of r ≡ blocks_in s size cs
