-- So many steps of a conversion in one call: what they leave.
use Rattle.std.specs.Prelude.{ℕ, zero, suc, ◌+◌, ◌-◌, ◌≤◌, ◌<◌, min, List, ◌≡◌}
use Rattle.result.specs.Result.{Args, decided}
use Rattle.stores.specs.Stores.{Running}
use Rattle.passes.specs.Passes.{advanced}
use Rattle.writing.specs.Answer.{file_for}
use Rattle.steps.specs.declared.conversion.Conversion.{Conversion}
use Rattle.steps.specs.Conversion.{at_next}
use Rattle.steps.specs.Steps.{list_for, Holds, running_of, OneStore, Lent, lent, all_cleared}

-- bookkeeping: so many steps of the call x by the definition
abbrev pub advanced_from : Args → Conversion → ℕ → List ℕ → List ℕ → ℕ → Running
advanced_from x k stores file list high = advanced (file_for x (decided x)) (list_for (decided x)) stores (running_of k file list high)

-- where the plan stands and file and list have room, the steps are the definition's, and until the last store the plan stands
pub record Advances (x : Args) (k : Conversion) (stores : ℕ) (file list : List ℕ) (r : Conversion) (v f w m p q file' list' : List ℕ) : Type 0 where
  pub runs : (high : ℕ) → running_of r file' list' (advanced_from x k stores file list high).high ≡ advanced_from x k stores file list high
  pub holds : k.next + stores < k.steps → Holds x r v f w m p q

-- ---- of any state and any words

-- a store, and what is left after it
pub record Then (old : List ℕ) (more : List ℕ → Type 0) : Type 0 where
  pub between : List ℕ
  pub store : OneStore old between
  pub after : more between

-- at most n runs of at most 4,096 bytes changed, one after the other
unfoldable pub ManyStores : ℕ → List ℕ → List ℕ → Type 0
ManyStores zero old new = new ≡ old
ManyStores (suc n) old new = Then old (λ b. ManyStores n b new)

-- state, file, list and words as they were
abbrev pub Unchanged : Conversion → Conversion → List ℕ → List ℕ → List ℕ → List ℕ → Lent → Lent → Type 0
Unchanged k r file file' list list' l l' = (r ≡ k) × (file' ≡ file) × (list' ≡ list) × (l' ≡ l)

-- nothing changes after the last store, nor by no store; else the state goes on by so many stores, at most to the last; list and plan change only
-- with the last store, and all words are cleared then
pub record BoundedBy (stores : ℕ) (k r : Conversion) (file file' list list' : List ℕ) (l l' : Lent) : Type 0 where
  pub further : k.steps ≤ k.next → Unchanged k r file file' list list' l l'
  pub none : stores ≡ 0 → Unchanged k r file file' list list' l l'
  pub onward : k.next < k.steps → r ≡ at_next k (min (k.next + stores) k.steps)
  pub many : ManyStores (min stores (k.steps - k.next)) file file'
  pub before : k.next + stores < k.steps → (list' ≡ list) × (l' ≡ lent l.source l.fragments l.columns l.copies l'.stretches l'.offsets)
  pub last : k.next < k.steps → k.steps ≤ k.next + stores → l' ≡ all_cleared l
