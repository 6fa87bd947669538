-- What is noted of the items so that a group is found without going over them: their index, and for each the groups before it and its DG.
use Rattle.std.specs.Prelude.{ℕ, zero, suc, ◌+◌, ◌*◌, ◌≤◌, ◌<◌, List, ◌≡◌, get_or}
use Rattle.base.specs.Choice.{if_eq}
use Rattle.work_words.specs.Words.{marks_at}
use Rattle.index.specs.Index.{Indexed}

-- the number of groups before item k
unfoldable pub groups_before : List ℕ → ℕ → ℕ
groups_before w zero = 0
groups_before w (suc k) = let g = groups_before w k in if_eq (get_or w (marks_at + k) 0) 1 (g + 1) g

-- the address of the last DG before it, 0 for none
unfoldable pub data_before : List ℕ → ℕ → ℕ
data_before w zero = 0
data_before w (suc k) = let d = data_before w k in if_eq (get_or w (marks_at + k) 0) 0 d (if_eq (get_or w (marks_at + k) 0) 1 d (get_or w k 0))

-- t has both for each of n items, x is their index
pub record Noted (w : List ℕ) (n : ℕ) (t x : List ℕ) : Type 0 where
  pub index : Indexed 1 w n x
  pub groups : (k : ℕ) → k < n → get_or t (2 * k) 0 ≡ groups_before w k
  pub owner : (k : ℕ) → k < n → get_or t (2 * k + 1) 0 ≡ data_before w k

-- item k is a group with its CG at a
pub record GroupAt (w : List ℕ) (k a : ℕ) : Type 0 where
  pub mark : get_or w (marks_at + k) 0 ≡ 1
  pub at : get_or w k 0 ≡ a

-- the first of n items that is one is r - 1; r is 0 for none
pub record FirstAt (w : List ℕ) (n a r : ℕ) : Type 0 where
  pub room : r ≤ n
  pub own : (k : ℕ) → k + 1 ≡ r → GroupAt w k a
  pub first : (k : ℕ) → k < n → GroupAt w k a → (0 < r) × (r ≤ k + 1)
