-- The copies that stand in lent words, two words each: where a block stood and where it is placed.
use Rattle.std.specs.Prelude.{ℕ, zero, suc, ◌+◌, ◌*◌, ◌≤◌, List, [], ◌∷◌, ◌≡◌, length, get_or, drop}
use Rattle.plan.specs.Copies.{Copy, Copies, copies}
use Rattle.copier.specs.declared.memo.Copying.{Copying}

abbrev pub copy : ℕ → ℕ → Copy
copy a b = record { from = a; to = b }

-- so many copies, from word p on
unfoldable pub copies_from : List ℕ → ℕ → ℕ → List Copy
copies_from w p zero = []
copies_from w p (suc k) = copy (get_or w p 0) (get_or w (p + 1) 0) ∷ copies_from w (p + 2) k

-- the first copies of the words
abbrev pub copies_in : List ℕ → ℕ → List Copy
copies_in w k = copies_from w 0 k

-- the copies in the words, and the end of what is placed
abbrev pub standing : List ℕ → Copying → Copies
standing w s = copies (copies_in w s.used) s.next

-- the end of what is placed leaves room for every copy that may come
pub record Room (used next : ℕ) : Type 0 where
  pub few : used ≤ 2050
  pub near : next ≤ 1152921504606846976 + used * 536870912

-- copying can begin: 8,192 words are lent, no more than 2,050 copies are allowed or stand, and what is placed leaves
-- room for them
pub record Ready (w : List ℕ) (most : ℕ) (s : Copying) : Type 0 where
  pub words : 8192 ≤ length w
  pub limit : most ≤ 2050
  pub few : s.used ≤ 2050
  pub near : s.next ≤ 576460752303423488

-- the words from an index on are as they were
pub record Past (n : ℕ) (w w' : List ℕ) : Type 0 where
  pub kept : drop n w' ≡ drop n w
