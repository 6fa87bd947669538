-- Bookkeeping: choices by a test on numbers, at any type. They stay shut; ChoiceLaws has the way through them.
use Rattle.std.specs.Prelude.{ℕ, Bool, true, false, ltb, leb, eqb}

-- a choice by a test
abbrev pub pick : {A : Type 0} → Bool → A → A → A
pick true a b = a
pick false a b = b

-- a where m < n, else b
unfoldable pub if_lt : {A : Type 0} → ℕ → ℕ → A → A → A
if_lt m n a b = pick (ltb m n) a b

-- a where m ≤ n, else b
unfoldable pub if_le : {A : Type 0} → ℕ → ℕ → A → A → A
if_le m n a b = pick (leb m n) a b

-- a where m ≡ n, else b
unfoldable pub if_eq : {A : Type 0} → ℕ → ℕ → A → A → A
if_eq m n a b = pick (eqb m n) a b
