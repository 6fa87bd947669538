-- An index of addresses in words, one in s words: chains by an address's remainder, the newest first.
use Rattle.std.specs.Prelude.{ℕ, zero, suc, ◌+◌, ◌*◌, ◌%◌, ◌<◌, List, ◌≡◌, length, get_or, set}
use Rattle.base.specs.Choice.{if_lt, if_le, if_eq}

-- the newest of the first k addresses with remainder b, numbered from 1 on; 0 for none
unfoldable pub newest : ℕ → List ℕ → ℕ → ℕ → ℕ
newest s w b zero = 0
newest s w b (suc k) = let older = newest s w b k in if_eq (get_or w (s * k) 0 % 2039) b (suc k) older

-- x is the index of the first n addresses in w: its word i is the address before address i in its chain, its word 2048 + b the newest of chain b
pub record Indexed (s : ℕ) (w : List ℕ) (n : ℕ) (x : List ℕ) : Type 0 where
  pub long : length x ≡ 4096
  pub chains : (i : ℕ) → i < n → get_or x i 0 ≡ newest s w (get_or w (s * i) 0 % 2039) i
  pub heads : (b : ℕ) → b < 2039 → get_or x (2048 + b) 0 ≡ newest s w b n

-- x with address number n, a, as the newest of its chain, heads from word h on: the number before it there is word n. Where the 2,039 heads don't
-- end with the 4,096 words, or n is not before them, x as it is
unfoldable pub entered : ℕ → ℕ → ℕ → List ℕ → List ℕ
entered h n a x =
    if_le (h + 2039) 4096 (if_lt n h (set (set x n (get_or x (h + a % 2039) 0)) (h + a % 2039) (n + 1)) x) x
