-- What follows for the fields of an image from its elements being bytes.
use Rattle.std.specs.Prelude.{ℕ, zero, suc, ◌+◌, ◌^◌, ◌<◌, List, Bool, true, false, eqb, get_or}
use Rattle.std.proofs.Common.{pow-suc, arith, lit<}
use Rattle.base.specs.Choice.{pick, if_eq}
use Rattle.base.specs.Field.{le_at}
use Rattle.mdf.specs.Block.{kind_at, size_at, links_at, data_at}
use Rattle.plan.specs.Channel.{bit_offset, bit_count, channel_bytes}

pub choice_small : (m n a b k : ℕ) → a < k → b < k → if_eq m n a b < k
unfolding if_eq
choice_small m n a b k h i = go (eqb m n)
  where
    go : (t : Bool) → pick t a b < k
    go true = h
    go false = i

-- a field of n bytes is below 256 ^ n
pub field_below : (s : List ℕ) → ((i : ℕ) → get_or s i 0 < 256) → (n at : ℕ) → le_at n s at < 256 ^ n
unfolding le_at
field_below s bytes zero at = lit< tt
field_below s bytes (suc n) at =
    let b = bytes at in
    let more = field_below s bytes n (at + 1) in
    rw pow-suc (omega arith)

module _ (s : List ℕ) (bytes : (i : ℕ) → get_or s i 0 < 256) where
  pub kind-below : (a : ℕ) → kind_at s a < 256 ^ 4
  unfolding kind_at
  kind-below a = field_below s bytes 4 a

  pub size_below : (a : ℕ) → size_at s a < 256 ^ 8
  unfolding size_at
  size_below a = field_below s bytes 8 (a + 8)

  pub links_below : (a : ℕ) → links_at s a < 256 ^ 8
  unfolding links_at
  links_below a = field_below s bytes 8 (a + 16)

  pub bytes_below : (c : ℕ) → channel_bytes s c < 256 ^ 4
  unfolding channel_bytes bit_offset bit_count
  bytes_below c =
      let o : le_at 1 s (data_at s c + 3) < 256 = field_below s bytes 1 (data_at s c + 3) in
      let n : le_at 4 s (data_at s c + 8) < 4294967296 = field_below s bytes 4 (data_at s c + 8) in
      choice_small _ _ _ _ _ (lit< tt) (choice_small _ _ _ _ _ (lit< tt) (omega arith))
