-- Bookkeeping: what of some bytes lies in a window.
use Rattle.std.specs.Prelude.{ℕ, ◌+◌, ◌≤◌, List, ◌≡◌, length}
use Rattle.base.specs.Blit.{blit, part}
use Rattle.stores.specs.Over.{over}
use Rattle.windows.specs.declared.seen.Seen.{Seen}

-- of n bytes that stand at index at of the file, in a window of room bytes that begins at a: to lay them over it is to store these at their index
pub record SeenIn (room a at n : ℕ) (r : Seen) : Type 0 where
  pub is : (bs w : List ℕ) → length bs ≡ n → length w ≡ room → over a at bs w ≡ blit r.to (part r.skip r.count bs) w
  pub within : r.skip + r.count ≤ n
  pub fits : r.to + r.count ≤ room
