-- What the laws of stores speak of: a store that is one run of 1 to 4,096 bytes of the file.
use Rattle.std.specs.Prelude.{ℕ, ◌+◌, ◌≤◌, List, length}
use Rattle.stores.specs.Stores.{Store}

pub record OneRun (f : List ℕ) (s : Store) : Type 0 where
  pub some : 1 ≤ length s.bytes
  pub most : length s.bytes ≤ 4096
  pub inside : s.at + length s.bytes ≤ length f
