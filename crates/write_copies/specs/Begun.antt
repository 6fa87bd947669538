-- A file that is written up to a point: some of its blocks, the others still to come.
use Rattle.std.specs.Prelude.{ℕ, ◌≤◌, List, ◌++◌, length}
use Rattle.result.specs.Fill.{Block}
use Rattle.result.specs.Ordered.{Ordered}
use Rattle.write_copies.specs.Wrote.{Wrote}

-- the blocks before were written over out, which gave last; a is past them; all end by e, for which out has room
pub record Begun (before rest : List Block) (e a : ℕ) (out last : List ℕ) : Type 0 where
  pub wrote : Wrote 0 before a out last
  pub ordered : Ordered 0 (before ++ rest) e
  pub room : e ≤ length out
