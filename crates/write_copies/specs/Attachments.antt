-- Room for an attachment and its own copies.
use Rattle.std.specs.Prelude.{ℕ, ◌+◌, ◌≤◌, List}
use Rattle.mdf.specs.Block.{size_at}
use Rattle.plan.specs.Copies.{Copy}
use Rattle.copies_laws.specs.Laid.{Laid}
use Rattle.copies_laws.specs.AttachLaws.{Moved}

-- from p on there is room for own copies, then for an AT at y made of the one at x, up to e
pub record Placing (s : List ℕ) (p : ℕ) (own : List Copy) (x y e : ℕ) : Type 0 where
  pub laid : Laid s p own y
  pub moved : Moved s x
  pub ends : y + size_at s x ≤ e
