-- By a product.
use Rattle.std.proofs.lemmas.Bool.{false≢true}
use mathlib.Core.Path.{sym, ◌∙◌}
use native.Mathlib.Omega.{arith}
use Rattle.cells.proofs.run.has_room.Goals as goal

pub returns-then-size-at : goal.returns-then-size-at
returns-then-size-at c = (λ e. absurd (false≢true e), λ _ r. omega arith)

pub returns : goal.returns
returns c = (
  λ e. omega (arith, c.product_within.ensures.0 e),
  λ e r. absurd (false≢true (sym e ∙ c.product_within.ensures.1 (omega arith))),
)
