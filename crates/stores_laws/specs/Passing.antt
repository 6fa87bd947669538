-- Which calls of the converter document 02's request 11 speaks of.
use Rattle.std.specs.Prelude.{◌≤◌, ◌<◌, ◌≡◌, length}
use Rattle.base.specs.Checked.{fine}
use Rattle.plan.specs.Rules.{choices_in}
use Rattle.result.specs.Result.{Args, rules_of, lent_in}

-- "called with arguments that pass 1, 2, 26, 27 and 3"
pub record Passing (y : Args) : Type 0 where
  pub lent : lent_in y ≡ fine
  pub size : 0 < y.block_size
  pub chosen : choices_in (rules_of y) ≡ fine
  pub image : length y.image ≤ 4294967296
