-- The number of links decides, as in the definition.
use native.Mathlib.Omega.{arith}
use mathlib.Core.Path.{refl}
use Rattle.mdf.specs.Block.{first_link}
use Rattle.base.specs.ChoiceLaws.{lt_yes, lt_no}
use Rattle.blocks.proofs.block.first_link.Goals as goal

pub returns-then-links_at-gt0 : goal.returns-then-links_at-gt0
unfolding first_link
returns-then-links_at-gt0 c = lt_yes _ _ _ _ (omega arith) c.link_at.ensures

pub returns : goal.returns
unfolding first_link
returns c = lt_no _ _ _ _ (omega arith) refl
