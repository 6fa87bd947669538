-- The links but the first.
use mathlib.Core.Path.{refl}
use Rattle.arranging.specs.Sized.{blocks_in}
use Rattle.arranging.proofs.sizes.blocks_of.Goals as goal

pub returns : goal.returns
unfolding blocks_in
returns c = cc
