-- The count at data byte 22.
use Rattle.plan.specs.Photos.{photo_count}
use borrow.Author.Rules.{rules}
use Rattle.thinning.proofs.column.photos_of.Goals as goal

pub returns : goal.returns
unfolding photo_count
returns c = search rules
