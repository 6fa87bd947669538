-- A field of two bytes.
use Rattle.plan.specs.Photos.{photo_count}
use borrow.Author.Rules.{rules}
use Rattle.photos.proofs.photo_count.Goals as goal

pub returns : goal.returns
unfolding photo_count
returns c = search rules
