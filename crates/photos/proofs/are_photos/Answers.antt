-- The words of the chain are its attachments.
use Rattle.photos.specs.FollowedLaws.{attached_all}
use Rattle.photos.proofs.are_photos.Goals as goal

pub returns : goal.returns
returns c = attached_all _ c.follow.new.met _ c.follow.result c.follow.ensures (rw c.unwrap_or-count.ensures at c.are_attached.ensures)
