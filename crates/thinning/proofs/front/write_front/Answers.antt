-- One block after the other.
use Rattle.thinning.specs.FrontLaws.{wrote_front}
use borrow.Author.Rules.{rules}
use Rattle.thinning.proofs.front.write_front.Goals as goal

pub returns : goal.returns
returns c = wrote_front _ _ _ _ _ c.requires.0 _ _ _
    c.copy.ensures c.put_hd.ensures
