-- Where times aren't shared all words stay zero.
use Rattle.planning.specs.AnswerLaws.{stands_off, stands_on}
use Rattle.planning.proofs.recording.shared_in.Goals as goal

pub returns-then-share : goal.returns-then-share
returns-then-share c = stands_on _ _ _ _ _ c.if-share.true c.requires.3 c.share_times.ensures

pub returns : goal.returns
returns c = stands_off _ _ _ _ _ c.if-share.false c.requires.3
