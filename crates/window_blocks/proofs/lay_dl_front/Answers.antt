-- The first 32 bytes are put into an array and laid from there; what follows begins in the window.
use Rattle.window_blocks.specs.TailLaws.{dl-front}
use Rattle.std.proofs.Common.{arith}
use Rattle.window_blocks.proofs.lay_dl_front.Goals as goal

pub returns : goal.returns
returns c = dl-front _ _ _ _ _ _ _ _ _ c.requires c.put_dl.ensures (omega arith) c.lay.ensures c.put_tail.ensures
