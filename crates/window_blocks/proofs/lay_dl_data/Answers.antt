-- Apart from the window there is nothing to do; else the data is put into an array, and laid from there.
use Rattle.windows.specs.LayLaws.{laid_from}
use Rattle.window_blocks.specs.Tail.{dl_data}
use Rattle.window_blocks.specs.ApartLaws.{apart_same}
use Rattle.window_blocks.specs.TailLaws.{length_data}
use Rattle.std.proofs.Common.{arith}
use Rattle.window_blocks.proofs.lay_dl_data.Goals as goal

pub returns-then-apart : goal.returns-then-apart
returns-then-apart c = apart_same _ _ 16 _ _ _ (c.apart.ensures c.if-apart.true) (length_data _ _) (omega arith)

pub returns : goal.returns
unfolding dl_data
returns c = laid_from _ _ 16 _ _ _ c.lay.ensures c.put_dl_data.ensures (length_data _ _) (omega arith)
