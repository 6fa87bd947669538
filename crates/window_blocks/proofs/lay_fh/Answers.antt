-- Apart from the window there is nothing to do; else the block is put into an array, and laid from there.
use Rattle.windows.specs.LayLaws.{laid_from}
use Rattle.window_blocks.specs.ApartLaws.{apart_same}
use Rattle.copies_laws.specs.LengthLaws.{length_fh}
use Rattle.std.proofs.Common.{arith}
use Rattle.window_blocks.proofs.lay_fh.Goals as goal

pub returns-then-apart : goal.returns-then-apart
returns-then-apart c = apart_same _ _ 56 _ _ _ (c.apart.ensures c.if-apart.true) (length_fh _ _) (omega arith)

pub returns : goal.returns
returns c = laid_from _ _ 56 _ _ _ c.lay.ensures c.put_fh.ensures (length_fh _ _) (omega arith)
