-- Apart from the window there is nothing to do; else the block is put into an array, and laid from there, as many bytes as it has.
use Rattle.std.proofs.Common.{sym, refl, ◌∙◌, arith}
use Rattle.windows.specs.LayLaws.{laid_from}
use Rattle.window_blocks.specs.ApartLaws.{apart_same}
use Rattle.window_blocks.specs.SizesLaws.{length-cg, cg-within}
use Rattle.window_blocks.proofs.lay_cg.Goals as goal

pub returns-then-apart : goal.returns-then-apart
returns-then-apart c = apart_same _ _ 112 _ _ _ (c.apart.ensures c.if-apart.true) refl (cg-within _ _ _ _ _ _ _ _ _ _ _)

pub returns : goal.returns
returns c = laid_from _ _ _ _ _ _ c.lay.ensures c.put_cg.ensures (length-cg _ _ _ _ _ _ _ _ _ _ _ ∙ sym c.cg_length-n.ensures.0) (omega (arith, c.cg_length-n.ensures.1))
