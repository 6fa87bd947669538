-- Apart from the window there is nothing to do; else the block is put into an array, and laid from there, as many bytes as it has.
use Rattle.std.proofs.Common.{sym, ◌∙◌, arith}
use Rattle.windows.specs.LayLaws.{laid_from}
use Rattle.window_blocks.specs.ApartLaws.{apart_same}
use Rattle.window_blocks.specs.SizesLaws.{length_data, data_most}
use Rattle.window_blocks.proofs.lay_cn_data.Goals as goal

pub returns-then-apart : goal.returns-then-apart
returns-then-apart c = apart_same _ _ 72 _ _ _ (c.apart.ensures c.if-apart.true) (length_data _ _ _ _ _) (data_most _ _)

pub returns : goal.returns
returns c = laid_from _ _ _ _ _ _ c.lay.ensures c.put_cn_data.ensures (length_data _ _ _ _ _ ∙ sym c.cn_data_length-n.ensures.0) (omega (arith, c.cn_data_length-n.ensures.1))
