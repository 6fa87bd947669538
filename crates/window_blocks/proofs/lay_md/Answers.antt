-- An MD that begins in the window is put there; one that ends before it leaves it as it was.
use Rattle.std.proofs.Common.{sym, ◌∙◌, arith}
use Rattle.puts.specs.PutLaws.{lent_is}
use Rattle.windows.specs.LayLaws.{lay_after}
use Rattle.windows.specs.WindowedLaws.{over-past}
use Rattle.window_blocks.specs.TailLaws.{begun}
use Rattle.window_blocks.specs.TextLaws.{md_before}
use Rattle.window_blocks.proofs.lay_md.Goals as goal

pub returns-then-w-at : goal.returns-then-w-at
returns-then-w-at c = sym (over-past _ _ _ _ (omega arith))

pub returns-then-a-at : goal.returns-then-a-at
returns-then-a-at c = lent_is _ _ _ _ c.put_md.ensures ∙ lay_after _ _ _ _ (omega arith)

pub returns-then-text-skip : goal.returns-then-text-skip
returns-then-text-skip c = md_before _ _ _ _ (omega arith) (omega arith)

pub returns : goal.returns
returns c = c.lay_md_from.ensures ∙ begun _ _ _ _ (omega arith)
