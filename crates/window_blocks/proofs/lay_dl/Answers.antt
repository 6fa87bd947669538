-- A DL that begins in the window is put there; else by where the window begins in it.
use Rattle.std.proofs.Common.{sym, ◌∙◌, arith}
use Rattle.puts.specs.PutLaws.{lent_is}
use Rattle.windows.specs.LayLaws.{lay_after}
use Rattle.windows.specs.WindowedLaws.{over-past}
use Rattle.window_blocks.specs.TailLaws.{begun, dl_tail_lem}
use Rattle.window_blocks.proofs.lay_dl.Goals as goal

pub returns-then-w-at : goal.returns-then-w-at
returns-then-w-at c = sym (over-past _ _ _ _ (omega arith))

pub returns-then-a-at : goal.returns-then-a-at
returns-then-a-at c = lent_is _ _ _ _ c.put_dl.ensures ∙ lay_after _ _ _ _ (omega arith)

pub returns-then-skip-lt32 : goal.returns-then-skip-lt32
returns-then-skip-lt32 c = c.lay_dl_front.ensures ∙ begun _ _ _ _ (omega arith)

pub returns : goal.returns
returns c = c.lay_tail.ensures ∙ dl_tail_lem _ _ _ _ _ (omega arith) ∙ begun _ _ _ _ (omega arith)
