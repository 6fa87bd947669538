-- A block that begins before the window from its byte on; one that begins past it not at all; else in the part that is lent.
use Rattle.window_copies.specs.LaidLaws.{over_inside, past_window}
use Rattle.puts.specs.PutLaws.{lent_is}
use Rattle.windows.specs.LayLaws.{lay_after}
use mathlib.Core.Path.{◌∙◌}
use native.Mathlib.Omega.{arith}
use Rattle.window_copies.proofs.lay_copied.Goals as goal

pub returns-then-at-a : goal.returns-then-at-a
returns-then-at-a c = λ t x. c.lay_inside.ensures t x ∙ over_inside _ _ _ _ (omega arith)

pub returns-then-w-p : goal.returns-then-w-p
returns-then-w-p c = λ t x. past_window _ _ _ _ (omega arith) (omega arith)

pub returns : goal.returns
returns c = λ t x. lent_is _ _ _ _ (c.put_copied.ensures t x) ∙ lay_after _ _ _ _ (omega arith)
