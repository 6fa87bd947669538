-- Past the end nothing is stored; else the part from its place on is lent.
use mathlib.Core.Path.{sym}
use native.Mathlib.Omega.{arith}
use Rattle.puts.specs.PutLaws.{blit-past, lent_is}
use borrow.Author.Rules.{rules}
use Rattle.thinning.proofs.structure.put_channel.Goals as goal

pub returns-then-out-to : goal.returns-then-out-to
returns-then-out-to c = sym (blit-past _ _ _ (omega arith))

pub returns : goal.returns
returns c = lent_is _ _ _ _ c.fill_cn.ensures
