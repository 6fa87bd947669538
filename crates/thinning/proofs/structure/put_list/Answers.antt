-- Without blocks there is none; past the end nothing is stored; else the part from its place on is lent.
use mathlib.Core.Path.{sym}
use native.Mathlib.Omega.{arith}
use Rattle.puts.specs.PutLaws.{blit-past, lent_is}
use Rattle.thinning.specs.StructureLaws.{no_list, one_list}
use borrow.Author.Rules.{rules}
use Rattle.thinning.proofs.structure.put_list.Goals as goal

pub returns-then-n-eq0 : goal.returns-then-n-eq0
returns-then-n-eq0 c = no_list _ _ c.if-n-eq0.true

pub returns-then-out-to : goal.returns-then-out-to
returns-then-out-to c = one_list _ _ _ c.if-n-eq0.false (sym (blit-past _ _ _ (omega arith)))

pub returns : goal.returns
returns c = one_list _ _ _ c.if-n-eq0.false
    (lent_is _ _ _ _ c.put_dl.ensures)
