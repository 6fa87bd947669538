-- Words put so far.
use Rattle.std.proofs.Common.{◌-◌, arith, rules}
use Rattle.writing.specs.OmissionsLaws.{Putting, putting_none, putting_more, putting_all}
use Rattle.writing.proofs.omissions.put_words.Goals as goal

pub loop-k-init : goal.loop-k-init
loop-k-init c = putting_none

pub loop-k-preserved : goal.loop-k-preserved
loop-k-preserved c = putting_more c.loop-k.invariant (omega arith)

pub shape_of-list : goal.shape_of-list
shape_of-list c = c.loop-k.invariant.same

pub returns : goal.returns
returns c = putting_all c.loop-k.invariant (omega arith)
