-- Words put so far.
use Rattle.std.proofs.Common.{◌-◌, arith, rules}
use Rattle.writing.specs.OmissionsLaws.{Putting, putting_none, putting_more, putting_all}
use Rattle.writing.proofs.omissions.put_words.Given as goal

abbrev pub invariant-loop-k : goal.invariant-loop-k
invariant-loop-k l = Putting l.initial.list l.w l.at l.i l.n l.k l.list
