-- What is left of the columns gives what all of them give.
use Prim.Native.Nat.{◌-◌, ◌*◌}
use Rattle.placing.specs.InWordsLaws.{Structuring}
use Rattle.placing.proofs.columns.structure_end.Given as goal

abbrev pub invariant-loop-k : goal.invariant-loop-k
invariant-loop-k l = Structuring l.c.photos l.c.image.now l.c.size l.c.words.now l.c.n l.a (8 * l.k) (l.c.n - l.k) l.end
