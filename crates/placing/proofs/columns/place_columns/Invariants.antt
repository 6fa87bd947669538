-- What is left of the columns, laid over the words, gives the words at exit.
use Prim.Native.Nat.{◌+◌, ◌-◌, ◌*◌}
use Rattle.placing.specs.InWordsLaws.{Placing}
use Rattle.placing.proofs.columns.place_columns.Given as goal

abbrev pub invariant-loop-k : goal.invariant-loop-k
invariant-loop-k l = Placing l.c.unit l.c.photos l.c.image.now l.c.size l.c.words.now l.c.fragments.now l.c.n l.a l.d l.initial.memo l.memo
    (8 * l.k) (6656 + 3 * l.k) (l.c.n - l.k) l.dg l.past
