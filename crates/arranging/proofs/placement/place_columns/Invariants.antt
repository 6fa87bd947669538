-- What is left of the columns, laid over the words, gives the words at exit.
use Prim.Native.Nat.{◌+◌, ◌*◌, ◌-◌}
use Rattle.arranging.specs.SpotsLaws.{Placing}
use Rattle.arranging.proofs.placement.place_columns.Given as goal

abbrev pub invariant-loop-k : goal.invariant-loop-k
invariant-loop-k l = Placing l.file.unit l.file.image.now l.file.columns.now l.file.count l.a l.d l.initial.memo l.memo (8 * l.k) (6656 + 3 * l.k) (l.file.count - l.k) l.dg l.past
