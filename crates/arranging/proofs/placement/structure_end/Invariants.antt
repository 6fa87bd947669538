-- What is left of the columns gives what all of them give, as long as it ends by 2^59.
use Prim.Native.Nat.{◌*◌, ◌-◌}
use Rattle.arranging.specs.SpotsLaws.{Structuring}
use Rattle.arranging.proofs.placement.structure_end.Given as goal

abbrev pub invariant-loop-k : goal.invariant-loop-k
invariant-loop-k l = Structuring l.file.image.now l.file.columns.now l.file.count l.a (8 * l.k) (l.file.count - l.k) l.end
