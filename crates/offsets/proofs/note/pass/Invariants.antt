-- What was noted before each record are offsets, and how many records of each group lie before it is known.
use Prim.Native.Nat.{◌-◌}
use Rattle.offsets.specs.NotedLaws.{Going}
use Rattle.offsets.proofs.note.pass.Given as goal

abbrev pub invariant-records : goal.invariant-records
invariant-records l =
    Going l.image l.n l.groups l.fragments l.ids l.sizes l.bounds l.initial.words l.counts l.words l.c

abbrev pub decreases-records : goal.decreases-records
decreases-records l =
    18446744073709551615 - l.c.offset
