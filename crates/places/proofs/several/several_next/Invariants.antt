-- What was found so far is a stretch, and the records that follow are ahead.
use Rattle.places.specs.NextLaws.{Going}
use Prim.Native.Nat.{◌-◌}
use Rattle.places.proofs.several.several_next.Given as goal

abbrev pub invariant-records : goal.invariant-records
invariant-records l =
    Going l.image l.n l.k l.groups l.fragments l.ids l.sizes l.initial.c l.stretch l.c

abbrev pub decreases-records : goal.decreases-records
decreases-records l =
    18446744073709551615 - l.c.offset
