-- What was kept is right, and how many records of each group lie before the place is known.
use Rattle.places.specs.PassLaws.{PassingOn}
use Prim.Native.Nat.{◌-◌}
use mathlib.Core.Path.{◌≡◌}
use lib.ListN.{length}
use Rattle.places.proofs.pass.pass.Given as goal

abbrev pub invariant-records : goal.invariant-records
invariant-records l =
    PassingOn l.image l.d l.n l.groups l.fragments l.ids l.sizes l.initial.pool l.pool l.counts l.c × (length l.counts ≡ 512) × (length l.pool ≡ length l.initial.pool)

abbrev pub decreases-records : goal.decreases-records
decreases-records l =
    18446744073709551615 - l.c.offset
