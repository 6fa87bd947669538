-- What is left of the search gives what the whole gives.
use Rattle.mdf.specs.Records.{equal_ids}
use mathlib.Core.Path.{◌≡◌}
use lib.ListN.{drop}
use Rattle.records.proofs.several.equal_ids.Given as goal

abbrev pub invariant-loop-i : goal.invariant-loop-i
invariant-loop-i l = equal_ids l.image (drop l.i l.groups) ≡ equal_ids l.image l.groups
