-- What is left of the search gives what the whole gives.
use Rattle.mdf.specs.Records.{with_id}
use mathlib.Core.Path.{◌≡◌}
use lib.ListN.{drop}
use Rattle.records.proofs.framing.with_id.Given as goal

abbrev pub invariant-loop-i : goal.invariant-loop-i
invariant-loop-i l = with_id l.image l.id l.i (drop l.i l.groups) ≡ with_id l.image l.id 0 l.groups
