-- What is left of the search gives what the whole gives.
use Rattle.mdf.specs.Records.{is_id_of}
use mathlib.Core.Path.{◌≡◌}
use lib.ListN.{drop}
use Rattle.records.proofs.several.is_id_of.Given as goal

abbrev pub invariant-loop-i : goal.invariant-loop-i
invariant-loop-i l = is_id_of l.image l.id (drop l.i l.groups) ≡ is_id_of l.image l.id l.groups
