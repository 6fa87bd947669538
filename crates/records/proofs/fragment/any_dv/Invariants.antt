-- What is left of the search gives what the whole gives.
use Rattle.mdf.specs.Records.{any_dv}
use Rattle.work_words.specs.Words.{fragments_of}
use Rattle.records.specs.Ahead.{fragments_from}
use mathlib.Core.Path.{◌≡◌}
use Prim.Native.Nat.{◌-◌, ◌≤◌}
use lib.ListN.{length}
use Rattle.records.proofs.fragment.any_dv.Given as goal

abbrev pub invariant-loop-i : goal.invariant-loop-i
invariant-loop-i l = (l.i ≤ length l.fragments) × (any_dv (fragments_from l.fragments l.i) ≡ any_dv (fragments_of l.fragments))

abbrev pub decreases-loop-i : goal.decreases-loop-i
decreases-loop-i l = length l.fragments - l.i
