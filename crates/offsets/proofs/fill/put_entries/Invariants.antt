-- One entry after the other.
use Rattle.offsets.specs.Parts.{PutsEntries}
use mathlib.Core.Path.{◌≡◌}
use lib.ListN.{length}
use Rattle.offsets.proofs.fill.put_entries.Given as goal

abbrev pub invariant-loop-j : goal.invariant-loop-j
invariant-loop-j l =
    (length l.words ≡ length l.initial.words) × PutsEntries l.initial.words l.words l.i l.d l.groups l.bounds l.counts l.j
