-- Each item adds its words and its place in the index.
use mathlib.Core.Path.{◌≡◌}
use lib.ListN.{length}
use Rattle.planning.specs.NotedLaws.{Noting}
use Rattle.planning.proofs.groups.note_items.Given as goal

abbrev pub invariant-loop-i : goal.invariant-loop-i
invariant-loop-i l = (length l.before ≡ length l.initial.before) × Noting l.source l.n l.i l.g l.d l.before l.index
