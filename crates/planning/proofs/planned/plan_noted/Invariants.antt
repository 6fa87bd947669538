-- What is left of the groups gives what all of them give.
use Rattle.planning.specs.PlannedLaws.{Groups}
use Rattle.choices.specs.Chosen.{rules}
use mathlib.Core.Path.{◌≡◌}
use lib.ListN.{length}
use Rattle.planning.proofs.planned.plan_noted.Given as goal

abbrev pub invariant-loop-i : goal.invariant-loop-i
invariant-loop-i l = (length l.columns ≡ length l.initial.columns) × (length l.fragments ≡ length l.initial.fragments)
    × Groups (rules l.choices l.table) l.image l.notes.source.now l.notes.stands.now l.notes.items l.nf l.initial.columns l.initial.fragments l.i l.g l.d l.so_far.columns l.so_far.omissions l.so_far.fragments l.columns l.fragments
