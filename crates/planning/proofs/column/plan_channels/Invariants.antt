-- What is left of the channels gives what all of them give.
use Rattle.choices.specs.Chosen.{rules}
use Rattle.planning.specs.ChannelLaws.{Channels}
use mathlib.Core.Path.{◌≡◌}
use lib.ListN.{length}
use Rattle.planning.proofs.column.plan_channels.Given as goal

abbrev pub invariant-loop-k : goal.invariant-loop-k
invariant-loop-k l = (length l.columns ≡ length l.initial.columns) × (length l.fragments ≡ length
    l.initial.fragments)
    × Channels (rules l.choices l.table) l.image l.source l.n l.group.item l.group.at l.group.dg l.group.records l.own l.master l.fn.so_far.columns l.fn.so_far.omissions l.fn.so_far.fragments l.initial.columns l.initial.fragments l.k l.planned.columns l.planned.omissions l.planned.fragments
    l.columns l.fragments
