-- The entries that are left give, from what is then laid, what the whole table gives from the start.
use Rattle.std.proofs.Common.{◌-◌, ◌≡◌, true, ◌<◌, ◌≤◌, length}
use Rattle.ranges.specs.Open.{Holds}
use Rattle.ranges.specs.Turn.{laid, turns_of, start_of}
use Rattle.ranges.proofs.TurnLaws.{turns_from}
use Rattle.ranges.proofs.plot.plot.Given as goal

abbrev pub invariant-loop-i : goal.invariant-loop-i
invariant-loop-i l = record {
  within : l.i ≤ l.n;
  opened : 0 < length l.table → l.state.accepted ≡ true → Holds l.image l.source;
  ahead : turns_from l.image l.table (l.n - l.i) l.i (laid l.state l.destination)
      ≡ turns_from l.image l.table (turns_of (length l.table)) 0 (laid (start_of l.image (length l.table)) l.fn.destination);
}
