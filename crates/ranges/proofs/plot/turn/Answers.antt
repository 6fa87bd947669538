-- The entry is refused or served, where none before it was refused.
use Rattle.std.proofs.Common.{◌∙◌, ap}
use Rattle.ranges.specs.declared.plot.Plotting.{Plotting}
use Rattle.ranges.specs.Turn.{laid}
use Rattle.ranges.proofs.TurnLaws.{turn_ended, turn_fine, turn_ends}
use Rattle.ranges.proofs.plot.turn.Goals as goal

pub returns-in-Err : goal.returns-in-Err
returns-in-Err c =
    ap (λ (p : Plotting). laid p c.entry.new.destination) c.refused.ensures
    ∙ turn_ends c.args.image.now c.args.i c.args.request (laid c.args.state c.args.destination.now) _ c.entry.result c.if-state.true c.entry.ensures c.in-Err.is

pub returns-in_default : goal.returns-in_default
returns-in_default c =
    turn_fine c.args.image.now c.args.i c.args.request (laid c.args.state c.args.destination.now) _ c.entry.result c.if-state.true c.entry.ensures c.in_default.is

pub returns-else-state : goal.returns-else-state
returns-else-state c = turn_ended c.args.image.now c.args.i c.args.request (laid c.args.state c.args.destination.now) c.if-state.false
