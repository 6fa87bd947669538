-- The word is one more than the fragments before, or 0.
use Rattle.planning.specs.ChannelLaws.{signal_set, signal_clear}
use Rattle.planning.proofs.column.signal_word.Goals as goal

pub returns-then-signal : goal.returns-then-signal
returns-then-signal c = signal_set _ _ c.if-signal.true

pub returns : goal.returns
returns c = signal_clear _ _ c.if-signal.false
