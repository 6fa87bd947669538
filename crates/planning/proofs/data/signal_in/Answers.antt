-- By the column's words.
use Rattle.planning.specs.DataWordsLaws.{signal_other, signal_none, signal_some}
use Rattle.planning.proofs.data.signal_in.Goals as goal

pub returns-then-word-d : goal.returns-then-word-d
returns-then-word-d c = signal_other _ _ _ _ _ c.word.ensures c.if-word-d.true

pub returns-then-signal-eq0 : goal.returns-then-signal-eq0
returns-then-signal-eq0 c = signal_none _ _ _ _ _ c.word.ensures c.if-word-d.false
    c.word-signal.ensures c.if-signal-eq0.true

pub returns : goal.returns
returns c = signal_some _ _ _ _ _ c.word.ensures
    c.if-word-d.false c.word-signal.ensures c.if-signal-eq0.false
    c.word-m.ensures c.ranges_of.ensures
