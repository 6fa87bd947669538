-- The eight words at once.
use native.Mathlib.Omega.{arith}
use Rattle.taking.specs.WordsLaws.{column_put}
use Rattle.taking.proofs.kept.put_column.Goals as goal

pub put_signal-own-requires : goal.put_signal-own-requires
put_signal-own-requires c = (omega arith, rw c.channel-c.ensures c.requires.3)

pub returns : goal.returns
returns c = (
  λ ns r. column_put _ ns _ _ _ _ c.channel-c.ensures c.group-g.ensures c.parent.ensures c.put_signal-own.ensures c.cycles_of.ensures c.time_word.ensures
      (c.master_word.ensures ns r) c.signal_word.ensures c.put_words.ensures,
  omega (arith, c.put_signal-own.ensures.few),
)
