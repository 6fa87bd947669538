-- A mark under 2 counts as 2: the difference is 0.
use native.Mathlib.Omega.{arith}
use mathlib.Core.Path.{refl}
use Rattle.base.specs.ChoiceLaws.{lt_yes, lt_no}
use Rattle.reading.specs.Counting.{end_at}
use Rattle.reading.proofs.recording.end_at.Goals as goal

pub returns-then-n-i : goal.returns-then-n-i
unfolding end_at
returns-then-n-i c = lt_no _ _ _ _ (omega arith) refl

pub returns : goal.returns
unfolding end_at
returns c = lt_yes _ _ _ _ (omega arith) c.saturating_sub.ensures
