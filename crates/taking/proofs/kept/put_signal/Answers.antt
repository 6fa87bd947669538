-- The three words of its fragment, which begins in the file.
use native.Mathlib.Omega.{arith}
use Rattle.taking.specs.WordsLaws.{signal_none, signal_some, signal_room}
use Rattle.taking.proofs.kept.put_signal.Goals as goal

pub returns-then-a-eq0 : goal.returns-then-a-eq0
returns-then-a-eq0 c = signal_none _ _ _ c.signal_place-a.ensures _ c.if-a-eq0.true

pub overflow_add-a : goal.overflow_add-a
overflow_add-a c = omega (arith, signal_room c.requires.1 c.signal_place-a.ensures c.if-a-eq0.false)

pub returns : goal.returns
returns c = signal_some _ _ _ c.signal_place-a.ensures _ c.if-a-eq0.false c.bytes_at.ensures c.put_words.ensures
