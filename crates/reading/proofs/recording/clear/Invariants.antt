-- The first 8 * n words are zero and the others as they were.
use Prim.Native.Nat.{◌*◌}
use Rattle.reading.specs.ClearLaws.{Filled}
use Rattle.reading.proofs.recording.clear.Given as goal

abbrev pub invariant-loop-n : goal.invariant-loop-n
invariant-loop-n l = Filled l.initial.words (8 * l.n) l.words
