-- The words from index from up to i are zero.
use Prim.Native.Nat.{ℕ}
use mathlib.Core.List.{List}
use Rattle.reading.specs.ClearLaws.{Filled}
use Rattle.reading.proofs.recording.clear_from.Given as goal

abbrev pub invariant-loop-i : goal.invariant-loop-i
invariant-loop-i l = (w : List ℕ) → Filled w l.from l.initial.words → Filled w l.i l.words
