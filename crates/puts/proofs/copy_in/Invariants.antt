-- The bytes copied so far are a part of the source, laid over the slice.
use Rattle.std.proofs.Common.{◌≡◌, length}
use Rattle.base.specs.Blit.{blit, part}
use Rattle.puts.proofs.copy_in.Given as goal

abbrev pub invariant-loop-k : goal.invariant-loop-k
invariant-loop-k l = (length l.d ≡ length l.initial.d) × (l.d ≡ blit l.at (part l.from l.k l.s) l.initial.d)
