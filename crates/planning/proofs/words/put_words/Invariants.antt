-- The words so far are stored.
use Rattle.std.proofs.Common.{◌≡◌, take}
use Rattle.base.specs.Blit.{blit}
use Rattle.planning.proofs.words.put_words.Given as goal

abbrev pub invariant-loop-k : goal.invariant-loop-k
invariant-loop-k l = l.w ≡ blit l.i (take l.k l.words) l.initial.w
