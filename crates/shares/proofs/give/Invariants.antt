-- The shares from number i on, laid over those that stand, are all shares laid over zeros.
use Rattle.std.proofs.Common.{◌≡◌, length}
use Rattle.shares.specs.EightsLaws.{Giving}
use Rattle.shares.proofs.give.Given as goal

abbrev pub invariant-loop-i : goal.invariant-loop-i
invariant-loop-i l = record { given : Giving l.caps l.left l.q l.over (length l.caps) l.shares l.rest l.i; eight : length l.shares ≡ 8 }
