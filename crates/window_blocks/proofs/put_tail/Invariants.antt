-- What is left, laid over the slice as it is now, gives the result; past the end it is lost.
use Rattle.std.proofs.Common.{◌≡◌, ◌<◌, ◌-◌, length}
use Rattle.base.specs.Blit.{blit}
use Rattle.window_blocks.specs.Tail.{dl_tail}
use Rattle.window_blocks.proofs.put_tail.Given as goal

abbrev pub invariant-loop-i : goal.invariant-loop-i
invariant-loop-i l =
    (l.p < length l.w) × (length l.w ≡ length l.initial.w) × (blit l.p (dl_tail l.payload l.n (l.k - l._i) l.next) l.w ≡ blit l.at (dl_tail l.payload l.n l.k l.b) l.initial.w)
