-- The links that are left, laid over the slice as it is now, give the result; past the end they are lost.
use Rattle.std.proofs.Common.{◌≡◌, ◌<◌, ◌+◌, ◌*◌, ◌-◌, length}
use Rattle.base.specs.Blit.{blit}
use Rattle.result.specs.Fill.{block_links}
use Rattle.filling.proofs.put_links.Given as goal

abbrev pub invariant-loop-i : goal.invariant-loop-i
invariant-loop-i l =
    (32 + 8 * l.i < length l.d) × (length l.d ≡ length l.initial.d)
    × (blit (32 + 8 * l.i) (block_links l.payload (l.n - l.i) l.b) l.d ≡ blit 32 (block_links l.payload l.n l.a) l.initial.d)
