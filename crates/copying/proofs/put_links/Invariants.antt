-- The links that are left, laid over the slice as it is now, give the result; past the end they are lost.
use Rattle.result.specs.Fill.{new_links}
use Rattle.copier.specs.Standing.{copies_in}
use Rattle.copier.specs.Index.{Indexes}
use Rattle.base.specs.Blit.{blit}
use Prim.Native.Nat.{◌+◌, ◌*◌, ◌-◌, ◌<◌}
use mathlib.Core.Path.{◌≡◌}
use lib.ListN.{length}
use Rattle.copying.proofs.put_links.Given as goal

abbrev pub invariant-loop-i : goal.invariant-loop-i
invariant-loop-i l =
    (l.at + 8 * l.i < length l.d) × (length l.d ≡ length l.initial.d)
    × (Indexes l.copies.memo.now l.copies.used l.copies.index.now → blit (l.at + 8 * l.i) (new_links l.copies.image.now (copies_in l.copies.memo.now l.copies.used) (l.k - l.i) (l.a + 24 + 8 * (1 + l.i))) l.d
    ≡ blit l.at (new_links l.copies.image.now (copies_in l.copies.memo.now l.copies.used) l.k (l.a + 32)) l.initial.d)
