-- Entries are put for what was noted past all that is used.
use mathlib.Core.Path.{refl}
use Rattle.offsets.specs.NotedLaws.{zeros-all}
use Rattle.offsets.specs.FillLaws.{fills_all}
use native.Mathlib.Omega.{arith}
use Rattle.offsets.proofs.fill.fill_offsets.Goals as goal

pub frame_all-room-requires : goal.frame_all-room-requires
frame_all-room-requires c = record { in_bounds = omega arith; bounds_len = refl; zeros = zeros-all 512 refl }

pub returns : goal.returns
returns c = fills_all _ _ _ _ (c.frame_all-room.ensures.0 (c.if-not-room.false)) c.put_entries.ensures c.count_entries.ensures (omega arith) (omega arith) c.free_from-begin.ensures.0 c.free_from-begin.ensures.1 (omega arith)
