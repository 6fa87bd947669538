-- The bytes that there are, and that have room, are all that count.
use Rattle.std.proofs.Common.{arith, sym, ◌∙◌}
use Rattle.puts.specs.PutLaws.{blit-past, copy-past, copy_clip}
use Rattle.puts.proofs.copy.Goals.{then-room-at-via-then-room-at, then-room-at-via-else-room-at+then-all-from}
use Rattle.puts.proofs.copy.Goals as goal

pub returns-then-room-at : goal.returns-then-room-at
returns-then-room-at c = elim c.then-room-at.branch [
  | then-room-at-via-then-room-at w ↦ sym (blit-past _ _ _ (omega arith))
  | then-room-at-via-else-room-at+then-all-from w ↦ copy-past _ _ _ _ _ (omega arith)
]

pub returns : goal.returns
returns c = c.copy_in.ensures ∙ copy_clip _ _ _ _ _ _ _ c.min-have.ensures c.min-k.ensures
