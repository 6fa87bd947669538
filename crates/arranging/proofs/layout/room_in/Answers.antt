-- Past 2^59, over the output's length, or neither.
use Rattle.arranging.specs.LayingLaws.{room-over, room-short, room-fine}
use native.Mathlib.Omega.{arith}
use Rattle.arranging.proofs.layout.room_in.Goals as goal

pub returns-then-size-gt576460752303423488 : goal.returns-then-size-gt576460752303423488
returns-then-size-gt576460752303423488 c = room-over _ _ (omega arith)

pub returns-then-out-size : goal.returns-then-out-size
returns-then-out-size c = room-short _ _ (omega arith) (omega arith)

pub returns : goal.returns
returns c = room-fine _ _ (omega arith) (omega arith)
