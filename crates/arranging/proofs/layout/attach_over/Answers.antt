-- What is refused doesn't depend on where attachments are placed; past 2^59 the rest is 20.
use Rattle.arranging.specs.LayingLaws.{over_refused, over-moved}
use native.Mathlib.Omega.{arith}
use Rattle.arranging.proofs.layout.attach_over.Goals as goal

pub returns-in-Ok : goal.returns-in-Ok
returns-in-Ok c =
    over-moved _ _ _ _ c.link_at.ensures _
    (c.attachments.ensures (record { words = c.requires.0; limit = omega arith; few = c.requires.1; near = omega arith }) c.requires.2) c.in-Ok.is

pub returns-in-Err : goal.returns-in-Err
returns-in-Err c =
    over_refused _ _ _ _ c.link_at.ensures _
    (c.attachments.ensures (record { words = c.requires.0; limit = omega arith; few = c.requires.1; near = omega arith }) c.requires.2) c.in-Err.is
