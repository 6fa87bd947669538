-- Each part ends where the next begins.
use Rattle.offsets.specs.PartsLaws.{sharing-more}
use native.Mathlib.Omega.{arith}
use Rattle.offsets.proofs.parts.share_out.Goals as goal

pub loop-j-preserved : goal.loop-j-preserved
loop-j-preserved c = sharing-more c.loop-j.invariant _ c.part_size-n.ensures (omega arith) (omega arith)
