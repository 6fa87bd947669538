-- A refusal's numbers, or the bytes of the new file.
use Rattle.std.proofs.Common.{ap}
use Rattle.sitaungo.specs.TakingOut.{exported_taken}
use Rattle.sitaungo.proofs.taking_out.sitaungo_take_out.Goals as goal

pub returns : goal.returns
returns c = record { done = rw c.from.ensures (ap exported_taken c.take_out.ensures.done); promised = c.take_out.ensures.promised }
