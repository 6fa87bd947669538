-- A refusal's numbers, or the report's.
use Rattle.std.proofs.Common.{ap}
use Rattle.sitaungo.specs.Answer.{exported}
use Rattle.sitaungo.specs.ReadableLaws.{readable_by}
use Rattle.sitaungo.proofs.sitaungo_convert_with.Goals as goal

pub returns : goal.returns
returns c = record {
  done = rw c.from.ensures (ap exported (rw c.choices.ensures at c.convert.ensures.done));
  promised = rw c.choices.ensures at c.convert.ensures.promised;
  readable = readable_by _ _ _ _ c.are_bytes.ensures c.are_bytes-2.ensures (rw c.choices.ensures at c.convert.ensures.done);
}
