-- It is entered where it has room.
use Rattle.std.proofs.Common.{◌∙◌, arith}
use Rattle.index.specs.IndexLaws.{entered_is}
use Rattle.index.proofs.enter.Goals as goal

pub returns : goal.returns
returns c = λ l. c.enter_at.ensures ∙ entered_is _ _ _ _ (omega arith) (omega arith)
