-- The texts and the numbers, one after the other.
use Rattle.std.proofs.Common.{zero-add}
use Rattle.texts.specs.LaidLaws.{laid_then}
use Rattle.texts.proofs.put_refusal.Goals as goal

pub returns : goal.returns
returns c =
    let first = rw zero-add at c.put_text-p.ensures in
    laid_then (laid_then (laid_then (laid_then first c.put_decimal-p.ensures) c.put_text-p-2.ensures) c.put_decimal-p-2.ensures) c.put_byte.ensures
