-- The copies and attachments that links are led to.
use Rattle.std.specs.Prelude.{List}
use Rattle.plan.specs.Copies.{Copy, Attachment}
use Rattle.copier.specs.Standing.{copies_in}
use Rattle.window_copies.specs.Attachments.{attachments_in}
use Rattle.result.specs.Fill.{Block}
use Rattle.thinning.specs.declared.decided.Decided.{Decided}
use Rattle.thinning.specs.declared.led.Led.{Led}
use Rattle.thinning.specs.Structure.{structure_from}

abbrev pub copies_of : Led → List Copy
copies_of l = copies_in l.memo.now l.used

abbrev pub attachments_of : Led → List Attachment
attachments_of l = attachments_in l.memo.now l.metadata l.attached

-- the blocks that make up the columns of what was decided
abbrev pub structure_of : Decided → List Block
structure_of f =
    structure_from f.image.now (copies_in f.memo.now f.numbers.copies) (attachments_in f.memo.now f.numbers.metadata f.numbers.attachments)
    f.columns.now f.memo.now f.numbers.columns 0 f.numbers.columns
