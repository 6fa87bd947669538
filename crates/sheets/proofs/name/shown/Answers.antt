-- The tests are those of the definition.
use Rattle.sheets.specs.NameLaws.{shown_low, shown_high, shown-same}
use Rattle.sheets.proofs.name.shown.Goals.{then-b-lt32-via-then-b-lt32, then-b-lt32-via-else-b-lt32+then-b-gt126}
use Rattle.sheets.proofs.name.shown.Goals as goal

pub returns-then-b-lt32 : goal.returns-then-b-lt32
returns-then-b-lt32 c = elim c.then-b-lt32.branch [
  | then-b-lt32-via-then-b-lt32 w ↦ shown_low _ w.if-b-lt32.true
  | then-b-lt32-via-else-b-lt32+then-b-gt126 w ↦ shown_high _ w.if-b-lt32.false w.if-b-gt126.true
]

pub returns : goal.returns
returns c = shown-same _ c.if-b-lt32.false c.if-b-gt126.false
