-- The digits are made apart: `#` where they are too many, else blanks and the digits.
use Rattle.sheets.specs.FieldLaws.{right_wide, right_fits}
use borrow.Author.Rules.{rules}
use Rattle.sheets.proofs.field.put_right.Goals as goal

pub returns-then-w-count : goal.returns-then-w-count
returns-then-w-count c = right_wide _ _ c.put_decimal-count.ensures c.if-w-count.true
    c.fill.ensures

pub returns : goal.returns
returns c = right_fits _ _ c.put_decimal-count.ensures
    c.if-w-count.false (search rules)
    c.fill-2.ensures c.copy.ensures
