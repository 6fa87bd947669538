-- Each return is one test.
use Rattle.ranges.specs.FormLaws.{equal_short, equal_over, equal_bit}
use Rattle.ranges.proofs.form.is_equal_length.Goals.{then-size-lt40-via-then-size-lt40, then-size-lt40-via-else-size-lt40+then-size-links_at}
use Rattle.ranges.proofs.form.is_equal_length.Goals as goal

pub returns-then-size-lt40 : goal.returns-then-size-lt40
returns-then-size-lt40 c = elim c.then-size-lt40.branch [
  | then-size-lt40-via-then-size-lt40 w ↦ equal_short _ _ c.size_at-size.ensures w.if-size-lt40.true
  | then-size-lt40-via-else-size-lt40+then-size-links_at w ↦ equal_over _ _ c.size_at-size.ensures w.links_at.ensures w.if-size-lt40.false w.if-size-links_at.true
]

pub returns : goal.returns
returns c = equal_bit _ _ c.size_at-size.ensures c.links_at.ensures c.if-size-lt40.false c.if-size-links_at.false c.data_field.ensures.is
