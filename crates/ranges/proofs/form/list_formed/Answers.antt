-- Each return is one test.
use Rattle.ranges.specs.FormLaws.{list-other, list_links, list-unequal, list_lengths}
use Rattle.ranges.proofs.form.list_formed.Goals.{
  then-kind_at-ne-DL-via-then-kind_at-ne-DL,
  then-kind_at-ne-DL-via-else-kind_at-ne-DL+then-not-links_formed,
  then-kind_at-ne-DL-via-else-kind_at-ne-DL+else-not-links_formed+then-not-is_equal_length,
}
use Rattle.ranges.proofs.form.list_formed.Goals as goal

pub returns-then-kind_at-ne-DL : goal.returns-then-kind_at-ne-DL
returns-then-kind_at-ne-DL c = elim c.then-kind_at-ne-DL.branch [
  | then-kind_at-ne-DL-via-then-kind_at-ne-DL w ↦ list-other _ _ c.kind_at.ensures w.if-kind_at-ne-DL.true
  | then-kind_at-ne-DL-via-else-kind_at-ne-DL+then-not-links_formed w ↦ list_links _ _ c.kind_at.ensures w.if-kind_at-ne-DL.false w.links_formed.ensures w.if-not-links_formed.true
  | then-kind_at-ne-DL-via-else-kind_at-ne-DL+else-not-links_formed+then-not-is_equal_length w ↦
      list-unequal _ _ c.kind_at.ensures w.if-kind_at-ne-DL.false w.links_formed.ensures w.if-not-links_formed.false w.is_equal_length.ensures w.if-not-is_equal_length.true
]

pub returns : goal.returns
returns c =
    list_lengths _ _ c.kind_at.ensures c.if-kind_at-ne-DL.false c.links_formed.ensures c.if-not-links_formed.false c.is_equal_length.ensures
    c.if-not-is_equal_length.false c.links_at.ensures c.data_field.ensures.is c.have_length.ensures
