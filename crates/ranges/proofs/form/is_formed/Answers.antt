-- Each return is one test.
use Rattle.std.proofs.Common.{◌∙◌}
use Rattle.ranges.specs.FormLaws.{form_ids, form_data, form_kinds, form_records}
use Rattle.ranges.proofs.form.is_formed.Goals.{then-id_size-ne0-via-then-id_size-ne0, then-id_size-ne0-via-else-id_size-ne0+then-not-data_formed}
use Rattle.ranges.proofs.form.is_formed.Goals as goal

pub returns-then-id_size-ne0 : goal.returns-then-id_size-ne0
returns-then-id_size-ne0 c = elim c.then-id_size-ne0.branch [
  | then-id_size-ne0-via-then-id_size-ne0 w ↦ form_ids _ _ _ c.id_size.ensures.is w.if-id_size-ne0.true
  | then-id_size-ne0-via-else-id_size-ne0+then-not-data_formed w ↦
      form_data _ _ _ c.id_size.ensures.is w.if-id_size-ne0.false c.link_at-a.ensures w.data_formed.ensures w.if-not-data_formed.true
]

pub returns-then-is_one_kind : goal.returns-then-is_one_kind
returns-then-is_one_kind c =
    form_records _ _ _ c.id_size.ensures.is c.if-id_size-ne0.false c.link_at-a.ensures c.data_formed.ensures c.if-not-data_formed.false c.links_of-links.ensures
    c.is_one_kind.ensures c.if-is_one_kind.true c.hold_records.ensures

pub returns-else-is_one_kind : goal.returns-else-is_one_kind
returns-else-is_one_kind c =
    c.if-is_one_kind.false
    ∙ form_kinds _ _ _ c.id_size.ensures.is c.if-id_size-ne0.false c.link_at-a.ensures c.data_formed.ensures c.if-not-data_formed.false c.links_of-links.ensures
    c.is_one_kind.ensures c.if-is_one_kind.false
