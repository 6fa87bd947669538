-- A dash, blanks, or the bytes of the name.
use native.Mathlib.Omega.{arith}
use Rattle.sheets.specs.NameLaws.{name_missing, name_empty, name_put, name_inside}
use borrow.Author.Rules.{rules}
use Rattle.sheets.proofs.name.put_name.Goals as goal

pub returns-then-text_kind-eq0 : goal.returns-then-text_kind-eq0
returns-then-text_kind-eq0 c = name_missing _ _ c.link_at-a.ensures
    c.text_kind.ensures c.if-text_kind-eq0.true
    c.put_dash.ensures

pub returns-then-n-eq0 : goal.returns-then-n-eq0
returns-then-n-eq0 c = name_empty _ _ c.link_at-a.ensures
    c.text_kind.ensures
    c.if-text_kind-eq0.false c.text_bytes.ensures
    c.min-n.ensures c.if-n-eq0.true c.fill.ensures

pub overflow_add-a : goal.overflow_add-a
overflow_add-a c = let h = name_inside _ _ c.link_at-a.ensures
    c.text_kind.ensures c.if-text_kind-eq0.false
    c.text_bytes.ensures c.min-n.ensures c.if-n-eq0.false in omega arith

pub put_shown-requires : goal.put_shown-requires
put_shown-requires c = (
  search rules,
  search rules,
  name_inside _ _ c.link_at-a.ensures
      c.text_kind.ensures c.if-text_kind-eq0.false
      c.text_bytes.ensures c.min-n.ensures c.if-n-eq0.false,
)

pub returns : goal.returns
returns c = name_put _ _ c.link_at-a.ensures
    c.text_kind.ensures
    c.if-text_kind-eq0.false c.text_bytes.ensures
    c.min-n.ensures c.put_shown.ensures
