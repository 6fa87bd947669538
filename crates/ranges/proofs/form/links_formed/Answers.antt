-- Each return is one test.
use Rattle.ranges.specs.FormLaws.{links_empty, links_first, links_rest}
use Rattle.ranges.proofs.form.links_formed.Goals.{then-links-eq0-via-then-links-eq0, then-links-eq0-via-else-links-eq0+then-link_at-ne0}
use Rattle.ranges.proofs.form.links_formed.Goals as goal

pub returns-then-links-eq0 : goal.returns-then-links-eq0
returns-then-links-eq0 c = elim c.then-links-eq0.branch [
  | then-links-eq0-via-then-links-eq0 w ↦ links_empty _ _ c.links_at-links.ensures w.if-links-eq0.true
  | then-links-eq0-via-else-links-eq0+then-link_at-ne0 w ↦ links_first _ _ c.links_at-links.ensures w.if-links-eq0.false w.link_at.ensures w.if-link_at-ne0.true
]

pub returns : goal.returns
returns c = links_rest _ _ c.links_at-links.ensures c.if-links-eq0.false c.link_at.ensures c.if-link_at-ne0.false c.none_zero.ensures
