use Rattle.std.proofs.Common.{arith}
use Rattle.steps.specs.SpanLaws.{page-there, pages_by, page-none}
use Rattle.steps.proofs.span.page_at.Goals as goal

pub returns-in-Some : goal.returns-in-Some
returns-in-Some c =
    page-there _ _ c.in-Some.ensures.1 c.if-from-size.true c.max.ensures (omega (arith, c.min.ensures, c.saturating_add.ensures, c.ranges.size))

pub returns-in_default : goal.returns-in_default
returns-in_default c = page-none _ _ (pages_by _ _ (omega (arith, c.in-Some.ensures.1)))

pub returns-in_default-2 : goal.returns-in_default-2
returns-in_default-2 c = page-none _ _ (pages_by _ _ (omega (arith, c.in_default.ensures, c.ranges.size)))
