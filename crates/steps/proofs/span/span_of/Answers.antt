use Rattle.steps.specs.SpanLaws.{span_is}
use Rattle.steps.proofs.span.span_of.Goals as goal

pub returns : goal.returns
returns c = span_is c.page_at.ensures c.clipped.ensures
