-- Several groups, not compared, or read.
use Rattle.planning.specs.ComparedLaws.{stream_several, stream_other, stream_read}
use Rattle.planning.proofs.compared.stream_of.Goals as goal

pub returns-then-e-ne1 : goal.returns-then-e-ne1
returns-then-e-ne1 c = stream_several _ _ _ _ c.if-e-ne1.true

pub returns-then-any_compared : goal.returns-then-any_compared
returns-then-any_compared c = stream_read _ _ _ _ c.if-e-ne1.false
    c.any_compared.ensures c.if-any_compared.true c.words_from-own.ensures
    c.stream_in.ensures

pub returns : goal.returns
returns c = stream_other _ _ _ _ c.if-e-ne1.false c.any_compared.ensures c.if-any_compared.false
