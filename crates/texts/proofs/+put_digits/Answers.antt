-- The last digit after those before it.
use Rattle.texts.specs.LaidLaws.{digits-none, digits-one, digits_more}
use Rattle.texts.proofs.+put_digits.Goals as goal

pub returns-then-most-eq0 : goal.returns-then-most-eq0
returns-then-most-eq0 t c = digits-none _ _ _ _ c.if-most-eq0.true

pub returns-then-more-eq0 : goal.returns-then-more-eq0
returns-then-more-eq0 t c = digits-one _ _ c.if-most-eq0.false c.if-more-eq0.true c.put_byte.ensures

pub returns : goal.returns
returns t c = digits_more _ _ c.if-most-eq0.false c.if-more-eq0.false c.put_digits-p.ensures c.put_byte-2.ensures
