-- 26, 3, the refusal of what is taken out, or the layout.
use Rattle.fields.specs.AnswerLaws.{passed_on}
use Rattle.arranging.specs.DecideLaws.{unit_refused, is_unit_lem, image_refused, rest-taken, kept-few, rest-laid}
use Rattle.arranging.proofs.decide.arrange_rest.Goals as goal

pub returns-then-not-is_unit : goal.returns-then-not-is_unit
returns-then-not-is_unit c = unit_refused _ _ _ _ c.is_unit.ensures c.if-not-is_unit.true

pub returns-then-image-gt140737488355328 : goal.returns-then-image-gt140737488355328
returns-then-image-gt140737488355328 c = image_refused _ _ _ _ c.is_unit.ensures c.if-not-is_unit.false c.if-image-gt140737488355328.true

pub returns-in_err-count : goal.returns-in_err-count
returns-in_err-count c =
    rw (passed_on _ _ c.from_residual.ensures)
    (rest-taken _ _ _ _ c.is_unit.ensures c.if-not-is_unit.false c.if-image-gt140737488355328.false _ _ _ _ _ c.take_out.ensures c.in_err-count.was)

pub invariant_of-file : goal.invariant_of-file
invariant_of-file c = record {
  near = c.if-image-gt140737488355328.false;
  few = kept-few _ _ _ c.args.out c.is_unit.ensures c.if-not-is_unit.false c.if-image-gt140737488355328.false _ _ _ _ _ c.take_out.ensures c.in_ok-count.was;
  on_unit = is_unit_lem c.args.unit c.args.image.now c.args.numbers.now c.args.out c.is_unit.ensures c.if-not-is_unit.false;
}

pub lay_out-requires : goal.lay_out-requires
lay_out-requires c = c.requires.2

pub returns : goal.returns
returns c =
    rest-laid _ _ _ _ c.is_unit.ensures c.if-not-is_unit.false c.if-image-gt140737488355328.false _ _ _ _ _ c.take_out.ensures c.in_ok-count.was c.requires.1 _ _ _
    c.lay_out.ensures
