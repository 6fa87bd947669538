-- Places of columns, then attachments.
use mathlib.Core.Path.{refl}
use native.Mathlib.Omega.{arith}
use Rattle.placing.specs.InWordsLaws.{all-few}
use Rattle.placing.specs.LayingLaws.{rest-moved, rest_refused, rest_near}
use Rattle.fields.specs.AnswerLaws.{passed_on}
use Rattle.placing.proofs.layout.place_rest.Goals as goal

pub structure_end-end-requires : goal.structure_end-end-requires
structure_end-end-requires c =
    let a = c.args in
    let h = c.requires in
    let x = rest_near _ _ _ _ _ _ _ a.state
    (c.aligned-a.ensures (omega (arith, h.4))) refl refl h.0 h.4 h.5 h.6 h.7 in
    (h.0, omega (arith, x.0), all-few h.5)

pub place_columns-data-requires : goal.place_columns-data-requires
place_columns-data-requires c =
    let a = c.args in
    let h = c.requires in
    let x = rest_near _ _ _ _ _ _ _ a.state
    (c.aligned-a.ensures (omega (arith, h.4))) c.structure_end-end.ensures refl h.0 h.4
    h.5 h.6 h.7 in
    (h.0, omega (arith, x.0), omega (arith, x.1), h.1, h.5, h.6, h.7)

pub returns : goal.returns
returns c =
    let h = c.requires in
    let l = c.place_columns-data.auto.memo in
    rest-moved _ _ _ _ _ _ _ _ _
    (c.aligned-a.ensures
    (omega (arith, h.4)))
    c.structure_end-end.ensures
    c.place_columns-data.ensures.end
    c.place_columns-data.ensures.words
    c.link_at.ensures h.3 _
    (c.attachments.ensures
    (record {
      words = omega (arith, h.1, l);
      limit = omega arith;
      few = h.3;
      near = (rest_near _ _ _ _ _ _ _ c.args.state
          (c.aligned-a.ensures (omega (arith, h.4))) c.structure_end-end.ensures c.place_columns-data.ensures.end h.0 h.4 h.5 h.6 h.7).2;
    }) (omega (arith, h.2)))
    c.in_ok-moved.was

pub returns-in_err-moved : goal.returns-in_err-moved
returns-in_err-moved c =
    let h = c.requires in
    let l = c.place_columns-data.auto.memo in
    rw (passed_on _ _ c.from_residual.ensures) (rest_refused _ _ _ _ _ _ _ _ _
    (c.aligned-a.ensures
    (omega (arith, h.4)))
    c.structure_end-end.ensures
    c.place_columns-data.ensures.end
    c.place_columns-data.ensures.words
    c.link_at.ensures h.3 _ _
    (c.attachments.ensures
    (record {
      words = omega (arith, h.1, l);
      limit = omega arith;
      few = h.3;
      near = (rest_near _ _ _ _ _ _ _ c.args.state
          (c.aligned-a.ensures (omega (arith, h.4))) c.structure_end-end.ensures c.place_columns-data.ensures.end h.0 h.4 h.5 h.6 h.7).2;
    }) (omega (arith, h.2)))
    c.in_err-moved.was)
