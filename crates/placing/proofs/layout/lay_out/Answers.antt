-- The stages of the layout, one after the other.
use native.Mathlib.Omega.{arith}
use Rattle.copier.specs.TurnLaws.{after-at}
use Rattle.copier.specs.HistoryLaws.{begins-at}
use Rattle.placing.specs.LayingLaws.{first_ready, first_md, first_near_lem, columns_ready, whole_first, whole_columns, whole_rest, rests_at, whole_done}
use Rattle.fields.specs.AnswerLaws.{passed_on}
use Rattle.placing.proofs.layout.lay_out.Goals as goal

pub overflow_add-fh : goal.overflow_add-fh
overflow_add-fh c =
    let h = c.requires in
    let o = begins-at _ _ _ _ _ (c.first_copies.ensures
    (first_ready _ h.1)) c.in_ok-begun.was in
    let i = first_md o c.aligned-md.ensures in
    let z = first_near_lem o i _ c.md_bytes.ensures h.3 in
    omega (arith, z.near)

pub overflow_add-fh-2 : goal.overflow_add-fh-2
overflow_add-fh-2 c =
    let h = c.requires in
    let o = begins-at _ _ _ _ _
    (c.first_copies.ensures (first_ready _ h.1))
    c.in_ok-begun.was in
    let i = first_md o c.aligned-md.ensures in
    let z = first_near_lem o i _ c.md_bytes.ensures h.3 in
    omega (arith, z.near)

pub place_rest-requires : goal.place_rest-requires
place_rest-requires c =
    let h = c.requires in
    let o = begins-at _ _ _ _ _
    (c.first_copies.ensures
    (first_ready _ h.1))
    c.in_ok-begun.was in
    let i = first_md o c.aligned-md.ensures in
    let z = first_near_lem o i _ c.md_bytes.ensures
    h.3 in
    let r = columns_ready o
    c.first_copies.auto.memo
    h.1 z in
    let y = after-at (c.copy_columns.ensures.after r h.0)
    c.in_ok-got.was in (
      h.0,
      omega (
        arith,
        h.1,
        c.first_copies.auto.memo,
        c.copy_columns.auto.memo,
      ),
      h.2,
      omega (arith, y.most),
      omega (arith, y.most, y.near, z.near),
      h.4,
      h.5,
      h.6,
    )

pub shape_of-memo : goal.shape_of-memo
shape_of-memo c =
    omega (
      arith,
      c.first_copies.auto.memo,
      c.copy_columns.auto.memo,
      c.place_rest.auto.memo,
    )

pub returns : goal.returns
returns c =
    let h = c.requires in
    let o = begins-at _ _ _ _ _
    (c.first_copies.ensures
    (first_ready _ h.1))
    c.in_ok-begun.was
    in
    let i = first_md o
    c.aligned-md.ensures
    in
    let z = first_near_lem o i _
    c.md_bytes.ensures
    h.3 in
    let r = columns_ready o
    c.first_copies.auto.memo
    h.1 z in
    whole_done _ _ _ _ _ _ _ _ _ o i
    c.md_bytes.ensures
    (c.copy_columns.ensures.copied r
    h.0) c.in_ok-got.was
    (rests_at _ _ _ _ _ _ _ _ _ _ _ c.place_rest.ensures
    c.in_ok-rest.was)
    c.first_copies.auto.memo
    c.copy_columns.auto.memo
    c.place_rest.auto.memo h.1
    (c.copy_columns.ensures.after r
    h.0)

pub returns-in_err-rest : goal.returns-in_err-rest
returns-in_err-rest c =
    let h = c.requires in
    let o = begins-at _ _ _ _ _
    (c.first_copies.ensures
    (first_ready _ h.1))
    c.in_ok-begun.was
    in
    let i = first_md o
    c.aligned-md.ensures
    in
    let z = first_near_lem o i _
    c.md_bytes.ensures
    h.3 in
    let r = columns_ready o
    c.first_copies.auto.memo
    h.1 z in
    rw (passed_on _ _ c.from_residual-in_err-rest.ensures) (whole_rest _ _ _ _ _ _ _ _ _ o i
    c.md_bytes.ensures
    (c.copy_columns.ensures.copied r
    h.0) c.in_ok-got.was _
    c.place_rest.ensures c.in_err-rest.was)

pub returns-in_err-got : goal.returns-in_err-got
returns-in_err-got c =
    let h = c.requires in
    let o = begins-at _ _ _ _ _
    (c.first_copies.ensures
    (first_ready _ h.1))
    c.in_ok-begun.was in
    let i = first_md o c.aligned-md.ensures in
    let z = first_near_lem o i _ c.md_bytes.ensures h.3 in
    let r = columns_ready o
    c.first_copies.auto.memo
    h.1 z in
    rw (passed_on _ _ c.from_residual-in_err-got.ensures) (whole_columns _ _ _ _ _ _ _ _ _ o i c.md_bytes.ensures
    (c.copy_columns.ensures.copied r h.0) c.in_err-got.was)

pub returns-in_err-begun : goal.returns-in_err-begun
returns-in_err-begun c =
    rw (passed_on _ _ c.from_residual.ensures) (whole_first _ _ _ _ _ _ _ _ _ _ _ (c.first_copies.ensures
    (first_ready _ c.requires.1))
    c.in_err-begun.was)
