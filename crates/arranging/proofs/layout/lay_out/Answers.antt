-- Stage by stage, in the order of the definition.
use Prim.Native.Nat.{ℕ, ◌≤◌}
use mathlib.Core.List.{List}
use lib.ListN.{length}
use native.Mathlib.Omega.{arith}
use Rattle.fields.specs.AnswerLaws.{passed_on}
use Rattle.copier.specs.Standing.{Ready}
use Rattle.copier.specs.History.{start}
use Rattle.copier.specs.HistoryLaws.{begins-at}
use Rattle.arranging.specs.LayingLaws.{begun_near, copied_near, rests_at, whole_first, whole_columns, whole_rest, whole_done}
use Rattle.arranging.proofs.layout.lay_out.Goals as goal

-- copying can begin
ready : (w : List ℕ) → 8192 ≤ length w → Ready w 2050 start
ready w l = record { words = l; limit = omega arith; few = omega arith; near = omega arith }

pub place_rest-requires : goal.place_rest-requires
place_rest-requires c =
    let o = begins-at _ _ _ _ _ (c.first_copies.ensures (ready _ c.requires)) c.in_ok-begun.was in
    let r = begun_near o (omega (arith, c.first_copies.auto.memo, c.requires)) in
    let x = copied_near o (c.copy_columns.ensures.after r c.args.file.now.few) c.in_ok-copied.was in
    (omega (arith, c.copy_columns.auto.memo, c.first_copies.auto.memo, c.requires), x.0, x.1)

pub returns : goal.returns
returns c =
    let o = begins-at _ _ _ _ _ (c.first_copies.ensures (ready _ c.requires)) c.in_ok-begun.was in
    let r = begun_near o (omega (arith, c.first_copies.auto.memo, c.requires)) in
    whole_done _ _ _ _ _ _ o (c.copy_columns.ensures.copied r c.args.file.now.few) c.in_ok-copied.was (rests_at _ _ _ _ _ _ _ _ _ c.place_rest.ensures c.in_ok-rest.was)
    c.first_copies.auto.memo c.copy_columns.auto.memo c.place_rest.auto.memo c.requires (c.copy_columns.ensures.after r c.args.file.now.few)

pub returns-in_err-rest : goal.returns-in_err-rest
returns-in_err-rest c =
    let o = begins-at _ _ _ _ _ (c.first_copies.ensures (ready _ c.requires)) c.in_ok-begun.was in
    let r = begun_near o (omega (arith, c.first_copies.auto.memo, c.requires)) in
    rw (passed_on _ _ c.from_residual-in_err-rest.ensures)
    (whole_rest _ _ _ _ _ _ o (c.copy_columns.ensures.copied r c.args.file.now.few) c.in_ok-copied.was _ c.place_rest.ensures c.in_err-rest.was)

pub returns-in_err-copied : goal.returns-in_err-copied
returns-in_err-copied c =
    let o = begins-at _ _ _ _ _ (c.first_copies.ensures (ready _ c.requires)) c.in_ok-begun.was in
    let r = begun_near o (omega (arith, c.first_copies.auto.memo, c.requires)) in
    rw (passed_on _ _ c.from_residual-in_err-copied.ensures)
    (whole_columns _ _ _ _ _ _ o (c.copy_columns.ensures.copied r c.args.file.now.few) c.in_err-copied.was)

pub returns-in_err-begun : goal.returns-in_err-begun
returns-in_err-begun c =
    rw (passed_on _ _ c.from_residual.ensures)
    (whole_first _ _ _ _ _ _ _ _ (c.first_copies.ensures (ready _ c.requires)) c.in_err-begun.was)
