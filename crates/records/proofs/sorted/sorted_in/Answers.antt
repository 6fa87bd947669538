-- The checks in order; a refusal is passed on.
use Rattle.fields.specs.AnswerLaws.{passed_on}
use Rattle.blocks.specs.AnswerLaws.{so_fine, so_refused}
use Rattle.records.specs.RunLaws.{sorted_not, sorted_out, sorted_runs}
use Rattle.records.proofs.sorted.sorted_in.Goals as goal

pub returns-in_err-dv_fits : goal.returns-in_err-dv_fits
returns-in_err-dv_fits c = rw (passed_on _ _ c.from_residual.ensures) (sorted_not _ _ _ _ (so_refused c.dv_fits.ensures c.in_err-dv_fits.was))

pub returns-in_err-ranges_in : goal.returns-in_err-ranges_in
returns-in_err-ranges_in c =
    rw (passed_on _ _ c.from_residual-in_err-ranges_in.ensures)
    (sorted_out _ _ _ _ (so_fine c.dv_fits.ensures c.in_ok-dv_fits.was) (so_refused c.ranges_in.ensures c.in_err-ranges_in.was))

pub runs_whole-requires : goal.runs_whole-requires
runs_whole-requires c = so_fine c.ranges_in.ensures c.in_ok-ranges_in.was

pub returns : goal.returns
returns c =
    sorted_runs _ _ _ _ (so_fine c.dv_fits.ensures c.in_ok-dv_fits.was) (so_fine c.ranges_in.ensures c.in_ok-ranges_in.was)
    c.runs_whole.ensures
