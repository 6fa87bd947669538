-- By whether there is DV, and whether there are invalidation bytes.
use Rattle.records.specs.RunLaws.{fits_not, fits-dv, fits-dt}
use Rattle.records.proofs.sorted.dv_fits.Goals.{else-any_dv-via-then-any_dv+else-inval_bytes-ne0, else-any_dv-via-else-any_dv}
use Rattle.records.proofs.sorted.dv_fits.Goals as goal

pub returns-then-inval_bytes-ne0 : goal.returns-then-inval_bytes-ne0
returns-then-inval_bytes-ne0 c =
    fits_not _ _ _ _ c.any_dv.ensures c.if-any_dv.true c.inval_bytes.ensures.is c.if-inval_bytes-ne0.true

pub returns : goal.returns
returns c =
    elim c.else-any_dv.branch [
      | else-any_dv-via-then-any_dv+else-inval_bytes-ne0 w ↦
          fits-dv _ _ _ _ c.any_dv.ensures w.if-any_dv.true w.inval_bytes.ensures.is w.if-inval_bytes-ne0.false
      | else-any_dv-via-else-any_dv w ↦ fits-dt _ _ _ _ c.any_dv.ensures w.if-any_dv.false
    ]
