-- Each return is a way through the definition's tests.
use Rattle.sharing.specs.StreamLaws.{way_samples, way_inval, way_dv, way_bare, way_ids}
use native.Mathlib.Omega.{arith}
use Rattle.sharing.proofs.stream.stream_in.Goals.{then-samples_of-ne0-via-then-samples_of-ne0, then-samples_of-ne0-via-else-samples_of-ne0+then-inval_bytes_of-ne0, then-any_dv-via-then-any_dv, then-any_dv-via-else-any_dv+then-id_size-eq0}
use Rattle.sharing.proofs.stream.stream_in.Goals as goal

pub returns-then-samples_of-ne0 : goal.returns-then-samples_of-ne0
returns-then-samples_of-ne0 c =
    elim c.then-samples_of-ne0.branch [
      | then-samples_of-ne0-via-then-samples_of-ne0 w ↦ way_samples _ _ _ _ c.samples_of.ensures.is w.if-samples_of-ne0.true c.sorted_in.ensures
      | then-samples_of-ne0-via-else-samples_of-ne0+then-inval_bytes_of-ne0 w ↦ way_inval _ _ _ _ c.samples_of.ensures.is w.if-samples_of-ne0.false w.inval_bytes_of.ensures.is w.if-inval_bytes_of-ne0.true c.sorted_in.ensures
    ]

pub returns-then-any_dv : goal.returns-then-any_dv
returns-then-any_dv c =
    elim c.then-any_dv.branch [
      | then-any_dv-via-then-any_dv w ↦ way_dv _ _ _ _ c.samples_of.ensures.is (omega arith) c.inval_bytes_of.ensures.is (omega arith) c.any_dv.ensures w.if-any_dv.true
      | then-any_dv-via-else-any_dv+then-id_size-eq0 w ↦ way_bare _ _ _ _ c.samples_of.ensures.is (omega arith) c.inval_bytes_of.ensures.is (omega arith) c.any_dv.ensures w.if-any_dv.false w.id_size.ensures.is w.if-id_size-eq0.true
    ]

pub returns : goal.returns
returns c = way_ids _ _ _ _ c.samples_of.ensures.is (omega arith) c.inval_bytes_of.ensures.is (omega arith) c.any_dv.ensures c.if-any_dv.false
    c.id_size.ensures.is (omega arith) c.sorted_in-2.ensures
