-- In DV a record has its data bytes, in DT also its id and its invalidation bytes.
use Rattle.records.specs.GroupLaws.{size-dv, size-dt}
use native.Mathlib.Omega.{arith}
use Rattle.records.proofs.group.record_size.Goals as goal

pub returns-then-dv : goal.returns-then-dv
returns-then-dv c = record { is = size-dv _ _ _ c.if-dv.true c.samples_of.ensures.is; small = omega arith }

pub returns : goal.returns
returns c =
    record {
      is = size-dt _ _ _ c.if-dv.false c.id_size.ensures.is
          c.samples_of-2.ensures.is c.inval_bytes.ensures.is;
      small = omega arith;
    }
