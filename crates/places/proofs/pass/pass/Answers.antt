-- What was kept is right, and how many records of each group lie before the place is known.
use Rattle.places.specs.PassLaws.{passing_begin, passing_record, passing_out, passing_counted}
use mathlib.Core.Path.{refl}
use native.Mathlib.Omega.{arith}
use Rattle.places.proofs.pass.pass.Goals as goal

pub records-init : goal.records-init
records-init c = (passing_begin _ _ _ _ _ _ _ _ 512, refl, refl)

pub returns-then-not-kept : goal.returns-then-not-kept
returns-then-not-kept c =
    passing_out _ _ _ _ _ _ _ _ c.records.invariant.0 c.next_record-next.ensures c.in-Some.is c.take-kept.ensures.0

pub records-preserved : goal.records-preserved
records-preserved c = (
  passing_record _ _ _ _ _ _ _ _ c.records.invariant.0 c.next_record-next.ensures c.in-Some.is c.take-kept.ensures.0 c.records.invariant.1
      (c.take-kept.ensures.1 (c.if-not-kept.false)),
  passing_counted _ _ _ _ _ _ _ _ c.records.invariant.0 c.next_record-next.ensures c.in-Some.is c.take-kept.ensures.0 c.records.invariant.1
      (c.take-kept.ensures.1 (c.if-not-kept.false)),
  omega arith,
)
