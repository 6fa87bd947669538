-- What was found so far is a stretch, and the records that follow are ahead.
use Rattle.places.specs.NextLaws.{going_begin, going_own, going_other, next_end, next-many, next_stop}
use native.Mathlib.Omega.{arith}
use Rattle.places.proofs.several.several_next.Goals as goal

pub records-init : goal.records-init
records-init c = going_begin _ _ _ _ _ _ _ _

pub returns-in_default : goal.returns-in_default
returns-in_default c = next_end _ _ _ _ _ _ _ _ c.records.invariant c.next_record-next.ensures c.in_default.is

pub returns-in_default-longer : goal.returns-in_default-longer
returns-in_default-longer c =
    next_stop _ _ _ _ _ _ _ _ c.records.invariant c.next_record-next.ensures c.longer.ensures c.in_default-longer.is

pub returns-then-c : goal.returns-then-c
returns-then-c c =
    next-many _ _ _ _ _ _ _ _ c.records.invariant c.next_record-next.ensures c.in-Some.is c.if-r-k.true (omega arith)

pub records-preserved-then-r-k : goal.records-preserved-then-r-k
records-preserved-then-r-k c =
    going_own _ _ _ _ _ _ _ _ c.records.invariant c.next_record-next.ensures c.in-Some.is c.if-r-k.true c.longer.ensures
    c.in-Some-longer.is

pub records-preserved : goal.records-preserved
records-preserved c =
    going_other _ _ _ _ _ _ _ _ c.records.invariant c.next_record-next.ensures c.in-Some.is c.if-r-k.false
