-- What is left of the search gives what the whole gives.
use Rattle.records.specs.FragmentLaws.{from_start, dv_met, dv-next, dv_end}
use native.Mathlib.Omega.{arith}
use Rattle.records.proofs.fragment.any_dv.Goals as goal

pub loop-i-init : goal.loop-i-init
loop-i-init c = (omega arith, rw (from_start c.args.fragments.now))

pub returns-then-is_dv : goal.returns-then-is_dv
returns-then-is_dv c = dv_met _ _ c.loop-i.invariant.1 (omega arith) c.is_dv.ensures c.if-is_dv.true

pub loop-i-preserved : goal.loop-i-preserved
loop-i-preserved c = (
  omega arith,
  dv-next _ _ c.loop-i.invariant.1 (omega arith) c.is_dv.ensures c.if-is_dv.false,
)

pub returns : goal.returns
returns c = dv_end _ _ c.loop-i.invariant.1 (omega arith)
