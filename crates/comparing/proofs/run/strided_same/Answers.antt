-- Each turn passes two equal cells.
use mathlib.Core.Path.{refl}
use Rattle.comparing.specs.RunLaws.{step-here, step-next, step_other, step_turn, step_end}
use native.Mathlib.Omega.{arith}
use Rattle.std.specs.Prelude.{not}
use Rattle.std.proofs.Common.{ap}
use Rattle.comparing.proofs.run.strided_same.Goals as goal

pub loop-h-init : goal.loop-h-init
loop-h-init c = let o = c.requires in record { one = o.4; two = o.5; is = refl }

pub here_same-requires : goal.here_same-requires
here_same-requires c = let o = c.requires in let e = step-here c.loop-h.invariant in (o.0, o.1, o.2, o.3, e.0, e.1)

pub returns-then-not-here_same : goal.returns-then-not-here_same
returns-then-not-here_same c = let o = c.requires in step_other c.loop-h.invariant o.0 o.1 o.2 o.3 c.here_same.ensures (ap not c.if-not-here_same.true)

pub returns-then-left-eq1 : goal.returns-then-left-eq1
returns-then-left-eq1 c = let o = c.requires in step_end c.loop-h.invariant o.0 o.1 o.2 o.3 c.here_same.ensures (ap not c.if-not-here_same.false) (omega arith)

pub overflow_add-a : goal.overflow_add-a
overflow_add-a c = let s = c.loop-h.invariant.one.some in let e = step-next c.loop-h.invariant (omega arith) in omega (arith, c.well_formed.0)

pub overflow_add-b : goal.overflow_add-b
overflow_add-b c = let s = c.loop-h.invariant.one.some in let e = step-next c.loop-h.invariant (omega arith) in omega (arith, c.well_formed.0)

pub loop-h-preserved : goal.loop-h-preserved
loop-h-preserved c = let o = c.requires in let s = c.loop-h.invariant.one.some in step_turn c.loop-h.invariant o.0 o.1 o.2 o.3 c.here_same.ensures (ap not c.if-not-here_same.false) (omega arith)
