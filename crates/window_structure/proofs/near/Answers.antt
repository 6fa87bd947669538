use mathlib.Core.Logic.{inl, inr}
use mathlib.Core.Path.{refl}
use native.Mathlib.Omega.{arith}
use Rattle.window_structure.proofs.near.Goals as goal

pub loop-low-init : goal.loop-low-init
loop-low-init c = (inl refl, omega arith, omega arith)

pub loop-low-preserved-then-memo-mid : goal.loop-low-preserved-then-memo-mid
loop-low-preserved-then-memo-mid c = (inr (omega arith, c.if-memo-mid.true), omega arith, omega arith)

pub loop-low-preserved : goal.loop-low-preserved
loop-low-preserved c = (c.loop-low.invariant.0, c.loop-low.invariant.1, omega arith)

pub returns : goal.returns
returns c = c.loop-low.invariant.0
