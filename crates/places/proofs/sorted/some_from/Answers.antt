-- Each turn passes a fragment without bytes.
use Rattle.places.specs.RunLaws.{some-none, some-here, some-on}
use native.Mathlib.Omega.{arith}
use Rattle.places.proofs.sorted.some_from.Goals as goal

pub returns-then-n-i-lt3 : goal.returns-then-n-i-lt3
returns-then-n-i-lt3 c = let e = c.loop-i.invariant.1 in some-none _ _ _ c.loop-i.invariant.0 (omega arith)

pub returns-then-word_at-ne0 : goal.returns-then-word_at-ne0
returns-then-word_at-ne0 c = let e = c.loop-i.invariant.1 in some-here _ _ _ c.loop-i.invariant.0 (omega arith) c.word_at.ensures c.if-word_at-ne0.true

pub loop-i-preserved : goal.loop-i-preserved
loop-i-preserved c = let e = c.loop-i.invariant.1 in (some-on _ _ _ c.loop-i.invariant.0 (omega arith) c.word_at.ensures c.if-word_at-ne0.false, e)

pub returns : goal.returns
returns c = let e = c.loop-i.invariant.1 in some-none _ _ _ c.loop-i.invariant.0 (omega arith)
