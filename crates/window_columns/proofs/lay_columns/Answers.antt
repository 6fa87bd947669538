use Rattle.std.proofs.Common.{arith}
use Rattle.window_columns.specs.AllLaws.{laying_from, laying_turn, laying_past, laying_end}
use Rattle.window_columns.proofs.lay_columns.Goals as goal

pub loop-k-init : goal.loop-k-init
loop-k-init c = laying_from _ _ _ _ _ _ _ _ _ _ _ _ _ _ c.first_needed-k.ensures

pub returns-then-past : goal.returns-then-past
returns-then-past c =
    let p = c.args.c.now in
    laying_past _ _ _ _ _ _ _ _ _ _ _ _ _ _ _ c.loop-k.invariant c.loop-k-test.true (c.entry_of-e.ensures (omega (arith, p.few, c.loop-k-test.true)) p.long p.placed) (c.past.ensures c.if-past.true)

pub loop-k-preserved : goal.loop-k-preserved
loop-k-preserved c =
    let p = c.args.c.now in
    laying_turn _ _ _ _ _ _ _ _ _ _ _ _ _ _ _ c.loop-k.invariant c.loop-k-test.true (c.entry_of-e.ensures (omega (arith, p.few, c.loop-k-test.true)) p.long p.placed)
    (omega (arith, c.lay_entry.auto.w)) (omega (arith, c.lay_entry.auto.w)) (omega (arith, c.lay_entry.auto.w)) (omega (arith, c.lay_sd.auto.w)) c.lay_entry.ensures c.lay_sd.ensures

pub returns : goal.returns
returns c = laying_end _ _ _ _ _ _ _ _ _ _ _ _ _ _ c.loop-k.invariant (omega arith)
