-- The DG from block i on, counted after those before, give what all give.
use native.Mathlib.Omega.{arith}
use Rattle.fields.specs.AnswerLaws.{passed_on}
use Rattle.reading.specs.CountingLaws.{held-room, count_begin, count_ready, count_next, count_refused, count_on, count_end}
use Rattle.reading.proofs.recording.count_all.Goals as goal

pub loop-i-init : goal.loop-i-init
loop-i-init c = count_begin _ _ _ _ _ _

pub span-own-requires : goal.span-own-requires
span-own-requires c = let r = held-room c.requires.0 in let l = c.requires.0.long in (omega arith, r, l)

pub end_at-end-requires : goal.end_at-end-requires
end_at-end-requires c = (held-room c.requires.0, c.requires.0.long)

pub count_dg-requires : goal.count_dg-requires
count_dg-requires c =
    count_ready c.loop-i.invariant c.loop-i-test.true c.span-own.ensures c.end_at-end.ensures c.requires.0
    (let m = c.loop-i.invariant.length-same in omega arith)

pub returns-in_err-count_dg : goal.returns-in_err-count_dg
returns-in_err-count_dg c =
    rw (passed_on _ _ c.from_residual.ensures)
    (count_refused c.loop-i.invariant c.loop-i-test.true c.span-own.ensures c.end_at-end.ensures _ c.count_dg.result c.count_dg.ensures c.in_err-count_dg.was)

pub overflow_add-g : goal.overflow_add-g
overflow_add-g c =
    let m = count_ready c.loop-i.invariant c.loop-i-test.true c.span-own.ensures c.end_at-end.ensures c.requires.0
    (let j = c.loop-i.invariant.length-same in omega arith) in omega arith

pub loop-i-smaller : goal.loop-i-smaller
loop-i-smaller c =
    let m = count_next c.loop-i.invariant c.loop-i-test.true c.span-own.ensures c.end_at-end.ensures c.requires.0 in omega arith

pub loop-i-preserved : goal.loop-i-preserved
loop-i-preserved c =
    count_on c.loop-i.invariant c.loop-i-test.true c.span-own.ensures c.end_at-end.ensures _ c.count_dg.result c.count_dg.ensures c.in_ok-count_dg.was (omega arith)

pub returns : goal.returns
returns c = count_end c.loop-i.invariant (omega arith)
