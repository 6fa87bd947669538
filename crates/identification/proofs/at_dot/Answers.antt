-- No dot was passed.
use Rattle.std.proofs.Common.{arith, take, drop, length, ◌≡◌, ◌+◌, ◌-◌, length-drop}
use Rattle.std.proofs.lemmas.List.{take_all}
use Rattle.identification.specs.IdentificationLaws.{dot_begin, dot_on, dot_before, dot_after, no_dot_before, no_dot_after}
use Rattle.identification.proofs.at_dot.Goals as goal

pub loop-i-init : goal.loop-i-init
loop-i-init c = dot_begin _

pub returns-then-b-eq46-clause-before : goal.returns-then-b-eq46-clause-before
returns-then-b-eq46-clause-before c = dot_before c.loop-i.invariant (omega arith) c.if-b-eq46.true

pub returns-then-b-eq46-clause-past : goal.returns-then-b-eq46-clause-past
returns-then-b-eq46-clause-past c =
    let s = c.args.text.now in
    let i = c.loop-i.i in
    let whole : take (length s - (i + 1)) (drop (i + 1) s) ≡ drop (i + 1) s = take_all _ _ (simp length-drop (omega arith)) in
    rw whole (dot_after c.loop-i.invariant (omega arith) c.if-b-eq46.true)

pub loop-i-preserved : goal.loop-i-preserved
loop-i-preserved c = dot_on c.loop-i.invariant (omega arith) c.if-b-eq46.false

pub returns-clause-before : goal.returns-clause-before
returns-clause-before c = no_dot_before c.loop-i.invariant (omega arith)

pub returns-clause-past : goal.returns-clause-past
returns-clause-past c = no_dot_after c.loop-i.invariant (omega arith)
