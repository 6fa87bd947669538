-- Three stores are the three words of the AT.
use native.Mathlib.Omega.{arith}
use lib.ListN.{length-set}
use Rattle.copier.specs.StandingLaws.{align_near}
use Rattle.copier.specs.AttachingLaws.{three_stores, attached_state}
use Rattle.copier.proofs.attachments.attach.Goals as goal

pub overflow_add-to : goal.overflow_add-to
overflow_add-to c = omega (arith, c.aligned-to.ensures (omega arith), align_near c.args.state.next)

pub aligned-next-requires : goal.aligned-next-requires
aligned-next-requires c = omega (arith, c.aligned-to.ensures (omega arith), align_near c.args.state.next)

pub bounds-memo-at-2 : goal.bounds-memo-at-2
bounds-memo-at-2 c = simp length-set (omega arith)

pub bounds-memo-at-3 : goal.bounds-memo-at-3
bounds-memo-at-3 c = simp length-set (omega arith)

pub returns : goal.returns
returns c =
    let e = c.aligned-to.ensures (omega arith) in
    let n = align_near c.args.state.next in
    record { words = three_stores _ _ _ _ _ _ e; state = attached_state _ _ _ e (c.aligned-next.ensures (omega arith)) }
