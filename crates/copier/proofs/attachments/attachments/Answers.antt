-- Where copying can begin, the index of what stands is made.
use native.Mathlib.Omega.{arith}
use Rattle.copier.proofs.attachments.attachments.Goals as goal
use Rattle.copier.proofs.attachments.attachments.Goals.{then-not-is_ready-via-then-not-is_ready, then-not-is_ready-via-else-not-is_ready+then-image-gt140737488355328}

pub move_chain-requires : goal.move_chain-requires
move_chain-requires c =
    let r = c.is_ready.ensures.yes c.if-not-is_ready.false in
    (r, omega arith, c.index_copies-index.ensures r.few (omega (arith, r.few, r.words)))

pub returns-then-not-is_ready : goal.returns-then-not-is_ready
returns-then-not-is_ready c =
    elim c.then-not-is_ready.branch [
      | then-not-is_ready-via-then-not-is_ready w ↦ λ r h. absurd (c.is_ready.ensures.no w.if-not-is_ready.true r)
      | then-not-is_ready-via-else-not-is_ready+then-image-gt140737488355328 w ↦ λ r h. absurd (omega (arith, w.if-image-gt140737488355328.true))
    ]

pub returns : goal.returns
returns c = λ r h. c.move_chain.ensures
