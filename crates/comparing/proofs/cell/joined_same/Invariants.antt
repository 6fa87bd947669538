-- Each turn passes equal bytes, as many as lie in one fragment of each.
use Rattle.result.specs.Sharing.{same}
use Rattle.comparing.specs.Same.{Has, bytes_at}
use Rattle.comparing.specs.SameLaws.{Matching}
use Rattle.comparing.proofs.cell.joined_same.Given as goal

abbrev pub invariant-loop-left : goal.invariant-loop-left
invariant-loop-left l =
    Has l.image l.one l.initial.j l.w → Has l.image l.two l.initial.k l.w → Matching l.image l.one l.two l.j l.k l.left (same (bytes_at l.image l.one l.initial.j l.w) (bytes_at l.image l.two l.initial.k l.w))

abbrev pub decreases-loop-left : goal.decreases-loop-left
decreases-loop-left l = l.left
