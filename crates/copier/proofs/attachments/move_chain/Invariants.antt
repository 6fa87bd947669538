-- What is left of the chain gives what the whole gives.
use Prim.Native.Nat.{◌-◌}
use Rattle.copier.specs.AttachingLaws.{Chaining}
use Rattle.copier.specs.Index.{Indexed}
use Rattle.copier.proofs.attachments.move_chain.Given as goal

abbrev pub invariant-loop-links : goal.invariant-loop-links
invariant-loop-links l = Chaining l.most l.image l.initial.memo l.a l.initial.st l.memo l.at l.count l.st × Indexed l.memo l.st.used l.index

abbrev pub decreases-loop-links : goal.decreases-loop-links
decreases-loop-links l = 66 - l.count
