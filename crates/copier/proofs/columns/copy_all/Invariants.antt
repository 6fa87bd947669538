-- What is left of the columns gives what all of them give.
use Prim.Native.Nat.{◌*◌, ◌-◌}
use Rattle.copier.specs.RootsLaws.{CopyingOf}
use Rattle.copier.specs.Index.{Indexed}
use Rattle.copier.proofs.columns.copy_all.Given as goal

abbrev pub invariant-loop-k : goal.invariant-loop-k
invariant-loop-k l =
    CopyingOf l.most l.image l.columns l.n l.initial.memo l.initial.st l.memo (8 * l.k) (l.n - l.k) l.st × Indexed l.memo l.st.used l.index
