-- A column that is taken out may name any; of another the master is asked.
use Rattle.taking.specs.MarksLaws.{master_out, master_taken, master_stays}
use Rattle.taking.proofs.list.master_kept.Goals as goal
use Rattle.taking.proofs.list.master_kept.Goals.{else-not-marks-k-via-then-not-marks-k+else-is_taken, else-not-marks-k-via-else-not-marks-k}

pub returns-then-is_taken : goal.returns-then-is_taken
returns-then-is_taken c = λ ns r. master_taken _ _ _ _ _ (r.is _) c.if-not-marks-k.true (c.is_taken.ensures _ r) c.if-is_taken.true

pub returns : goal.returns
returns c = elim c.else-not-marks-k.branch [
  | else-not-marks-k-via-then-not-marks-k+else-is_taken w ↦ λ ns r. master_stays _ _ _ _ _ (r.is _) w.if-not-marks-k.true (w.is_taken.ensures _ r) w.if-is_taken.false
  | else-not-marks-k-via-else-not-marks-k w ↦ (λ ns r. master_out _ _ _ _ _ (r.is _) w.if-not-marks-k.false)
]
