-- What is left of the items gives what all of them give.
use Rattle.planning.specs.TableLaws.{fill_begin, fill_end, fill_cg_lem, fill_dg_lem, fill_cn_lem}
use native.Mathlib.Omega.{arith}
use Rattle.planning.proofs.table.fill_table.Goals.{then-mark-eq1, else-mark-eq1+then-mark-ne0, else-mark-eq1+else-mark-ne0}
use Rattle.planning.proofs.table.fill_table.Goals as goal

pub loop-i-init : goal.loop-i-init
loop-i-init c = fill_begin

pub loop-i-preserved : goal.loop-i-preserved
loop-i-preserved c =
    elim c.if-mark-eq1.branch [
      | then-mark-eq1 w ↦ rw (w.table-is, w.j-is, w.owner-is) (fill_cg_lem c.loop-i.invariant (omega arith) c.word-mark.ensures c.word-at.ensures w.if-mark-eq1.true w.put_entry.ensures)
      | else-mark-eq1+then-mark-ne0 w ↦ rw (w.table-is, w.j-is, w.owner-is) (fill_dg_lem c.loop-i.invariant (omega arith) c.word-mark.ensures c.word-at.ensures w.if-mark-eq1.false w.if-mark-ne0.true w.owner_of-owner.ensures)
      | else-mark-eq1+else-mark-ne0 w ↦ rw (w.table-is, w.j-is, w.owner-is) (fill_cn_lem c.loop-i.invariant (omega arith) c.word-mark.ensures c.word-at.ensures w.if-mark-ne0.false)
    ]

pub returns : goal.returns
returns c = fill_end c.loop-i.invariant (omega arith)
