-- Each item adds its words and its place in the index.
use mathlib.Core.Path.{refl}
use Rattle.planning.specs.NotedLaws.{note_begin, note_end, note_cg, note_dg, note_cn}
use native.Mathlib.Omega.{arith}
use borrow.Author.Rules.{rules}
use Rattle.planning.proofs.groups.note_items.Goals.{then-mark-eq1, else-mark-eq1+then-mark-ne0, else-mark-eq1+else-mark-ne0}
use Rattle.planning.proofs.groups.note_items.Goals as goal

pub loop-i-init : goal.loop-i-init
loop-i-init c = (refl, note_begin c.requires.1 c.requires.2)

pub loop-i-preserved : goal.loop-i-preserved
loop-i-preserved c =
    elim c.if-mark-eq1.branch [
      | then-mark-eq1 w ↦ rw (w.g-is, w.d-is) (search rules, note_cg c.loop-i.invariant.1 (omega arith) c.requires.0 c.word-at.ensures c.enter.ensures c.put.ensures c.put-in-loop-i.ensures c.word-mark.ensures w.if-mark-eq1.true)
      | else-mark-eq1+then-mark-ne0 w ↦ rw (w.g-is, w.d-is) (search rules, note_dg c.loop-i.invariant.1 (omega arith) c.requires.0 c.word-at.ensures c.enter.ensures c.put.ensures c.put-in-loop-i.ensures c.word-mark.ensures w.if-mark-ne0.true w.if-mark-eq1.false)
      | else-mark-eq1+else-mark-ne0 w ↦ rw (w.g-is, w.d-is) (search rules, note_cn c.loop-i.invariant.1 (omega arith) c.requires.0 c.word-at.ensures c.enter.ensures c.put.ensures c.put-in-loop-i.ensures c.word-mark.ensures w.if-mark-ne0.false)
    ]

pub returns : goal.returns
returns c = note_end c.loop-i.invariant.1 (omega arith)
