-- Each way through the checks is a way through the definition.
use native.Mathlib.Omega.{arith}
use lib.ListN.{length-drop}
use Rattle.fields.specs.AnswerLaws.{passed_on}
use Rattle.blocks.specs.AnswerLaws.{so_fine, so_refused}
use Rattle.copier.specs.StandingLaws.{length-copies}
use Rattle.copier.specs.BeginLaws.{tested_some, tested_none, on_way, so_copied, begin_none, begin_found, begin_deep, begin_circle, begin_refused, begin_other, begin_full, begin_links}
use Rattle.copier.proofs.copies.begin.Goals as goal

pub returns-then-a-eq0 : goal.returns-then-a-eq0
returns-then-a-eq0 c = begin_none _ _ _ _ _ _ c.if-a-eq0.true

pub returns-then-is_some : goal.returns-then-is_some
returns-then-is_some c = begin_found _ _ _ _ _ _ c.if-a-eq0.false (tested_some _ (c.find_in.ensures c.requires.3) c.is_some.ensures c.if-is_some.true).1

pub returns-then-left-eq0 : goal.returns-then-left-eq0
returns-then-left-eq0 c = begin_deep _ _ _ _ _ _ c.if-a-eq0.false (tested_none _ (c.find_in.ensures c.requires.3) c.is_some.ensures c.if-is_some.false) c.if-left-eq0.true

pub returns-then-contains : goal.returns-then-contains
returns-then-contains c = begin_circle _ _ _ _ _ _ c.if-a-eq0.false (tested_none _ (c.find_in.ensures c.requires.3) c.is_some.ensures c.if-is_some.false) c.if-left-eq0.false (on_way c.args.way.now c.args.left 65 c.args.a (omega arith) c.contains.ensures.value c.if-contains.true)

pub returns-in_err-whole_at : goal.returns-in_err-whole_at
returns-in_err-whole_at c =
    rw (passed_on _ _ c.from_residual.ensures)
    (begin_refused _ _ _ _ _ _ c.if-a-eq0.false (tested_none _ (c.find_in.ensures c.requires.3) c.is_some.ensures c.if-is_some.false) c.if-left-eq0.false (on_way c.args.way.now c.args.left 65 c.args.a (omega arith) c.contains.ensures.value c.if-contains.false) (so_refused c.whole_at.ensures c.in_err-whole_at.was))

pub returns-then-not-is_copied : goal.returns-then-not-is_copied
returns-then-not-is_copied c =
    begin_other _ _ _ _ _ _ c.if-a-eq0.false (tested_none _ (c.find_in.ensures c.requires.3) c.is_some.ensures c.if-is_some.false) c.if-left-eq0.false (on_way c.args.way.now c.args.left 65 c.args.a (omega arith) c.contains.ensures.value c.if-contains.false) (so_fine c.whole_at.ensures c.in_ok-whole_at.was)
    (so_copied c.args.image.now c.args.a c.kind_at.ensures c.is_copied.ensures c.if-not-is_copied.true)

pub returns-then-used-left : goal.returns-then-used-left
returns-then-used-left c =
    let a = c.args in
    begin_links _ _ _ _ _ _ c.if-a-eq0.false (tested_none _ (c.find_in.ensures c.requires.3) c.is_some.ensures c.if-is_some.false) c.if-left-eq0.false (on_way c.args.way.now c.args.left 65 c.args.a (omega arith) c.contains.ensures.value c.if-contains.false) (so_fine c.whole_at.ensures c.in_ok-whole_at.was)
    (so_copied a.image.now a.a c.kind_at.ensures c.is_copied.ensures c.if-not-is_copied.false)
    (omega (arith, length-copies a.memo.now 0 a.used, length-drop a.left a.way.now))

pub returns : goal.returns
returns c =
    let a = c.args in
    begin_full _ _ _ _ _ _ c.if-a-eq0.false (tested_none _ (c.find_in.ensures c.requires.3) c.is_some.ensures c.if-is_some.false) c.if-left-eq0.false (on_way c.args.way.now c.args.left 65 c.args.a (omega arith) c.contains.ensures.value c.if-contains.false) (so_fine c.whole_at.ensures c.in_ok-whole_at.was)
    (so_copied a.image.now a.a c.kind_at.ensures c.is_copied.ensures c.if-not-is_copied.false)
    (omega (arith, length-copies a.memo.now 0 a.used, length-drop a.left a.way.now))
