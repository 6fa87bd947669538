-- 1 of a slice that is too short; else what the rest decides, and after a refusal zeros.
use Rattle.arranging.specs.DecideLaws.{short-first, short-second, short_third, short_fourth, work_fine, short_work, rest_refused, rest-arranged, cleared, all-zero}
use borrow.Author.Rules.{rules}
use Rattle.arranging.proofs.decide.arrange.Goals as goal
use Rattle.arranging.proofs.decide.arrange.Goals.{
  then-source-lt8192-via-then-source-lt8192,
  then-source-lt8192-via-else-source-lt8192+then-fragments-lt8192,
  then-source-lt8192-via-else-source-lt8192+else-fragments-lt8192+then-columns-lt8192,
  then-source-lt8192-via-else-source-lt8192+else-fragments-lt8192+else-columns-lt8192+then-memo-lt8192,
}

pub returns-then-source-lt8192 : goal.returns-then-source-lt8192
returns-then-source-lt8192 c = short_work _ _ _ _ _ (elim c.then-source-lt8192.branch [
  | then-source-lt8192-via-then-source-lt8192 w ↦ short-first _ _ _ _ w.if-source-lt8192.true
  | then-source-lt8192-via-else-source-lt8192+then-fragments-lt8192 w ↦ short-second _ _ _ _ w.if-source-lt8192.false w.if-fragments-lt8192.true
  | then-source-lt8192-via-else-source-lt8192+else-fragments-lt8192+then-columns-lt8192 w ↦
      short_third _ _ _ _ w.if-source-lt8192.false w.if-fragments-lt8192.false w.if-columns-lt8192.true
  | then-source-lt8192-via-else-source-lt8192+else-fragments-lt8192+else-columns-lt8192+then-memo-lt8192 w ↦
      short_fourth _ _ _ _ w.if-source-lt8192.false w.if-fragments-lt8192.false w.if-columns-lt8192.false w.if-memo-lt8192.true
])

pub arrange_rest-arranged-requires : goal.arrange_rest-arranged-requires
arrange_rest-arranged-requires c = (c.if-fragments-lt8192.false, c.if-columns-lt8192.false, c.if-memo-lt8192.false)

pub returns-in-Err : goal.returns-in-Err
returns-in-Err c = cleared _ _ _ _ _ _ (work_fine _ _ _ _ c.if-source-lt8192.false c.if-fragments-lt8192.false c.if-columns-lt8192.false c.if-memo-lt8192.false)
    (rest_refused _ _ _ _ _ _ _ _ _ _ _ c.arrange_rest-arranged.ensures c.in-Err.is)
    (all-zero c.args.source.now c.args.fragments.now c.args.columns.now c.args.memo.now
    c.arrange_rest-arranged.new.fragments c.arrange_rest-arranged.new.columns c.arrange_rest-arranged.new.memo _ _ _ _
    c.arrange_rest-arranged.auto.fragments c.arrange_rest-arranged.auto.columns c.arrange_rest-arranged.auto.memo
    c.clear.ensures c.clear-in-Err.ensures c.clear-in-Err-2.ensures c.clear-in-Err-3.ensures)

pub returns : goal.returns
returns c = rest-arranged _ _ _ _ _ _ _ _ _ _ _ _ c.if-source-lt8192.false c.if-fragments-lt8192.false c.if-columns-lt8192.false c.if-memo-lt8192.false c.arrange_rest-arranged.ensures c.in_default.is
