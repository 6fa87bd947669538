-- Each return is one test.
use Rattle.ranges.specs.OpenLaws.{column-dg, column-cg, column-cn, column_is}
use Rattle.ranges.proofs.open.column_formed.Goals.{
  then-source-mark-lt2-via-then-source-mark-lt2,
  then-source-mark-lt2-via-else-source-mark-lt2+then-source-mark-ne1,
  then-source-mark-lt2-via-else-source-mark-lt2+else-source-mark-ne1+then-source-mark-ne0,
}
use Rattle.ranges.proofs.open.column_formed.Goals as goal

pub returns-then-source-mark-lt2 : goal.returns-then-source-mark-lt2
returns-then-source-mark-lt2 c = elim c.then-source-mark-lt2.branch [
  | then-source-mark-lt2-via-then-source-mark-lt2 w ↦ column-dg _ _ _ w.if-source-mark-lt2.true
  | then-source-mark-lt2-via-else-source-mark-lt2+then-source-mark-ne1 w ↦ column-cg _ _ _ w.if-source-mark-lt2.false w.if-source-mark-ne1.true
  | then-source-mark-lt2-via-else-source-mark-lt2+else-source-mark-ne1+then-source-mark-ne0 w ↦
      column-cn _ _ _ w.if-source-mark-lt2.false w.if-source-mark-ne1.false w.if-source-mark-ne0.true
]

pub returns : goal.returns
returns c = column_is _ _ _ c.if-source-mark-lt2.false c.if-source-mark-ne1.false c.if-source-mark-ne0.false c.is_formed.ensures
