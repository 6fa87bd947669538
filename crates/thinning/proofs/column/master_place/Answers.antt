-- None; a number past the columns; else the column's CG, which is near.
use native.Mathlib.Omega.{arith}
use Rattle.thinning.specs.ColumnLaws.{master_no, master_past, master_yes}
use borrow.Author.Rules.{rules}
use Rattle.thinning.proofs.column.master_place.Goals as goal

pub returns-then-word-eq0 : goal.returns-then-word-eq0
returns-then-word-eq0 c = master_no _ _ _ c.if-word-eq0.true

pub returns-then-n-m : goal.returns-then-n-m
returns-then-n-m c = master_past _ _ _ c.if-word-eq0.false c.if-n-m.true

pub overflow_add-result-2 : goal.overflow_add-result-2
overflow_add-result-2 c = let b = c.requires.below _ c.if-n-m.false in omega arith

pub returns : goal.returns
returns c = master_yes _ _ _ c.if-word-eq0.false c.if-n-m.false
