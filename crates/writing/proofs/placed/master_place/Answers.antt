-- The master's DG, 64 bytes before its CG.
use Rattle.writing.specs.ColumnLaws.{place_no, place_past, place_yes, not_far}
use Rattle.std.proofs.Common.{arith, rules}
use Rattle.writing.proofs.placed.master_place.Goals as goal

pub returns-then-word-eq0 : goal.returns-then-word-eq0
returns-then-word-eq0 c = λ q. place_no _ _ _ (omega arith)

pub returns-then-n-m : goal.returns-then-n-m
returns-then-n-m c = λ q. place_past _ _ _ (omega arith) (omega arith)

pub returns-then-dg-ge9223372036854775808 : goal.returns-then-dg-ge9223372036854775808
returns-then-dg-ge9223372036854775808 c = λ q. not_far q (omega arith) c.if-dg-ge9223372036854775808.true

pub returns : goal.returns
returns c = λ q. place_yes _ _ _ (omega arith) (omega arith)
