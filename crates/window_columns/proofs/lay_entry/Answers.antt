use Rattle.std.proofs.Common.{arith}
use Rattle.window_columns.specs.ColumnsLaws.{none-laid, run-size, run_room, apart_laid, before_laid, past-laid, inside_laid, size_there, size_known}
use Rattle.window_columns.proofs.lay_entry.Goals as goal

pub returns-then-count-eq0 : goal.returns-then-count-eq0
returns-then-count-eq0 c r o k = (k, none-laid _ r o c.width_of-x.ensures.is c.block_count-count.ensures c.if-count-eq0.true _ _)

pub returns-in_default : goal.returns-in_default
returns-in_default c r o k =
    let p = c.width_of-x.ensures.is in
    let q = c.block_count-count.ensures in
    let m = run_room _ r o p q c.if-count-eq0.false in
    let l = run-size _ r o p q c.if-count-eq0.false in
    absurd (size_there _ _ _ c.size_of.ensures c.in_default.is (omega (arith, m, l)))

pub returns-then-apart : goal.returns-then-apart
returns-then-apart c r o k =
    let p = c.width_of-x.ensures.is in
    let q = c.block_count-count.ensures in
    (k, apart_laid _ r o p q c.if-count-eq0.false _ _ _ (size_known _ _ _ c.size_of.ensures c.in-Some.is) (c.apart.ensures c.if-apart.true))

pub lay_own-requires : goal.lay_own-requires
lay_own-requires c = c.own_of-o.ensures

pub returns-then-e-a : goal.returns-then-e-a
returns-then-e-a c r o k =
    let p = c.width_of-x.ensures.is in
    let q = c.block_count-count.ensures in
    let y = c.lay_own.ensures r (omega (arith, run_room _ r o p q c.if-count-eq0.false)) k in
    (y.0, before_laid _ r o p q c.if-count-eq0.false _ _ c.if-e-a.true y.1)

pub returns-then-w-skip : goal.returns-then-w-skip
returns-then-w-skip c r o k =
    let p = c.width_of-x.ensures.is in
    let q = c.block_count-count.ensures in
    (k, past-laid _ r o p q c.if-count-eq0.false _ _ (omega (arith, c.if-e-a.false)) (omega (arith, c.if-w-skip.true)))

pub lay_own-requires-2 : goal.lay_own-requires-2
lay_own-requires-2 c = c.own_of-o.ensures

pub returns : goal.returns
returns c r o k =
    let p = c.width_of-x.ensures.is in
    let q = c.block_count-count.ensures in
    let y = c.lay_own-2.ensures r (omega (arith, run_room _ r o p q c.if-count-eq0.false)) k in
    (y.0, inside_laid _ r o p q c.if-count-eq0.false _ _ (omega (arith, c.if-e-a.false)) y.1)
