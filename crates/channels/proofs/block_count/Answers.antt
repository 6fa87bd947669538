-- Rounding n up to whole blocks gives one block more than n - 1 records fill.
use native.Mathlib.Omega.{arith}
use Prim.Native.Nat.{◌-◌}
use native.Mathlib.Nat.{div-le_self}
use Rattle.channels.specs.GeometryLaws.{per_pos, count_no_width, count_no_records, count_some}
use Rattle.channels.proofs.block_count.Goals as goal
use Rattle.channels.proofs.block_count.Goals.{then-w-eq0-via-then-w-eq0, then-w-eq0-via-else-w-eq0+then-n-eq0}

pub nonzero_div-result : goal.nonzero_div-result
nonzero_div-result c = omega (arith, per_pos c.args.size c.args.w)

pub returns-then-w-eq0 : goal.returns-then-w-eq0
returns-then-w-eq0 c =
    elim c.then-w-eq0.branch [
      | then-w-eq0-via-then-w-eq0 w ↦ count_no_width _ _ _ w.if-w-eq0.true
      | then-w-eq0-via-else-w-eq0+then-n-eq0 w ↦ count_no_records _ _ _ w.if-n-eq0.true
    ]

pub overflow_add-result : goal.overflow_add-result
overflow_add-result c = omega (arith, div-le_self (c.args.n - 1) c.per_block.result)

pub returns : goal.returns
returns c = count_some _ _ _ c.per_block.ensures (omega arith) (omega arith)
