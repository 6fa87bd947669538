-- Each turn writes a column's blocks and SD.
use Prim.Native.Nat.{◌-◌}
use native.Mathlib.Omega.{arith}
use Rattle.thinning.specs.DataLaws.{Writing, writing_begin, column-room, writing_on, writing_end}
use borrow.Author.Rules.{rules}
use Rattle.thinning.proofs.data.write_data.Goals as goal

pub loop-k-init : goal.loop-k-init
loop-k-init c = writing_begin _ c.requires

pub write_column-p-requires : goal.write_column-p-requires
write_column-p-requires c = column-room c.loop-k.invariant c.loop-k-test.true
    c.requires

pub loop-k-preserved : goal.loop-k-preserved
loop-k-preserved c = writing_on c.loop-k.invariant c.loop-k-test.true
    c.write_column-p.ensures

pub returns : goal.returns
returns c = writing_end c.loop-k.invariant (omega arith)
