-- What is left of the columns, laid, gives what all give.
use Prim.Native.Nat.{◌-◌, ◌≤◌}
use mathlib.Core.Path.{◌≡◌, refl}
use native.Mathlib.Omega.{arith}
use lib.ListN.{length}
use Rattle.copier.specs.Standing.{copies_in}
use Rattle.window_copies.specs.Attachments.{attachments_in}
use Rattle.thinning.specs.Touching.{laid}
use Rattle.thinning.specs.Structure.{structure_from}
use Rattle.thinning.specs.StructureLaws.{structure_begin, structure_turn, structure_end_lem}
use mathlib.Core.Path.{◌≡◌}
use borrow.Author.Rules.{rules}
use Rattle.thinning.proofs.structure.put_structure.Goals as goal

pub loop-k-init : goal.loop-k-init
loop-k-init c = (omega arith, refl, structure_begin _ _ _ _ _ _ _)

pub loop-k-preserved : goal.loop-k-preserved
loop-k-preserved c = (
  omega arith,
  omega arith,
  structure_turn _ _ _ _ _ _ _ _ _ _ c.loop-k-test.true
      c.column_of-h.ensures.0 c.next_place-next.ensures
      c.loop-k.invariant.2 c.put_column.ensures,
)

pub returns : goal.returns
returns c = structure_end_lem _ _ _ _ _ _ _ _ _ c.loop-k-test.false c.loop-k.invariant.2
