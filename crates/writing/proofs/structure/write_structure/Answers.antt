-- The columns that are left give what all give.
use Rattle.std.proofs.Common.{◌-◌, arith, rules}
use Rattle.window_copies.specs.Attachments.{attachments_in}
use Rattle.writing.specs.Structure.{on_table}
use Rattle.writing.specs.StructureLaws.{near_ready, Structures, structures_begin, structures_end_lem, structures_room, structures_turn}
use Rattle.writing.proofs.structure.write_structure.Goals as goal

pub loop-k-init : goal.loop-k-init
loop-k-init c = structures_begin c.requires.0

pub column_of-h-requires : goal.column_of-h-requires
column_of-h-requires c = (near_ready c.requires.0 (omega arith), (omega arith), c.requires.0.long)

pub next_place-next-requires : goal.next_place-next-requires
next_place-next-requires c = (near_ready c.requires.0 (omega arith), (omega arith))

pub write_column-to-requires : goal.write_column-to-requires
write_column-to-requires c = (rw c.column_of-h.ensures.0 (structures_room c.requires.0 c.loop-k.invariant (omega arith)), c.index_copies-index.ensures, c.column_of-h.ensures.1, c.requires.1, c.requires.0.placed)

pub loop-k-preserved : goal.loop-k-preserved
loop-k-preserved c = structures_turn c.loop-k.invariant (omega arith) c.column_of-h.ensures.0 c.next_place-next.ensures c.write_column-to.ensures (omega (arith, c.write_column-to.auto.out))

pub returns : goal.returns
returns c = structures_end_lem c.loop-k.invariant (omega arith)
