-- The columns that are left give what all give.
use Rattle.std.proofs.Common.{◌-◌, arith, rules}
use Rattle.window_copies.specs.Attachments.{attachments_in}
use Rattle.writing.specs.Structure.{on_table}
use Rattle.writing.specs.StructureLaws.{near_ready, Structures, structures_begin, structures_end_lem, structures_room, structures_turn}
use Rattle.writing.proofs.structure.write_structure.Given as goal

abbrev pub invariant-loop-k : goal.invariant-loop-k
invariant-loop-k l = Structures l.photos (on_table l.table) l.image l.size l.columns l.memo (attachments_in l.memo l.metadata l.attached) l.n l.used l.at l.initial.out l.k l.to l.out
