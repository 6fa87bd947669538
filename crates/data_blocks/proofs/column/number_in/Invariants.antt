-- Each turn passes a group at another address.
use Rattle.data_blocks.specs.NumberLaws.{Numbering}
use Rattle.data_blocks.proofs.column.number_in.Given as goal

abbrev pub invariant-loop-i : goal.invariant-loop-i
invariant-loop-i l = Numbering l.groups l.g l.i
