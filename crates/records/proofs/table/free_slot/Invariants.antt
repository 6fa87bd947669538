-- A slot of the table.
use Prim.Native.Nat.{◌<◌}
use Rattle.records.proofs.table.free_slot.Given as goal

abbrev pub invariant-loop : goal.invariant-loop
invariant-loop l = l.h < 1024
