-- What is left of the columns, laid, gives what all give.
use Prim.Native.Nat.{◌-◌, ◌≤◌}
use mathlib.Core.Path.{◌≡◌, refl}
use native.Mathlib.Omega.{arith}
use lib.ListN.{length}
use Rattle.copier.specs.Standing.{copies_in}
use Rattle.window_copies.specs.Attachments.{attachments_in}
use Rattle.thinning.specs.Touching.{laid}
use Rattle.thinning.specs.Structure.{structure_from}
use Rattle.thinning.specs.StructureLaws.{structure_begin, structure_turn, structure_end_lem}
use mathlib.Core.Path.{◌≡◌}
use borrow.Author.Rules.{rules}
use Rattle.thinning.proofs.structure.put_structure.Given as goal

abbrev pub invariant-loop-k : goal.invariant-loop-k
invariant-loop-k l = (l.k ≤ l.file.numbers.columns) × (length l.out ≡ length l.initial.out) ×
    (laid (structure_from l.file.image.now (copies_in l.file.memo.now l.file.numbers.copies) (attachments_in l.file.memo.now l.file.numbers.metadata l.file.numbers.attachments) l.file.columns.now l.file.memo.now l.file.numbers.columns l.k (l.file.numbers.columns - l.k)) l.out ≡ laid
    (structure_from l.file.image.now (copies_in l.file.memo.now l.file.numbers.copies) (attachments_in l.file.memo.now l.file.numbers.metadata l.file.numbers.attachments) l.file.columns.now l.file.memo.now l.file.numbers.columns 0 l.file.numbers.columns) l.initial.out)
