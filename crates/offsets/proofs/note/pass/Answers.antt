-- What was noted before each record are offsets, and how many records of each group lie before it is known.
use Rattle.offsets.specs.NotedLaws.{going_begin, going_record}
use Rattle.offsets.proofs.note.pass.Goals as goal

pub records-init : goal.records-init
records-init c = going_begin _ _ _ _ _ _ _ _ c.requires.ordered c.requires.zeros

pub records-preserved : goal.records-preserved
records-preserved c =
    going_record _ _ _ _ _ _ _ _ c.requires.ordered c.records.invariant c.next_record-next.ensures c.in-Some.is c.note.ensures
