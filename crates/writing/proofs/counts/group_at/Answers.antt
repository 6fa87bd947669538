-- Not a group, storage, or one that counts.
use Rattle.writing.specs.CountedLaws.{group_not, group_storage, group-counts}
use Rattle.writing.proofs.counts.group_at.Goals as goal
use Rattle.writing.proofs.counts.group_at.Goals.{else-word-eq1-via-then-word-eq1+else-not-is_storage, else-word-eq1-via-else-word-eq1}

pub returns-then-not-is_storage : goal.returns-then-not-is_storage
returns-then-not-is_storage c = group-counts _ _ _ c.word.ensures c.if-word-eq1.true
    c.word-then-word-eq1.ensures c.is_storage.ensures c.if-not-is_storage.true

pub returns : goal.returns
returns c = elim c.else-word-eq1.branch [
  | else-word-eq1-via-then-word-eq1+else-not-is_storage w ↦
      group_storage _ _ _ c.word.ensures w.if-word-eq1.true w.word-then-word-eq1.ensures w.is_storage.ensures w.if-not-is_storage.false
  | else-word-eq1-via-else-word-eq1 w ↦
      group_not _ _ _ c.word.ensures w.if-word-eq1.false
]
