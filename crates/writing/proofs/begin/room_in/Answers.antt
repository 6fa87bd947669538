-- 20, 21, or room for both.
use Rattle.std.proofs.Common.{refl, rules}
use Rattle.base.specs.ChoiceLaws.{lt_yes, lt_no}
use Rattle.writing.proofs.begin.room_in.Goals as goal

pub returns-then-out-bytes : goal.returns-then-out-bytes
returns-then-out-bytes c = lt_yes _ _ _ _ c.if-out-bytes.true refl

pub returns-then-list-words : goal.returns-then-list-words
returns-then-list-words c = lt_no _ _ _ _ c.if-out-bytes.false (lt_yes _ _ _ _ c.if-list-words.true refl)

pub returns : goal.returns
returns c = lt_no _ _ _ _ c.if-out-bytes.false (lt_no _ _ _ _ c.if-list-words.false refl)
