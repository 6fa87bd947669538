-- 20, 21, or the plan's lines.
use Rattle.listing.specs.ListedLaws.{answer_output, answer-list, answer-plan}
use borrow.Author.Rules.{rules}
use Rattle.listing.proofs.recording.put_answer.Goals as goal

pub returns-then-out-bytes : goal.returns-then-out-bytes
returns-then-out-bytes c = answer_output _ _ _ _ _ _ _ _ _ c.if-out-bytes.true
    c.put_refusal.ensures

pub returns-then-list_words-words : goal.returns-then-list_words-words
returns-then-list_words-words c = answer-list _ _ _ _ _ _ _ _ _ c.if-out-bytes.false
    c.if-list_words-words.true c.put_refusal-then-list_words-words.ensures

pub returns : goal.returns
returns c = answer-plan _ _ _ _ _ _ _ _ _ c.if-out-bytes.false
    c.if-list_words-words.false c.put_plan_lines.ensures
