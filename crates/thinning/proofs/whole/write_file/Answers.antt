-- Each part after the one before.
use Rattle.thinning.specs.WholeLaws.{words_long, front_asks, structure_asks, data_asks, file_done}
use borrow.Author.Rules.{rules}
use Rattle.thinning.proofs.whole.write_file.Goals as goal

pub first_column-column-requires : goal.first_column-column-requires
first_column-column-requires c = words_long c.requires.stands

pub first_history-history-requires : goal.first_history-history-requires
first_history-history-requires c = words_long c.requires.stands

pub write_front-a-requires : goal.write_front-a-requires
write_front-a-requires c = front_asks c.requires.stands

pub write_structure-c-requires : goal.write_structure-c-requires
write_structure-c-requires c = structure_asks
    c.requires.stands
    c.first_column-column.ensures
    c.first_history-history.ensures
    c.next_place-attachment.ensures
    c.comment_of-comment.ensures
    c.write_front-a.ensures c.write_copies-b.ensures

pub write_data-d-requires : goal.write_data-d-requires
write_data-d-requires c = data_asks
    c.requires.stands
    c.first_column-column.ensures
    c.first_history-history.ensures
    c.next_place-attachment.ensures
    c.comment_of-comment.ensures
    c.write_front-a.ensures
    c.write_copies-b.ensures c.write_structure-c.ensures

pub returns : goal.returns
returns c = λ l st. file_done st
    c.first_column-column.ensures
    c.first_history-history.ensures
    c.next_place-attachment.ensures
    c.comment_of-comment.ensures
    c.write_front-a.ensures
    c.write_copies-b.ensures
    c.write_structure-c.ensures
    c.write_data-d.ensures
    c.write_attachments-e.ensures
    c.gap.ensures
