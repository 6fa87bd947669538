-- Each part after the one before.
use Rattle.writing.specs.FileLaws.{few-attachments, front_is, front-room, front_done, history_done, new_asks, new_done, columns_done, structure_asks, structure_done, long_fragments_lem, kept-long, data_asks, data_done, attached_done, file-same, file_done}
use Rattle.std.proofs.Common.{rules}
use Rattle.writing.proofs.file.write_file.Goals as goal

pub write_front-a-requires : goal.write_front-a-requires
write_front-a-requires c = front-room
    c.requires.0
    c.args.out.now
    c.requires.1

pub write_history-c-requires : goal.write_history-c-requires
write_history-c-requires c =
    let s = c.requires.0
    in
    let b1 = front_done s
    c.requires.1
    (front_is s
    c.first_column-column.ensures
    c.first_history-history.ensures
    c.next_place-attachment.ensures
    c.comment_of-comment.ensures)
    c.write_front-a.ensures.wrote in
    let b2 = history_done s _ b1 c.write_copies-b.ensures in
    new_asks s _ b2

pub write_structure-e-requires : goal.write_structure-e-requires
write_structure-e-requires c =
    let s = c.requires.0
    in
    let b1 = front_done s
    c.requires.1
    (front_is s
    c.first_column-column.ensures
    c.first_history-history.ensures
    c.next_place-attachment.ensures
    c.comment_of-comment.ensures)
    c.write_front-a.ensures.wrote
    in
    let b2 = history_done s _ b1
    c.write_copies-b.ensures in
    let b3 = new_done s _ b2 c.write_history-c.ensures in
    let b4 = columns_done s _ b3 c.write_copies-d.ensures in
    (structure_asks s _ b4, (few-attachments s).0)

pub first_fragments-kept-requires : goal.first_fragments-kept-requires
first_fragments-kept-requires c = long_fragments_lem c.requires.0

pub slice_bounds-recording-end : goal.slice_bounds-recording-end
slice_bounds-recording-end c = kept-long c.requires.0 c.first_fragments-kept.ensures

pub write_data-f-requires : goal.write_data-f-requires
write_data-f-requires c =
    let s = c.requires.0
    in
    let b1 = front_done s
    c.requires.1
    (front_is s
    c.first_column-column.ensures
    c.first_history-history.ensures
    c.next_place-attachment.ensures
    c.comment_of-comment.ensures)
    c.write_front-a.ensures.wrote
    in
    let b2 = history_done s _ b1
    c.write_copies-b.ensures
    in
    let b3 = new_done s _ b2
    c.write_history-c.ensures in
    let b4 = columns_done s _ b3 c.write_copies-d.ensures in
    let b5 = structure_done s _ b4 c.write_structure-e.ensures in
    data_asks s _ c.first_fragments-kept.ensures b5

pub shape_of-out : goal.shape_of-out
shape_of-out c =
    let s = c.requires.0
    in
    let b1 = front_done s
    c.requires.1
    (front_is s
    c.first_column-column.ensures
    c.first_history-history.ensures
    c.next_place-attachment.ensures
    c.comment_of-comment.ensures)
    c.write_front-a.ensures.wrote
    in
    let b2 = history_done s _ b1
    c.write_copies-b.ensures
    in
    let b3 = new_done s _ b2
    c.write_history-c.ensures
    in
    let b4 = columns_done s _ b3
    c.write_copies-d.ensures
    in
    let b5 = structure_done s _ b4
    c.write_structure-e.ensures
    in
    let b6 = data_done s _ c.first_fragments-kept.ensures b5
    c.write_data-f.ensures in
    let b7 = attached_done s b6 c.write_attachments-g.ensures in
    file-same s _ b7 c.gap.ensures

pub returns : goal.returns
returns c =
    let s = c.requires.0
    in
    let b1 = front_done s
    c.requires.1
    (front_is s
    c.first_column-column.ensures
    c.first_history-history.ensures
    c.next_place-attachment.ensures
    c.comment_of-comment.ensures)
    c.write_front-a.ensures.wrote
    in
    let b2 = history_done s _ b1
    c.write_copies-b.ensures
    in
    let b3 = new_done s _ b2
    c.write_history-c.ensures
    in
    let b4 = columns_done s _ b3
    c.write_copies-d.ensures
    in
    let b5 = structure_done s _ b4
    c.write_structure-e.ensures
    in
    let b6 = data_done s _ c.first_fragments-kept.ensures b5
    c.write_data-f.ensures in
    let b7 = attached_done s b6 c.write_attachments-g.ensures in
    file_done s b7 c.gap.ensures
