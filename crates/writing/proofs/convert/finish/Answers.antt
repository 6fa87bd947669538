-- 20, 21, or all.
use Rattle.std.proofs.Common.{◌∙◌, arith, rules}
use Rattle.fields.specs.AnswerLaws.{passed_on}
use Rattle.writing.specs.FinishLaws.{no_room, all_done, stands_omissions, stands_words, stands_long, stands_listed, stands_counts, stands_report}
use Rattle.writing.specs.RoomLaws.{room_of}
use Rattle.writing.proofs.convert.finish.Goals as goal

pub room_in-requires : goal.room_in-requires
room_in-requires c = stands_omissions c.requires.0

pub returns-in_err-room_in : goal.returns-in_err-room_in
returns-in_err-room_in c =
    let s = c.requires.0.by in
    rw (passed_on _ _ c.from_residual.ensures) (no_room _ s.told s.is _ _ s.numbered.file_size_lem (stands_words c.requires.0) c.room_in.ensures c.in_err-room_in.was)

pub write_file-requires : goal.write_file-requires
write_file-requires c = (c.requires.0, (room_of _ _ _ _ c.room_in.ensures c.in_ok-room_in.was).0)

pub write_list-requires : goal.write_list-requires
write_list-requires c = ((room_of _ _ _ _ c.room_in.ensures c.in_ok-room_in.was).1, omega (arith, stands_long c.requires.0, stands_omissions c.requires.0))

pub count_up-requires : goal.count_up-requires
count_up-requires c = stands_counts c.requires.0

pub returns : goal.returns
returns c =
    let s = c.requires.0 in
    let t = s.by in
    all_done _ t.told t.is _ _ t.numbered.file_size_lem (stands_words s) c.room_in.ensures c.in_ok-room_in.was
    (stands_report s c.count_up.ensures c.requires.1 t.numbered.metadata_end_lem t.numbered.file_size_lem)
    (c.write_file.ensures ∙ rw t.is)
    (c.write_list.ensures ∙ rw (stands_listed s))
