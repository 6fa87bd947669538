-- The attachments' refusal, that of the output's length, or the attachments.
use Rattle.fields.specs.AnswerLaws.{passed_on}
use Rattle.arranging.specs.LayingLaws.{attach_refused, attach-short, attach_done}
use Rattle.arranging.proofs.layout.attach_all.Goals as goal

pub returns-in_err-moved : goal.returns-in_err-moved
returns-in_err-moved c =
    rw (passed_on _ _ c.from_residual.ensures)
    (attach_refused _ _ _ _ 0 _ c.link_at.ensures _ (c.attachments.ensures c.requires.0 c.requires.1) c.in_err-moved.was)

pub returns-in_err-room_in : goal.returns-in_err-room_in
returns-in_err-room_in c =
    rw (passed_on _ _ c.from_residual-in_err-room_in.ensures)
    (attach-short _ _ _ _ 0 _ c.link_at.ensures _ (c.attachments.ensures c.requires.0 c.requires.1) c.in_ok-moved.was _ c.room_in.ensures c.in_err-room_in.was)

pub returns : goal.returns
returns c = attach_done _ _ _ _ _ _ c.link_at.ensures _ (c.attachments.ensures c.requires.0 c.requires.1) c.in_ok-moved.was _ c.room_in.ensures c.in_ok-room_in.was
