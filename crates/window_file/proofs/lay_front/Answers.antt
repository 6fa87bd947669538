use Rattle.window_file.specs.WindowLaws.{front-passed, front-laid}
use Rattle.window_file.proofs.lay_front.Goals as goal

pub returns-then-a-ge168 : goal.returns-then-a-ge168
returns-then-a-ge168 c i = front-passed _ _ _ _ _ _ _ _ i c.if-a-ge168.true

pub returns : goal.returns
returns c i = front-laid _ _ _ _ c.lay.ensures c.lay_hd.ensures c.first_column-dg.ensures c.first_history-fh.ensures c.first_attachment-attachment.ensures c.comment_of-comment.ensures
