-- Number, blank, kind, blank.
use Rattle.sheets.specs.LineLaws.{front_put}
use Rattle.sheets.proofs.line.put_front.Goals as goal

pub returns : goal.returns
returns c = front_put _ _ _
    c.kind_of-kind.ensures
    c.put_right.ensures
    c.put_u8.ensures
    c.put_u8-2.ensures c.put_u8-3.ensures
