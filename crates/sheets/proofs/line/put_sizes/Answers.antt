-- Data bytes, blank, records.
use Rattle.sheets.specs.LineLaws.{sizes_put}
use Rattle.sheets.proofs.line.put_sizes.Goals as goal

pub returns : goal.returns
returns c = sizes_put _ _
    c.samples_of-bytes.ensures.is
    c.cycles_of-records.ensures
    c.put_right.ensures
    c.put_u8.ensures c.put_right-2.ensures
