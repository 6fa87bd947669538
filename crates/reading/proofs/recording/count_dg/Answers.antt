-- The counts that were laid in the lent part are laid in the whole.
use Rattle.reading.specs.CountingLaws.{count_lent}
use Rattle.reading.proofs.recording.count_dg.Goals as goal

pub returns : goal.returns
returns c =
    count_lent _ _ _ _ _ _ _ _ _ c.count_groups.result c.count_groups.new.counts
    c.count_groups.ensures
