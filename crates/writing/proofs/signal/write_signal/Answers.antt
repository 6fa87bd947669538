-- The header, then the joined data.
use Rattle.writing.specs.SignalLaws.{signal_is}
use Rattle.std.proofs.Common.{refl, rules}
use Rattle.writing.proofs.signal.write_signal.Goals as goal

pub returns : goal.returns
returns c = signal_is _ _ _ _ _ _ _
    c.joined_size-size.ensures
    refl
    c.header.ensures c.copy_all.ensures
