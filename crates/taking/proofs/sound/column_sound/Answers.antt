-- The refusal of the signal data is passed on; then the master.
use Rattle.fields.specs.AnswerLaws.{passed_on}
use Rattle.taking.specs.SoundLaws.{column_refused, column_master}
use Rattle.taking.proofs.sound.column_sound.Goals as goal

pub returns-in_err-signal_sound : goal.returns-in_err-signal_sound
returns-in_err-signal_sound c = rw (passed_on _ _ c.from_residual.ensures) (column_refused _ _ _ _ c.channel.ensures c.signal_sound.ensures c.in_err-signal_sound.was)

pub returns : goal.returns
returns c = column_master _ _ _ _ c.channel.ensures c.signal_sound.ensures c.in_ok-signal_sound.was c.group.ensures c.master_sound.ensures
