-- Where there is signal data, its block is asked.
use Rattle.taking.specs.SoundLaws.{sound_none, sound-led}
use Rattle.taking.proofs.sound.signal_sound.Goals as goal

pub returns-then-a-eq0 : goal.returns-then-a-eq0
returns-then-a-eq0 c = sound_none _ _ c.signal_place-a.ensures c.if-a-eq0.true

pub returns : goal.returns
returns c = sound-led _ _ c.signal_place-a.ensures c.if-a-eq0.false c.is_signal.ensures
