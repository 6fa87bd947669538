-- By the type.
use Rattle.taking.specs.SoundLaws.{place_one, place_other}
use Rattle.taking.proofs.sound.signal_place.Goals as goal

pub returns-then-channel_type-eq1 : goal.returns-then-channel_type-eq1
returns-then-channel_type-eq1 c = place_one _ _ c.channel_type.ensures.is c.if-channel_type-eq1.true c.link_at.ensures

pub returns-else-channel_type-eq1 : goal.returns-else-channel_type-eq1
returns-else-channel_type-eq1 c = place_other _ _ c.channel_type.ensures.is c.if-channel_type-eq1.false
