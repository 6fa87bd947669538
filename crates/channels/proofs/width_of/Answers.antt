-- The kept invalidation bit adds a byte.
use native.Mathlib.Omega.{arith}
use Rattle.channels.specs.ChannelLaws.{width-kept, width-bare}
use Rattle.channels.proofs.width_of.Goals as goal

pub returns-then-keeps_inval : goal.returns-then-keeps_inval
returns-then-keeps_inval c = record {
  is = width-kept _ _ _ c.channel_bytes-n.ensures.is c.keeps_inval.ensures c.if-keeps_inval.true;
  small = omega arith;
}

pub returns-else-keeps_inval : goal.returns-else-keeps_inval
returns-else-keeps_inval c = record {
  is = width-bare _ _ _ c.channel_bytes-n.ensures.is c.keeps_inval.ensures c.if-keeps_inval.false;
  small = omega arith;
}
