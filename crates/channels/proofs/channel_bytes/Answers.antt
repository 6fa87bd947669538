-- The type decides, as in the definition; the sum fits, as the offset has one byte and the count four.
use native.Mathlib.Omega.{arith}
use mathlib.Core.Path.{refl}
use Rattle.plan.specs.Channel.{channel_bytes}
use Rattle.base.specs.ChoiceLaws.{eq_yes, eq_no}
use Rattle.channels.proofs.channel_bytes.Goals as goal

pub returns-in-3 : goal.returns-in-3
unfolding channel_bytes
returns-in-3 c = record { is = eq_yes _ _ _ _ (omega arith) refl; small = omega arith }

pub returns-in-6 : goal.returns-in-6
unfolding channel_bytes
returns-in-6 c = record { is = eq_no _ _ _ _ (omega arith) (eq_yes _ _ _ _ (omega arith) refl); small = omega arith }

pub returns-in_default : goal.returns-in_default
unfolding channel_bytes
returns-in_default c = record { is = eq_no _ _ _ _ (omega arith) (eq_no _ _ _ _ (omega arith) (omega arith)); small = omega arith }
