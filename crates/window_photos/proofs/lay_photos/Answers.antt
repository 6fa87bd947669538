use native.Mathlib.Omega.{arith}
use Rattle.window_photos.proofs.lay_photos.Goals as goal

pub returns-then-n-gt65535 : goal.returns-then-n-gt65535
returns-then-n-gt65535 c x y z = absurd (omega arith)
