-- None, or the sizes of its fragments.
use Rattle.planning.specs.SizesLaws.{signal_none, signal_some}
use native.Mathlib.Omega.{arith}
use Rattle.planning.proofs.sizes.signal_size.Goals as goal

pub returns-then-first-eq0 : goal.returns-then-first-eq0
returns-then-first-eq0 c = signal_none _ _ _ (omega arith)

pub returns : goal.returns
returns c = signal_some _ _ _ (λ e. omega arith) c.sizes_from.ensures
