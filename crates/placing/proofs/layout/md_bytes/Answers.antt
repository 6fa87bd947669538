-- A zero byte and padding.
use Rattle.placing.specs.LayingLaws.{md_bytes_lem}
use native.Mathlib.Omega.{arith}
use Rattle.placing.proofs.layout.md_bytes.Goals as goal

pub returns : goal.returns
returns c = md_bytes_lem _ (c.aligned.ensures (omega arith))
