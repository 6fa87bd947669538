-- None without blocks, or the bytes, cut.
use Rattle.arranging.specs.SizedLaws.{dl-none, dl-some}
use native.Mathlib.Omega.{arith}
use Rattle.arranging.proofs.sizes.dl_bytes.Goals as goal

pub returns-then-n-eq0 : goal.returns-then-n-eq0
returns-then-n-eq0 c = dl-none _ c.if-n-eq0.true

pub returns : goal.returns
returns c = dl-some _ c.if-n-eq0.false (omega arith)
