-- No blocks, no DL; else its length, at most wrapped.
use Rattle.std.proofs.Common.{refl, arith}
use Rattle.filling.specs.BlocksLaws.{dl-none, dl-some}
use Rattle.filling.proofs.dl_size.Goals as goal

pub returns-then-n-eq0 : goal.returns-then-n-eq0
returns-then-n-eq0 c = dl-none _ c.if-n-eq0.true

pub returns : goal.returns
returns c = dl-some _ (omega arith) refl refl
