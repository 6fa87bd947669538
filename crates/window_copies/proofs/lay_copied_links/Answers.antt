-- No links, or the first and the others.
use Rattle.window_copies.specs.LaidLaws.{copied_none, copied_some}
use native.Mathlib.Omega.{arith}
use Rattle.window_copies.proofs.lay_copied_links.Goals as goal

pub returns-then-n-eq0 : goal.returns-then-n-eq0
returns-then-n-eq0 c = λ t x. copied_none _ _ _ _ _ _ _ _ _ (omega arith)

pub returns : goal.returns
returns c = λ t x. copied_some _ _ _ _ _ _ _ _ (omega arith) (c.first_link.ensures t x) c.lay_u64.ensures (c.lay_links.ensures t)
