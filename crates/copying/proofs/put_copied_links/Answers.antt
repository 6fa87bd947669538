-- The first link by the history, the others one after the other.
use Rattle.copying.specs.CopyingLaws.{copied_none, copied_some}
use native.Mathlib.Omega.{arith}
use Rattle.copying.proofs.put_copied_links.Goals as goal

pub returns-then-n-eq0 : goal.returns-then-n-eq0
returns-then-n-eq0 c = λ t x. copied_none _ _ _ _ _ _ _ (omega arith)

pub returns : goal.returns
returns c = λ t x. copied_some _ _ _ _ _ _ _ (omega arith)
    (c.first_link.ensures t x)
    c.put_u64.ensures (c.put_links.ensures t)
