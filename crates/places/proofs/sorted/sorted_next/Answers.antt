-- The first run with bytes is found; its records are the next.
use Rattle.records.specs.Straddle.{kind_if}
use Rattle.places.specs.SortedLaws.{next-found}
use native.Mathlib.Omega.{arith}
use Rattle.places.proofs.sorted.sorted_next.Goals as goal

pub returns : goal.returns
returns c =
    next-found _ _ _ _ _ (kind_if c.kind_at-dv.result) _ _ c.some_from-at.ensures c.kind_at-dv.ensures c.pass-run.ensures
    c.record_size-stride.ensures.is c.quotient-count.ensures c.id_bytes.ensures (λ h. let e = c.saturating_add-first.ensures in omega arith)
    (λ h. let e = c.saturating_add-offset.ensures in omega arith) (λ h. let e = c.saturating_add-number.ensures in omega arith)
