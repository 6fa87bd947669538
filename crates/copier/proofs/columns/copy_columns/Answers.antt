-- Where copying can begin, the index of what stands is made.
use native.Mathlib.Omega.{arith}
use Rattle.copier.proofs.columns.copy_columns.Goals as goal
use Rattle.copier.proofs.columns.copy_columns.Goals.{then-not-is_ready-via-then-not-is_ready, then-not-is_ready-via-else-not-is_ready+then-n-gt512}

pub copy_all-requires : goal.copy_all-requires
copy_all-requires c =
    let r = c.is_ready.ensures.yes c.if-not-is_ready.false in
    (r, omega arith, c.index_copies-index.ensures r.few (omega (arith, r.few, r.words)))

pub returns-then-not-is_ready : goal.returns-then-not-is_ready
returns-then-not-is_ready c =
    elim c.then-not-is_ready.branch [
      | then-not-is_ready-via-then-not-is_ready w ↦ record {
        copied = λ r h. absurd (c.is_ready.ensures.no w.if-not-is_ready.true r);
        after = λ r h. absurd (c.is_ready.ensures.no w.if-not-is_ready.true r);
      }
      | then-not-is_ready-via-else-not-is_ready+then-n-gt512 w ↦ record {
        copied = λ r h. absurd (omega (arith, w.if-n-gt512.true));
        after = λ r h. absurd (omega (arith, w.if-n-gt512.true));
      }
    ]

pub returns : goal.returns
returns c = record { copied = λ r h. c.copy_all.ensures.copied; after = λ r h. c.copy_all.ensures.after }
