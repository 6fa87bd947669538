-- None without a link, else the column at the link.
use Rattle.std.proofs.Common.{arith}
use Rattle.sheets.specs.LineLaws.{master_none, master_sought}
use Rattle.sheets.proofs.line.master_of.Goals.{then-link-eq0-via-then-link-eq0, then-link-eq0-via-else-link-eq0+then-n-gt512}
use Rattle.sheets.proofs.line.master_of.Goals as goal

pub returns-then-link-eq0 : goal.returns-then-link-eq0
returns-then-link-eq0 c = λ h. elim c.then-link-eq0.branch [
  | then-link-eq0-via-then-link-eq0 w ↦ master_none _ _ _ c.remote_link-link.ensures w.if-link-eq0.true
  | then-link-eq0-via-else-link-eq0+then-n-gt512 w ↦ absurd (omega arith)
]

pub returns : goal.returns
returns c = λ h. master_sought _ _ _ c.remote_link-link.ensures c.if-link-eq0.false (c.number_at.ensures _)
