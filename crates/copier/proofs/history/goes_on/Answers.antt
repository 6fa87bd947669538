-- Each way through the checks is a way through the definition.
use mathlib.Core.Path.{sym, ◌∙◌}
use native.Mathlib.Omega.{arith}
use Rattle.fields.specs.AnswerLaws.{passed_on}
use Rattle.blocks.specs.AnswerLaws.{so_fine, so_refused}
use Rattle.copier.specs.HistoryLaws.{ends-none, ends_met, ends-other, goes_refused, goes_unlinked, goes_on_lem}
use Rattle.copier.specs.BeginLaws.{so_copied}
use Rattle.copier.proofs.history.goes_on.Goals as goal

pub returns-then-a-eq0 : goal.returns-then-a-eq0
returns-then-a-eq0 c = ends-none _ _ _ c.if-a-eq0.true

pub is_met-requires : goal.is_met-requires
is_met-requires c = c.requires

pub returns-then-is_met : goal.returns-then-is_met
returns-then-is_met c = ends_met _ _ _ c.if-a-eq0.false (sym c.is_met.ensures ∙ c.if-is_met.true)

pub returns-in_err-whole_at : goal.returns-in_err-whole_at
returns-in_err-whole_at c =
    rw (passed_on _ _ c.from_residual.ensures) (goes_refused _ _ _ c.if-a-eq0.false (sym c.is_met.ensures ∙ c.if-is_met.false) (so_refused c.whole_at.ensures c.in_err-whole_at.was))

pub returns-then-not-is_copied : goal.returns-then-not-is_copied
returns-then-not-is_copied c =
    ends-other _ _ _ c.if-a-eq0.false (sym c.is_met.ensures ∙ c.if-is_met.false) (so_fine c.whole_at.ensures c.in_ok-whole_at.was)
    (so_copied c.args.image.now c.args.a c.kind_at.ensures c.is_copied.ensures c.if-not-is_copied.true)

pub returns-then-links_at-eq0 : goal.returns-then-links_at-eq0
returns-then-links_at-eq0 c =
    goes_unlinked _ _ _ c.if-a-eq0.false (sym c.is_met.ensures ∙ c.if-is_met.false) (so_fine c.whole_at.ensures c.in_ok-whole_at.was)
    (so_copied c.args.image.now c.args.a c.kind_at.ensures c.is_copied.ensures c.if-not-is_copied.false) (omega arith)

pub returns : goal.returns
returns c =
    goes_on_lem _ _ _ c.if-a-eq0.false (sym c.is_met.ensures ∙ c.if-is_met.false) (so_fine c.whole_at.ensures c.in_ok-whole_at.was)
    (so_copied c.args.image.now c.args.a c.kind_at.ensures c.is_copied.ensures c.if-not-is_copied.false) (omega arith)
