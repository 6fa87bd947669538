use Rattle.std.specs.Prelude.{get_or}
use Rattle.std.proofs.Common.{ℕ, ap, ◌∙◌, arith}
use Rattle.base.specs.Checked.{ok}
use Rattle.positions.specs.Held.{state_of}
use Rattle.positions.specs.HeldLaws.{recall_late, recall_none, recall_fine}
use Rattle.positions.proofs.recall.Goals as goal

pub returns-then-steps-p : goal.returns-then-steps-p
returns-then-steps-p c = recall_late _ _ _ c.if-steps-p.true

pub returns-in_default : goal.returns-in_default
returns-in_default c = recall_none _ _ _ (omega arith) (omega arith) (omega arith) _ c.min-held.ensures _ c.index_of.ensures c.in_default.is

pub returns : goal.returns
returns c =
    let p = c.args.p in
    ap (λ (j : ℕ). ok (state_of (record { next = get_or p.places j 0; count = p.count; names = p.names; places = p.places }))) (omega arith)
    ∙ recall_fine _ _ _ (omega arith) (omega arith) (omega arith) _ c.min-held.ensures _ _ c.index_of.ensures c.in-Some.is
