-- What is left of the chain gives what the whole chain gives.
use Rattle.std.proofs.Common.{arith, refl, ap, Ok, ◌∙◌, ◌≡◌, ◌-◌, ◌+◌}
use Rattle.fields.specs.AnswerLaws.{passed_on}
use Rattle.ranges.specs.RangedLaws.{chain-out, chain_end, chain-over, chain_refused, chain-on}
use Rattle.ranges.proofs.range.chain_ranges.Goals as goal

pub turns-init : goal.turns-init
turns-init c = refl

pub returns-then-at-eq0 : goal.returns-then-at-eq0
returns-then-at-eq0 c = chain_end _ _ _ c.turns.invariant (omega arith) c.if-at-eq0.true

pub returns-in_err-pass_at : goal.returns-in_err-pass_at
returns-in_err-pass_at c =
    rw (passed_on _ _ c.from_residual.ensures) (chain_refused _ _ _ c.turns.invariant (omega arith) c.if-at-eq0.false c.pass_at.ensures c.in_err-pass_at.was)

pub returns-in-Over : goal.returns-in-Over
returns-in-Over c = chain-over _ _ _ c.turns.invariant (omega arith) c.if-at-eq0.false c.pass_at.ensures (c.in_ok-pass_at.was ∙ ap Ok c.in-Over.is)

pub turns-preserved : goal.turns-preserved
turns-preserved c =
    let k : 258 - (c.turns._turn + 1) ≡ 258 - c.turns._turn - 1 = omega arith in
    rw k (chain-on _ _ _ c.turns.invariant (omega arith) c.if-at-eq0.false c.pass_at.ensures (c.in_ok-pass_at.was ∙ ap Ok c.in-On.is) c.first_link-at.ensures)

pub returns : goal.returns
returns c = chain-out _ _ _ c.turns.invariant (omega arith)
