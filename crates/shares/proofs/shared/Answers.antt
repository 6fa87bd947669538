use Rattle.std.proofs.Common.{arith}
use Rattle.shares.specs.EightsLaws.{quotient, share_none, share_over, share_nothing, share_uncapped, share_within, share_fine}
use Rattle.shares.proofs.shared.Goals as goal
use Rattle.shares.proofs.shared.Goals.{then-jobs-eq0-via-then-jobs-eq0, then-jobs-eq0-via-else-jobs-eq0+then-jobs-gt8, then-u-eq0-via-then-u-eq0, then-u-eq0-via-else-u-eq0+then-not-is_capped}

pub returns-then-jobs-eq0 : goal.returns-then-jobs-eq0
returns-then-jobs-eq0 c =
    elim c.then-jobs-eq0.branch [
      | then-jobs-eq0-via-then-jobs-eq0 w ↦ share_none _ _ _ _ w.if-jobs-eq0.true
      | then-jobs-eq0-via-else-jobs-eq0+then-jobs-gt8 w ↦ share_over _ _ _ _ w.if-jobs-gt8.true
    ]

pub returns-then-u-eq0 : goal.returns-then-u-eq0
returns-then-u-eq0 c =
    elim c.then-u-eq0.branch [
      | then-u-eq0-via-then-u-eq0 w ↦ share_nothing _ _ _ _ (omega arith) (omega arith) c.if-jobs-eq0.false (omega arith) w.if-u-eq0.true
      | then-u-eq0-via-else-u-eq0+then-not-is_capped w ↦
          share_uncapped _ _ _ _ (omega arith) (omega arith) c.if-jobs-eq0.false (omega arith) w.if-u-eq0.false _ w.is_capped.ensures w.if-not-is_capped.true
    ]

pub left_over-over-requires-clause-enough : goal.left_over-over-requires-clause-enough
left_over-over-requires-clause-enough c =
    share_within _ _ _ _ (omega arith) (omega arith) c.if-jobs-eq0.false (omega arith) _ _ c.count.ensures (quotient _ _ _ _ c.checked_div.ensures c.unwrap_or-q.ensures)

pub returns : goal.returns
returns c =
    share_fine _ _ _ _ (omega arith) (omega arith) c.if-jobs-eq0.false (omega arith) _ _ _ _ _ c.if-u-eq0.false c.is_capped.ensures c.if-not-is_capped.false c.count.ensures (quotient _ _ _ _ c.checked_div.ensures c.unwrap_or-q.ensures) c.left_over-over.ensures c.give.ensures
