-- What stands at the address decides.
use Rattle.fields.specs.AnswerLaws.{passed_on}
use Rattle.chains.specs.KeptLaws.{counted_by}
use Rattle.chains.specs.TurnLaws.{fragment_refused, fragment-found, fragment-list}
use Rattle.chains.proofs.chain.Walk.fragment_at.Goals as goal

pub returns-in_err-node : goal.returns-in_err-node
returns-in_err-node c =
    rw (passed_on _ _ c.from_residual.ensures)
    (fragment_refused _ _ _ _ _ _ c.node_at.ensures (counted_by _ c.node_at.result c.counted.ensures) c.in_err-node.was)

pub returns-in-Fragment : goal.returns-in-Fragment
returns-in-Fragment c =
    fragment-found _ _ _ _ _ _ c.node_at.ensures
    ((counted_by _ c.node_at.result c.counted.ensures).ok c.in_ok-node.was) c.in-Fragment.is c.add.ensures

pub returns-in_default : goal.returns-in_default
returns-in_default c =
    fragment-list _ _ _ _ _ _ c.node_at.ensures ((counted_by _ c.node_at.result c.counted.ensures).ok c.in_ok-node.was)
    c.in_default.not-Fragment
