-- What stands at the address decides.
use Rattle.fields.specs.AnswerLaws.{passed_on}
use Rattle.chains.specs.KeptLaws.{counted_by}
use Rattle.chains.specs.TurnLaws.{turn_refused, turn_full, turn_block, turn_dl, turn_hl}
use Rattle.chains.proofs.chain.Walk.node_step.Goals as goal

pub returns-in_err-node : goal.returns-in_err-node
returns-in_err-node c =
    rw (passed_on _ _ c.from_residual.ensures)
    (turn_refused _ _ _ _ _ _ _ c.node_at.ensures (counted_by _ c.node_at.result c.counted.ensures) c.in_err-node.was)

pub returns-in_err-count-in-Fragment : goal.returns-in_err-count-in-Fragment
returns-in_err-count-in-Fragment c =
    rw (passed_on _ _ c.from_residual-in_err-count-in-Fragment.ensures)
    (turn_full _ _ _ _ _ _ _ c.node_at.ensures
    ((counted_by _ c.node_at.result c.counted.ensures).ok c.in_ok-node.was) c.in-Fragment.is c.add.ensures
    c.in_err-count-in-Fragment.was)

pub returns-in_ok-count-in-Fragment : goal.returns-in_ok-count-in-Fragment
returns-in_ok-count-in-Fragment c =
    turn_block _ _ _ _ _ _ _ c.node_at.ensures
    ((counted_by _ c.node_at.result c.counted.ensures).ok c.in_ok-node.was) c.in-Fragment.is c.add.ensures
    c.in_ok-count-in-Fragment.was

pub returns-in-Dl : goal.returns-in-Dl
returns-in-Dl c =
    turn_dl _ _ _ _ _ _ _ c.node_at.ensures
    ((counted_by _ c.node_at.result c.counted.ensures).ok c.in_ok-node.was) c.in-Dl.is c.list_step.ensures

pub returns-in-Hl : goal.returns-in-Hl
returns-in-Hl c =
    turn_hl _ _ _ _ _ _ _ c.node_at.ensures
    ((counted_by _ c.node_at.result c.counted.ensures).ok c.in_ok-node.was) c.in-Hl.is c.header_step.ensures
