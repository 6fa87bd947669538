-- Without a link there is no signal data; else the chain's answer is the decision.
use Rattle.fields.specs.AnswerLaws.{passed_on}
use Rattle.deciding.specs.DecideLaws.{left_unsigned, left-same, signal_stop, signal_done, chain-none, chain-led}
use Rattle.deciding.proofs.decide_chain.Goals as goal

pub returns-then-a-eq0 : goal.returns-then-a-eq0
returns-then-a-eq0 c = left_unsigned _ _ (chain-none _ _ _ c.if-a-eq0.true)

pub returns-in_err-count : goal.returns-in_err-count
returns-in_err-count c =
    rw (passed_on _ _ c.from_residual.ensures)
    (left-same _ _ (chain-led _ _ _ c.if-a-eq0.false) (signal_stop _ _ _ _ c.chain.ensures c.in_err-count.was))

pub returns : goal.returns
returns c = left-same _ _ (chain-led _ _ _ c.if-a-eq0.false) (signal_done _ _ _ _ c.chain.ensures c.in_ok-count.was)
