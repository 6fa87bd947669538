-- Each return is one case of the definition: the chain, then the kinds in order.
use Rattle.chains.specs.NodeLaws.{leaf_sd, leaf_no_sd, leaf_dt, leaf_dv, leaf_none}
use Rattle.chains.proofs.node.leaf_of.Goals as goal

pub returns-then-kind-eq-SD : goal.returns-then-kind-eq-SD
returns-then-kind-eq-SD c = leaf_sd c.if-signal.true c.if-kind-eq-SD.true

pub returns-then-signal : goal.returns-then-signal
returns-then-signal c = leaf_no_sd c.if-signal.true c.if-kind-eq-SD.false

pub returns-then-kind-eq-DT : goal.returns-then-kind-eq-DT
returns-then-kind-eq-DT c = leaf_dt c.if-signal.false c.if-kind-eq-DT.true

pub returns-then-kind-eq-DV : goal.returns-then-kind-eq-DV
returns-then-kind-eq-DV c = leaf_dv c.if-signal.false c.if-kind-eq-DT.false c.if-kind-eq-DV.true

pub returns : goal.returns
returns c = leaf_none c.if-signal.false c.if-kind-eq-DT.false c.if-kind-eq-DV.false
