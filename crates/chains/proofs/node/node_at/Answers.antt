-- The refusal of the header is passed on; then the kind decides, a fragment before DL and HL.
use Rattle.chains.specs.NodeLaws.{node_refused, node_block, node_dl, node_hl, node_other}
use Rattle.fields.specs.AnswerLaws.{passed_on}
use Rattle.blocks.specs.AnswerLaws.{so_fine}
use Rattle.blocks.specs.BlockLaws.{header-fits}
use native.Mathlib.Omega.{arith}
use Rattle.chains.proofs.node.node_at.Goals as goal

pub returns-in_err-header_in : goal.returns-in_err-header_in
returns-in_err-header_in c = rw (passed_on _ _ c.from_residual.ensures) (node_refused _ _ _ c.header_in.ensures c.in_err-header_in.was)

pub fragment_of-requires : goal.fragment_of-requires
fragment_of-requires c = let h = header-fits _ _ (so_fine c.header_in.ensures c.in_ok-header_in.was) in omega arith

pub returns-in-Some : goal.returns-in-Some
returns-in-Some c =
    node_block _ _ _ c.header_in.ensures c.in_ok-header_in.was c.kind_at-kind.ensures c.leaf_of.ensures c.in-Some.is
    c.fragment_of.ensures

pub returns-then-kind-eq-DL : goal.returns-then-kind-eq-DL
returns-then-kind-eq-DL c =
    node_dl _ _ _ c.header_in.ensures c.in_ok-header_in.was c.kind_at-kind.ensures c.leaf_of.ensures c.in_default.is
    c.if-kind-eq-DL.true

pub returns-then-kind-eq-HL : goal.returns-then-kind-eq-HL
returns-then-kind-eq-HL c =
    node_hl _ _ _ c.header_in.ensures c.in_ok-header_in.was c.kind_at-kind.ensures c.leaf_of.ensures c.in_default.is
    c.if-kind-eq-DL.false c.if-kind-eq-HL.true

pub returns : goal.returns
returns c =
    node_other _ _ _ c.header_in.ensures c.in_ok-header_in.was c.kind_at-kind.ensures c.leaf_of.ensures c.in_default.is
    c.if-kind-eq-DL.false c.if-kind-eq-HL.false
