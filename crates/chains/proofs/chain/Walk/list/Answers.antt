-- The invariant: what is left of the links gives what the whole list gives.
use Rattle.chains.specs.TurnLaws.{list_begin, list_end, list_stop, list_on, link_is, entry_zero, entry-fragment}
use Rattle.fields.specs.AnswerLaws.{passed_on}
use Rattle.std.specs.Prelude.{Ok, refl}
use native.Mathlib.Omega.{arith}
use Rattle.chains.proofs.chain.Walk.list.Goals as goal

pub loop-i-init : goal.loop-i-init
loop-i-init c = list_begin

pub eight_at-link-requires : goal.eight_at-link-requires
eight_at-link-requires c = omega (arith, c.requires, c.links_at-links.ensures)

pub loop-i-preserved-then-link-eq0 : goal.loop-i-preserved-then-link-eq0
loop-i-preserved-then-link-eq0 c =
    list_on c.loop-i.invariant c.loop-i-test.true (link_is _ _ _ c.eight_at-link.ensures.is) (Ok c.loop-i.count)
    (entry_zero _ _ _ _ _ _ c.if-link-eq0.true) refl

pub returns-in_err-count : goal.returns-in_err-count
returns-in_err-count c =
    rw (passed_on _ _ c.from_residual.ensures)
    (list_stop c.loop-i.invariant c.loop-i-test.true (link_is _ _ _ c.eight_at-link.ensures.is) c.fragment_at.result
    (entry-fragment _ _ _ _ _ _ (λ z. omega arith) c.fragment_at.ensures) c.links_at-links.ensures c.in_err-count.was)

pub loop-i-preserved : goal.loop-i-preserved
loop-i-preserved c =
    list_on c.loop-i.invariant c.loop-i-test.true (link_is _ _ _ c.eight_at-link.ensures.is) c.fragment_at.result
    (entry-fragment _ _ _ _ _ _ (λ z. omega arith) c.fragment_at.ensures) c.in_ok-count.was

pub returns : goal.returns
returns c = list_end c.loop-i.invariant c.links_at-links.ensures (omega arith)
