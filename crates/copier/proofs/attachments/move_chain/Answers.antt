-- What is left of the chain gives what the whole gives.
use mathlib.Core.Path.{ap, ◌∙◌}
use Rattle.std.specs.Prelude.{Ok}
use native.Mathlib.Omega.{arith}
use borrow.Author.Rules.{rules}
use Rattle.fields.specs.AnswerLaws.{passed_on}
use Rattle.copier.specs.AttachingLaws.{goes_by, indexed_attached, chain_begin, chain-ends, chain_refused, chain_stopped, chain_next}
use Rattle.photos.specs.FollowedLaws.{goes_fits}
use Rattle.copier.specs.TurnLaws.{indexed_at, after-at}
use Rattle.copier.proofs.attachments.move_chain.Goals as goal

pub loop-links-init : goal.loop-links-init
loop-links-init c = (chain_begin _ _ _ _ _ c.requires.0 c.requires.1, c.requires.2)

pub returns-in_err-goes_on : goal.returns-in_err-goes_on
returns-in_err-goes_on c = rw (passed_on _ _ c.from_residual.ensures) (chain_refused c.loop-links.invariant.0 (goes_by _ _ _ c.is_attached-met.ensures c.goes_on.ensures c.in_err-goes_on.was))

pub returns-in_default : goal.returns-in_default
returns-in_default c = chain-ends c.loop-links.invariant.0 (goes_by _ _ _ c.is_attached-met.ensures c.goes_on.ensures (c.in_ok-goes_on.was ∙ ap Ok c.in_default.is))

pub overflow_sub-links : goal.overflow_sub-links
overflow_sub-links c = let f = goes_fits _ _ _ _ (goes_by _ _ _ c.is_attached-met.ensures c.goes_on.ensures (c.in_ok-goes_on.was ∙ ap Ok c.in-On.is)) in omega arith

pub overflow_add-at : goal.overflow_add-at
overflow_add-at c = let f = goes_fits _ _ _ _ (goes_by _ _ _ c.is_attached-met.ensures c.goes_on.ensures (c.in_ok-goes_on.was ∙ ap Ok c.in-On.is)) in omega arith

pub follow-requires : goal.follow-requires
follow-requires c = let f = goes_fits _ _ _ _ (goes_by _ _ _ c.is_attached-met.ensures c.goes_on.ensures (c.in_ok-goes_on.was ∙ ap Ok c.in-On.is)) in search rules

pub overflow_sub-t : goal.overflow_sub-t
overflow_sub-t c = let f = after-at c.follow.ensures.after c.in_ok-t.was in omega arith

pub attach-st-requires : goal.attach-st-requires
attach-st-requires c =
    let f = goes_fits _ _ _ _ (goes_by _ _ _ c.is_attached-met.ensures c.goes_on.ensures (c.in_ok-goes_on.was ∙ ap Ok c.in-On.is)) in (
      f.few,
      omega (arith, c.follow.auto.memo, c.loop-links.invariant.0.words),
      (after-at c.follow.ensures.after c.in_ok-t.was).room,
      omega (arith, c.size_at-size.ensures, f.range, c.loop-links.invariant.0.short),
    )

pub returns-in_err-t : goal.returns-in_err-t
returns-in_err-t c =
    rw (passed_on _ _ c.from_residual-in_err-t.ensures) (chain_stopped c.loop-links.invariant.0 (goes_by _ _ _ c.is_attached-met.ensures c.goes_on.ensures (c.in_ok-goes_on.was ∙ ap Ok c.in-On.is)) c.links_at-links.ensures c.follow.ensures.copied c.in_err-t.was)

pub overflow_add-count : goal.overflow_add-count
overflow_add-count c = let m = c.loop-links.invariant.0.moving.few in search rules

pub loop-links-smaller : goal.loop-links-smaller
loop-links-smaller c = let m = c.loop-links.invariant.0.moving.few in omega arith

pub loop-links-preserved : goal.loop-links-preserved
loop-links-preserved c = (
  chain_next c.loop-links.invariant.0 (goes_by _ _ _ c.is_attached-met.ensures c.goes_on.ensures (c.in_ok-goes_on.was ∙ ap Ok c.in-On.is)) c.links_at-links.ensures c.follow.ensures.copied c.follow.ensures.after c.in_ok-t.was c.follow.auto.memo
      c.size_at-size.ensures c.attach-st.ensures.words c.attach-st.ensures.state c.first_link-at.ensures,
  indexed_attached _ _ _ c.in_ok-t.t c.attach-st.ensures.words c.attach-st.ensures.state
      (let k = after-at c.follow.ensures.after c.in_ok-t.was in omega arith) (indexed_at c.follow.ensures.indexed c.in_ok-t.was),
)
