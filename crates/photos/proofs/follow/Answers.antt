-- What is left of the chain gives what the whole gives.
use Prim.Native.Nat.{◌<◌}
use mathlib.Core.Path.{◌∙◌, ap}
use Rattle.std.specs.Prelude.{Ok}
use Rattle.fields.specs.AnswerLaws.{passed_on}
use Rattle.photos.specs.FollowedLaws.{is_in-any, goes_fits, follow_begin, follow_refused, follow_ends, follow_next, so_goes}
use native.Mathlib.Omega.{arith}
use Rattle.photos.proofs.follow.Goals as goal

pub loop-met-init : goal.loop-met-init
loop-met-init c = follow_begin _ c.args.met.now _ c.link_at-at.ensures (omega arith)

pub returns-in_err-goes_on : goal.returns-in_err-goes_on
returns-in_err-goes_on c = rw (passed_on _ _ c.from_residual.ensures) (follow_refused c.loop-met.invariant (so_goes _ _ _ _ (c.contains-seen.ensures.value ∙ is_in-any _ _) c.goes_on.ensures c.in_err-goes_on.was))

pub returns-in_default : goal.returns-in_default
returns-in_default c = follow_ends c.loop-met.invariant (so_goes _ _ _ _ (c.contains-seen.ensures.value ∙ is_in-any _ _) c.goes_on.ensures (c.in_ok-goes_on.was ∙ ap Ok c.in_default.is))

pub bounds-met-count : goal.bounds-met-count
bounds-met-count c =
    let f : c.loop-met.count < 64 = (goes_fits _ _ _ _ (so_goes _ _ _ _ (c.contains-seen.ensures.value ∙ is_in-any _ _) c.goes_on.ensures (c.in_ok-goes_on.was ∙ ap Ok c.in-On.is))).few in omega arith

pub loop-met-preserved : goal.loop-met-preserved
loop-met-preserved c = follow_next c.loop-met.invariant (so_goes _ _ _ _ (c.contains-seen.ensures.value ∙ is_in-any _ _) c.goes_on.ensures (c.in_ok-goes_on.was ∙ ap Ok c.in-On.is)) _ c.first_link-at.ensures
