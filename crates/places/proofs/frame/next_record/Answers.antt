-- The same records are ahead of the place as of the first.
use Rattle.places.specs.FacingLaws.{ahead_move, found_end, found_broken, found_far, found_record}
use mathlib.Core.List.{[]}
use native.Mathlib.Omega.{arith}
use Rattle.places.proofs.frame.next_record.Goals as goal

pub returns-then-words-spot : goal.returns-then-words-spot
returns-then-words-spot c = found_end _ _ _ _ _ _ _ c.fragments.invariant c.inside.ensures c.fragments-test.true (omega arith)

pub returns-then-words-spot-lt3 : goal.returns-then-words-spot-lt3
returns-then-words-spot-lt3 c = found_end _ _ _ _ _ _ _ c.fragments.invariant c.inside.ensures c.fragments-test.true (omega arith)

pub fragments-preserved : goal.fragments-preserved
fragments-preserved c =
    ahead_move _ _ _ _ [] [] _ c.fragments.invariant c.inside.ensures c.fragments-test.true (omega arith) c.word_at.ensures
    c.word_at-in-fragments.ensures

pub returns-in_err-record : goal.returns-in_err-record
returns-in_err-record c =
    rw c.from_residual.ensures
    (found_broken _ _ _ _ _ _ _ c.fragments.invariant c.inside.ensures c.fragments-test.false _ c.step_by.ensures c.in_err-record.was)

pub returns-in_err-place : goal.returns-in_err-place
returns-in_err-place c =
    let h = c.in_err-place.ensures in
    rw c.from_residual-in_err-place.ensures
    (found_far _ _ _ _ _ _ _ c.fragments.invariant c.inside.ensures c.fragments-test.false _ c.step_by.ensures c.in_ok-record.was (omega arith))

pub returns-in_err-offset : goal.returns-in_err-offset
returns-in_err-offset c =
    let h = c.in_err-offset.ensures in
    let e = c.in_ok-place.ensures.1 in
    rw c.from_residual-in_err-offset.ensures
    (found_far _ _ _ _ _ _ _ c.fragments.invariant c.inside.ensures c.fragments-test.false _ c.step_by.ensures c.in_ok-record.was (omega arith))

pub returns : goal.returns
returns c =
    found_record _ _ _ _ _ _ _ c.fragments.invariant c.inside.ensures c.fragments-test.false _ c.step_by.ensures c.in_ok-record.was
    (omega (arith, c.if-n-eq0.false)) c.in_ok-place.ensures.1 c.in_ok-offset.ensures.1 (omega arith)
