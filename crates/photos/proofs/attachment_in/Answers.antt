-- The tests follow the definition's, in a form that can't overflow.
use native.Mathlib.Omega.{arith}
use Rattle.photos.specs.FollowedLaws.{at-few, at-short, at_long, at-past, at-fine}
use Rattle.photos.proofs.attachment_in.Goals as goal

pub returns-then-links-lt4 : goal.returns-then-links-lt4
returns-then-links-lt4 c = at-few _ _ (omega arith)

pub returns-then-size-lt24 : goal.returns-then-size-lt24
returns-then-size-lt24 c = at-short _ _ (omega arith) (omega arith)

pub returns-then-size-links : goal.returns-then-size-links
returns-then-size-links c = at-short _ _ (omega arith) (omega arith)

pub returns-then-links-gt33554429 : goal.returns-then-links-gt33554429
returns-then-links-gt33554429 c = at_long _ _ (omega arith) (omega arith) (omega arith)

pub returns-then-n-a : goal.returns-then-n-a
returns-then-n-a c = at-past _ _ (omega arith) (omega arith) (omega arith) (omega arith)

pub returns-then-n-a-2 : goal.returns-then-n-a-2
returns-then-n-a-2 c = at-past _ _ (omega arith) (omega arith) (omega arith) (omega arith)

pub returns : goal.returns
returns c = at-fine _ _ (omega arith) (omega arith) (omega arith) (omega arith)
