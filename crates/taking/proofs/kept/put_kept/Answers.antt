-- What is left of the columns, put from here on, gives what all give.
use mathlib.Core.Path.{refl}
use native.Mathlib.Omega.{arith}
use Rattle.thin.specs.Kept.{kept_columns}
use Rattle.taking.specs.WordsLaws.{put_begin, put_out, put_next, put_end}
use Rattle.taking.proofs.kept.put_kept.Goals as goal

pub loop-k-init : goal.loop-k-init
loop-k-init c = (omega arith, omega arith, omega arith, refl, refl, λ ns r. put_begin _ _ _ _ _ _ _)

pub loop-k-preserved-then-marks-k : goal.loop-k-preserved-then-marks-k
loop-k-preserved-then-marks-k c =
    (omega arith, omega arith, omega arith, c.loop-k.invariant.3, c.loop-k.invariant.4, λ ns r. put_out (c.loop-k.invariant.5 ns r) c.loop-k-test.true (r.is _) c.if-marks-k.true)

pub put_column-pieces-requires : goal.put_column-pieces-requires
put_column-pieces-requires c = (omega arith, omega arith, omega arith, c.requires c.loop-k.k c.loop-k-test.true)

pub loop-k-preserved : goal.loop-k-preserved
loop-k-preserved c = (
  omega arith,
  omega arith,
  omega (arith, c.put_column-pieces.ensures.1),
  omega arith,
  omega arith,
  λ ns r. put_next (c.loop-k.invariant.5 ns r) c.loop-k-test.true (r.is _) c.if-marks-k.false (c.put_column-pieces.ensures.0 ns r),
)

pub returns : goal.returns
unfolding kept_columns
returns c = (omega arith, λ ns r. put_end (c.loop-k.invariant.5 ns r) c.loop-k-test.false)
