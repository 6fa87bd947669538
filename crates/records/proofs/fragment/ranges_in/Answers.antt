-- What is left of the check gives what the whole gives.
use Rattle.records.specs.FragmentLaws.{from_start, ranges_out, ranges_next, ranges_end}
use native.Mathlib.Omega.{arith}
use Rattle.records.proofs.fragment.ranges_in.Goals as goal

pub loop-i-init : goal.loop-i-init
loop-i-init c = (omega arith, rw (from_start c.args.fragments.now))

pub returns-then-end-offset : goal.returns-then-end-offset
returns-then-end-offset c =
    ranges_out _ _ _ c.loop-i.invariant.1 (omega arith) c.word_at-offset.ensures
    c.word_at-size.ensures (omega arith)

pub returns-then-end-offset-2 : goal.returns-then-end-offset-2
returns-then-end-offset-2 c =
    ranges_out _ _ _ c.loop-i.invariant.1 (omega arith)
    c.word_at-offset.ensures
    c.word_at-size.ensures (omega arith)

pub loop-i-preserved : goal.loop-i-preserved
loop-i-preserved c = (
  omega arith,
  ranges_next _ _ _ c.loop-i.invariant.1 (omega arith)
      c.word_at-offset.ensures c.word_at-size.ensures (omega arith),
)

pub returns : goal.returns
returns c = ranges_end _ _ _ c.loop-i.invariant.1 (omega arith)
