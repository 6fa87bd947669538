-- Each turn adds the bytes of a fragment.
use Rattle.std.proofs.Common.{◌≡◌, ℕ, ◌+◌, ◌-◌, ◌%◌, ◌^◌, ◌≤◌, length, refl, ap, zero-add, arith, rules}
use Rattle.work_words.specs.Words.{fragments_of}
use Rattle.mdf.specs.Records.{joined}
use Rattle.records.specs.Ahead.{fragments_from}
use Rattle.records.specs.FragmentLaws.{from_start}
use Rattle.writing.specs.SignalLaws.{sum_turn, sum_end}
use Rattle.writing.proofs.signal.joined_size.Goals as goal

pub loop-i-init : goal.loop-i-init
loop-i-init c = (
  rw (from_start c.args.fragments.now) (ap (λ (x : ℕ). x % 2 ^ 64) (zero-add _)),
  search rules,
  refl,
)

pub loop-i-preserved : goal.loop-i-preserved
loop-i-preserved c = (
  sum_turn _ _ _ _ _ c.loop-i.invariant.0 (omega arith) c.inside-here.ensures
      refl,
  omega arith,
  c.loop-i.invariant.2,
)

pub returns : goal.returns
returns c = sum_end _ _ _ _ _ c.loop-i.invariant.0 (omega arith)
