-- Each turn copies a fragment; what has no room is lost, and so is all after it.
use Rattle.std.proofs.Common.{◌≡◌, ◌-◌, ◌≤◌, length, refl, arith, rules}
use Rattle.base.specs.Blit.{blit}
use Rattle.work_words.specs.Words.{fragments_of}
use Rattle.mdf.specs.Records.{joined}
use Rattle.records.specs.Ahead.{fragments_from}
use Rattle.records.specs.FragmentLaws.{from_start}
use Rattle.writing.specs.SignalLaws.{copy_lost, copy_turn, copy_full, copy_end}
use Rattle.writing.proofs.signal.copy_all.Goals as goal

pub loop-i-init : goal.loop-i-init
loop-i-init c = (rw (from_start c.args.fragments.now), search rules, refl, refl, refl)

pub returns-then-room-to : goal.returns-then-room-to
returns-then-room-to c = copy_lost _ _ _ _ _ _ c.loop-i.invariant.0 (omega arith)

pub returns-then-room-to-2 : goal.returns-then-room-to-2
returns-then-room-to-2 c = copy_full _ _ _ _ _ _
    c.loop-i.invariant.0
    (omega arith) c.inside-here.ensures c.copy.ensures (omega
    arith)

pub loop-i-preserved : goal.loop-i-preserved
loop-i-preserved c = (
  copy_turn _ _ _ _ _ _ c.loop-i.invariant.0 (omega
      arith)
      c.inside-here.ensures c.copy.ensures,
  omega arith,
  c.loop-i.invariant.2,
  omega arith,
  c.loop-i.invariant.4,
)

pub returns : goal.returns
returns c = copy_end _ _ _ _ _ _ c.loop-i.invariant.0 (omega arith)
