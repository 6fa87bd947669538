-- What is left of the records, after those counted, gives what the whole gives; the tables are those of the groups.
use Rattle.records.specs.ReadingLaws.{read_begin, read_move, move_less, read_end, read_broken, record_low, record_less, read_record}
use Rattle.records.specs.AnswerLaws.{so_broken, so_record}
use Rattle.records.specs.TableLaws.{tabled}
use mathlib.Core.Path.{refl}
use native.Mathlib.Omega.{arith}
use Rattle.records.proofs.several.count_frames.Goals as goal

pub records-init : goal.records-init
records-init c = (read_begin _ _ _ _ _ c.requires.1 c.requires.2 c.clear.ensures, tabled _ _ _ _ c.requires.3 c.make_tables.ensures.0 refl c.make_tables.ensures.1 refl)

pub returns-then-words-spot : goal.returns-then-words-spot
returns-then-words-spot c =
    read_end _ _ _ _ _ _ _ _ _ c.records.invariant.0 _ c.clear.ensures c.inside.ensures c.if-inside-eq0.true (omega arith)

pub returns-then-words-spot-lt3 : goal.returns-then-words-spot-lt3
returns-then-words-spot-lt3 c =
    read_end _ _ _ _ _ _ _ _ _ c.records.invariant.0 _ c.clear.ensures c.inside.ensures c.if-inside-eq0.true (omega arith)

pub records-smaller-then-inside-eq0 : goal.records-smaller-then-inside-eq0
records-smaller-then-inside-eq0 c =
    move_less _ _ _ _ _ _ _ _ _ c.records.invariant.0 c.inside.ensures c.if-inside-eq0.true (omega arith) c.word_at.ensures
    c.word_at-then-inside-eq0.ensures

pub records-preserved-then-inside-eq0 : goal.records-preserved-then-inside-eq0
records-preserved-then-inside-eq0 c = (
  read_move _ _ _ _ _ _ _ _ _ c.records.invariant.0 c.inside.ensures c.if-inside-eq0.true (omega arith) c.word_at.ensures
      c.word_at-then-inside-eq0.ensures,
  c.records.invariant.1,
)

pub returns-in_default : goal.returns-in_default
returns-in_default c =
    read_broken _ _ _ _ _ _ _ _ _ c.records.invariant.0 _ c.clear.ensures c.inside.ensures c.if-inside-eq0.false
    (so_broken _ _ _ _ _ (c.step_by-step.ensures c.records.invariant.1) c.in_default.is) c.clear-in_default.ensures

pub count_up-requires : goal.count_up-requires
count_up-requires c =
    record_low _ _ _ _ _ _ _ _ _ c.records.invariant.0 _ _ _ c.requires.0
    (so_record _ _ _ _ _ (c.step_by-step.ensures c.records.invariant.1) c.in-Some.is)

pub records-smaller : goal.records-smaller
records-smaller c =
    record_less _ _ _ _ _ _ _ _ _ c.records.invariant.0 _ _ _ c.requires.0
    (so_record _ _ _ _ _ (c.step_by-step.ensures c.records.invariant.1) c.in-Some.is)

pub records-preserved : goal.records-preserved
records-preserved c = (
  read_record _ _ _ _ _ _ _ _ _ c.records.invariant.0 _ _ _ c.requires.0
      (so_record _ _ _ _ _ (c.step_by-step.ensures c.records.invariant.1) c.in-Some.is) c.count_up.ensures,
  c.records.invariant.1,
)
