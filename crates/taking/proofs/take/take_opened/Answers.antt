-- The refusals in order, then the photos.
use Rattle.fields.specs.AnswerLaws.{passed_on}
use Rattle.blocks.specs.AnswerLaws.{so_fine}
use Rattle.taking.specs.WordsLaws.{all_inside}
use Rattle.taking.specs.TakesLaws.{taken_unsound, taken-listed, marked, taken_master, taken_marked}
use Rattle.taking.proofs.take.take_opened.Goals as goal

pub returns-in_err-columns_sound : goal.returns-in_err-columns_sound
returns-in_err-columns_sound c = rw (passed_on _ _ c.from_residual.ensures) (taken_unsound _ _ _ _ c.columns_sound.ensures _ _ _ _ c.in_err-columns_sound.was)

pub returns-in_err-mark : goal.returns-in_err-mark
returns-in_err-mark c =
    rw (passed_on _ _ c.from_residual-in_err-mark.ensures)
    (taken-listed _ _ _ _ c.columns_sound.ensures c.in_ok-columns_sound.was _ c.mark.ensures _ _ _ _ c.in_err-mark.was)

pub returns-in_err-masters_kept : goal.returns-in_err-masters_kept
returns-in_err-masters_kept c =
    let m = marked _ _ _ _ c.columns_sound.ensures c.in_ok-columns_sound.was _ c.mark.ensures c.in_ok-mark.was in
    rw (passed_on _ _ c.from_residual-in_err-masters_kept.ensures)
    (taken_master _ _ _ _ c.columns_sound.ensures c.in_ok-columns_sound.was m.0 (c.masters_kept.ensures _ m.1) _ _ _ _ c.in_err-masters_kept.was)

pub take_marked-requires : goal.take_marked-requires
take_marked-requires c = all_inside _ _ _ _ (so_fine c.columns_sound.ensures c.in_ok-columns_sound.was)

pub returns : goal.returns
returns c =
    let m = marked _ _ _ _ c.columns_sound.ensures c.in_ok-columns_sound.was _ c.mark.ensures c.in_ok-mark.was in
    taken_marked _ _ _ _ c.columns_sound.ensures c.in_ok-columns_sound.was m.0 (c.masters_kept.ensures _ m.1) c.in_ok-masters_kept.was
    (c.take_marked.ensures _ m.1)
