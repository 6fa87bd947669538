use mathlib.Core.List.{[]}
use Rattle.base.specs.Blit.{part}
use Rattle.writing.specs.Data.{signal_words}
use Rattle.window_columns.specs.ColumnsLaws.{no_sd, sd_laid, sd_numbers}
use native.Mathlib.Omega.{arith}
use Rattle.window_columns.proofs.lay_sd.Goals as goal
use Rattle.window_columns.proofs.lay_sd.Goals.{then-all-before-via-then-all-before, then-all-before-via-else-all-before+then-all-before-2}

pub returns-then-e-eq0 : goal.returns-then-e-eq0
returns-then-e-eq0 c h o = no_sd _ _ _ _ _ c.if-e-eq0.true

pub returns-then-all-before : goal.returns-then-all-before
returns-then-all-before c h o =
    let y = h c.if-e-eq0.false in
    elim c.then-all-before.branch [
      | then-all-before-via-then-all-before w ↦ absurd (omega (arith, y.0, w.if-all-before.true))
      | then-all-before-via-else-all-before+then-all-before-2 w ↦ absurd (omega (arith, y.0, w.if-all-before-2.true))
    ]

pub returns : goal.returns
unfolding signal_words part
returns c h o =
    let y = h c.if-e-eq0.false in
    sd_laid _ _ _ _ _ c.if-e-eq0.false (c.lay_signal.ensures y.1 (sd_numbers c.args.image.now c.args.fragments.now c.args.e 0 [] c.if-e-eq0.false o y.1))
