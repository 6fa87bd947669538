-- By where the zeros begin: past the window, in it, or before it.
use Rattle.std.proofs.Common.{arith}
use Rattle.window_blocks.specs.TextLaws.{zeros_over}
use Rattle.window_blocks.proofs.lay_padding.Goals as goal

pub returns : goal.returns
returns c =
    rw (c.zero.ensures, c.saturating_add-to.ensures, c.saturating_sub.ensures, c.saturating_sub-2.ensures, c.saturating_sub-3.ensures, c.saturating_sub-cut.ensures, c.saturating_sub-past.ensures)
    (zeros_over _ _ _ _ (omega (arith, c.well_formed)))
