use Rattle.windows.specs.SeenLaws.{seen_clipped}
use Rattle.windows.proofs.seen.seen_in.Goals as goal

pub returns : goal.returns
returns c = rw (c.min.ensures, c.min-skip.ensures, c.min-to.ensures, c.saturating_sub.ensures, c.saturating_sub-2.ensures) (seen_clipped _ _ _ _)
