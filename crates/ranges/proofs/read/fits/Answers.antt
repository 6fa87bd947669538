-- By division.
use Rattle.std.proofs.Common.{◌∙◌, ne_eqb}
use Rattle.ranges.specs.ReadLaws.{fits-none, fits-part, fits_whole}
use Rattle.ranges.proofs.read.fits.Goals as goal

pub returns-then-w-eq0 : goal.returns-then-w-eq0
returns-then-w-eq0 c = fits-none _ _ _ c.if-w-eq0.true

pub returns-then-n-w-eq0 : goal.returns-then-n-w-eq0
returns-then-n-w-eq0 c = fits_whole _ _ _ c.if-w-eq0.false c.if-n-w-eq0.true

pub returns-else-n-w-eq0 : goal.returns-else-n-w-eq0
returns-else-n-w-eq0 c = ne_eqb _ _ c.if-n-w-eq0.false ∙ fits-part _ _ _ c.if-w-eq0.false c.if-n-w-eq0.false
