-- A window from the first byte on has all of them.
use Rattle.std.proofs.Common.{◌∙◌}
use Rattle.stores.specs.OverLaws.{over-all}
use Rattle.write_copies.proofs.led.put_photos.Goals as goal

pub returns : goal.returns
returns c h k l = c.lay_photos.ensures h k l ∙ over-all _ _ _
