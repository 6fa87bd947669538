-- Header, text and zeros follow each other.
use Rattle.std.proofs.Common.{refl}
use Rattle.window_blocks.specs.TextLaws.{md_over}
use Rattle.window_blocks.proofs.lay_md_from.Goals as goal

pub returns : goal.returns
returns c = md_over _ _ _ _ _ _ _ _ refl refl c.lay_header.ensures c.lay.ensures c.lay_padding.ensures
