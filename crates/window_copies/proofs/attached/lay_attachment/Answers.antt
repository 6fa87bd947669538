-- Its own copies, then the AT.
use Rattle.stores.specs.Over.{over}
use mathlib.Core.Path.{ap, ◌∙◌}
use Rattle.window_copies.proofs.attached.lay_attachment.Goals as goal

pub returns : goal.returns
returns c = λ h l n k v m. c.lay_moved.ensures m ∙ ap (over _ _ _) (c.lay_copies.ensures h l n k v)
