-- By where the window begins: before the links, past them or inside one of them.
use Rattle.result.specs.Fill.{new_link}
use mathlib.Core.Path.{refl, ap, ◌∙◌}
use Rattle.window_copies.specs.LaidLaws.{links_after, links_before, links_cut}
use Rattle.copying.specs.CopyingLaws.{led_is}
use native.Mathlib.Omega.{arith}
use Rattle.window_copies.proofs.lay_links.Goals as goal

pub returns-then-a-at : goal.returns-then-a-at
returns-then-a-at c = λ t. links_after _ _ _ _ _ _ _ (omega arith) (c.put_links_from.ensures t)

pub returns-then-k-i : goal.returns-then-k-i
returns-then-k-i c = λ t. links_before _ _ _ _ _ _ _ (omega arith) (omega arith)

pub returns : goal.returns
returns c = λ t. links_cut _ _ _ _ _ _ _ _ (omega arith) refl (omega arith) (led_is _ _ (c.link_by-new.ensures t) ∙ ap (new_link _) c.link_at-old.ensures)
    c.lay_u64.ensures (c.put_links_from-2.ensures t)
