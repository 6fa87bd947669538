-- Copies that don't lie in the words whole lead to 0.
use Prim.Native.Nat.{◌*◌, ◌≤◌}
use mathlib.Core.Path.{ap, ◌∙◌}
use lib.ListN.{length}
use native.Mathlib.Omega.{arith}
use Rattle.plan.specs.Copies.{copy_of}
use Rattle.copier.specs.StandingLaws.{copies_lent, link_found, link_least}
use Rattle.copier.proofs.memo.new_link.Goals as goal

pub returns : goal.returns
returns c =
    let h : 2 * c.min.result ≤ length c.args.memo.now = omega (arith, c.min.ensures) in
    link_least _ _ _ c.min.ensures (c.unwrap_or.ensures ∙ link_found _ (c.find.ensures ∙ ap (copy_of _) (copies_lent _ _ h)))
