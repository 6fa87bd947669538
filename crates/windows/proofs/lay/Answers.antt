-- The bytes stand where they are meant to stand.
use Rattle.std.proofs.Common.{ℕ, List, ◌≡◌, ◌-◌}
use Rattle.base.specs.Blit.{blit}
use Rattle.windows.specs.LayLaws.{lay_clipped}
use native.Mathlib.Omega.{arith}
use Rattle.windows.proofs.lay.Goals as goal

laid : (i j : ℕ) (bs w r v : List ℕ) → r ≡ blit i bs w → i ≡ j → blit j bs w ≡ v → r ≡ v
laid i j bs w r v e f g = rw (e, f) g

pub returns : goal.returns
returns c =
    laid _ (c.args.at - c.args.a) _ _ _ _ c.copy.ensures (omega arith)
    (rw (c.saturating_sub.ensures, c.saturating_add.ensures, c.saturating_sub-skip.ensures) (lay_clipped _ _ _ _ _ _ _ (omega (arith, c.well_formed))))
