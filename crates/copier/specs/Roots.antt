-- "per column the copies of CG links 3, 4, 6, CN links 3, 4, 5, 7, 8, the DG comment": `columnLinks` by the three addresses.
use Rattle.std.specs.Prelude.{ℕ, zero, suc, ◌+◌, List, [], ◌∷◌, ◌≡◌, refl, length, get_or}
use Rattle.base.specs.Checked.{Checked, ok, and_then}
use Rattle.mdf.specs.Block.{link_at}
use Rattle.plan.specs.Columns.{Column}
use Rattle.plan.specs.Copies.{Copies, copy_roots, column_links}

unfoldable pub roots : List ℕ → ℕ → ℕ → ℕ → List ℕ
roots s dg cg cn =
    link_at s cg 2 ∷ link_at s cg 3 ∷ link_at s cg 5 ∷ link_at s cn 2 ∷ link_at s cn 3 ∷ link_at s cn 4 ∷ link_at s cn 6 ∷ link_at s cn 7 ∷ link_at s dg 3 ∷ []

pub roots-of : (s : List ℕ) (c : Column) → roots s c.group.data_group.at c.group.at c.channel ≡ column_links s c
unfolding roots
roots-of s c = refl

pub roots_nine : (s : List ℕ) (dg cg cn : ℕ) → length (roots s dg cg cn) ≡ 9
unfolding roots
roots_nine s dg cg cn = refl

-- of the column with words from p on: its CN, CG and DG
unfoldable pub roots_at : List ℕ → List ℕ → ℕ → List ℕ
roots_at s w p = roots s (get_or w (p + 2) 0) (get_or w (p + 1) 0) (get_or w p 0)

-- the copies for so many columns, eight words each
unfoldable pub copies_of : ℕ → List ℕ → List ℕ → ℕ → ℕ → Copies → Checked Copies
copies_of most s w p zero m = ok m
copies_of most s w p (suc n) m = and_then (copy_roots most s (roots_at s w p) m) (λ m'. copies_of most s w (p + 8) n m')
