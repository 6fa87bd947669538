-- The data blocks that a DL lists, by its links: all but the first.
use Rattle.std.specs.Prelude.{ℕ, zero, suc, ◌+◌, ◌*◌, ◌-◌, List, [], ◌∷◌, Bool, true, false, not}
use Rattle.base.specs.Choice.{if_eq}
use Rattle.base.specs.Field.{le_at}
use Rattle.mdf.specs.Block.{kind_dt, kind_at, links_at, link_at}
use Rattle.mdf.specs.Chain.{dt, dv, Fragment, fragment}
use Rattle.file.specs.Form.{FileColumn, none_zero, all_dt, all_dv}

-- the fragment with its header at x, which is a DT or else a DV
unfoldable pub block_in : List ℕ → ℕ → Fragment
block_in s x = fragment s x (if_eq (kind_at s x) kind_dt dt dv)

unfoldable pub blocks_at : List ℕ → ℕ → ℕ → List Fragment
blocks_at s zero p = []
blocks_at s (suc k) p = block_in s (le_at 8 s p) ∷ blocks_at s k (p + 8)

-- from link i on, of so many links of the DL at a
unfoldable pub listed_from : List ℕ → ℕ → ℕ → ℕ → List Fragment
listed_from s a links i = blocks_at s (links - i) (a + 24 + 8 * i)

unfoldable pub none_from : List ℕ → ℕ → ℕ → ℕ → Bool
none_from s a links i = none_zero s (links - i) (a + 24 + 8 * i)

-- a data link of 0 leads to none
unfoldable pub links_of : List ℕ → ℕ → ℕ
links_of s a = if_eq a 0 0 (links_at s a)

abbrev pub blocks_of : List ℕ → ℕ → List Fragment
blocks_of s a = listed_from s a (links_of s a) 1

-- the column of the DG, the CG and the CN
abbrev pub column_of : List ℕ → ℕ → ℕ → ℕ → FileColumn
column_of s d g c = record { dg = d; cg = g; cn = c; fragments = blocks_of s (link_at s d 2) }

-- all are DT, or all are DV
abbrev pub all_of : Bool → List Fragment → Bool
all_of false fs = all_dt fs
all_of true fs = all_dv fs

-- a block is DV (t), and it isn't of the kind asked for (v)
abbrev pub differs : Bool → Bool → Bool
differs false v = v
differs true v = not v
