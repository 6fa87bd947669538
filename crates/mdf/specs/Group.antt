-- The data groups of a recording, as the walk met them, and the fields of CG that reading needs (ASAM MDF 4.2, CGBLOCK).
use Rattle.std.specs.Prelude.{ℕ, ◌+◌, ◌-◌, ◌%◌, List, [], ◌∷◌, Bool, length, eqb}
use Rattle.base.specs.Blit.{part}
use Rattle.base.specs.Field.{le_at}
use Rattle.mdf.specs.Block.{data_at}
use Rattle.mdf.specs.Chain.{Fragment}
use Rattle.mdf.specs.Walk.{Item, dg, cg, cn, Source}

-- a CG and the CN of its own chain: "A group's channels are the CN of its own chain"
pub record Group : Type 0 where
  pub at : ℕ
  pub channels : List ℕ

-- bookkeeping: a DG, the fragments of its data chain, and its groups
pub record DataGroup : Type 0 where
  pub at : ℕ
  pub fragments : List Fragment
  pub groups : List Group

-- bookkeeping: the addresses of groups
unfoldable pub addresses : List Group → List ℕ
addresses [] = []
addresses (g ∷ gs) = g.at ∷ addresses gs

-- bookkeeping: the CN in front of the items, up to the next CG or DG
unfoldable pub channels_of : List Item → List ℕ
channels_of [] = []
channels_of (dg a n ∷ is) = []
channels_of (cg a ∷ is) = []
channels_of (cn a ∷ is) = a ∷ channels_of is

-- bookkeeping: the groups up to the next DG
unfoldable pub groups_of : List Item → List Group
groups_of [] = []
groups_of (dg a n ∷ is) = []
groups_of (cg a ∷ is) = record { at = a; channels = channels_of is } ∷ groups_of is
groups_of (cn a ∷ is) = groups_of is

-- bookkeeping: the number of fragments found before the next DG's own, or all
unfoldable pub up_to : ℕ → List Item → ℕ
up_to all [] = all
up_to all (dg a n ∷ is) = n
up_to all (cg a ∷ is) = up_to all is
up_to all (cn a ∷ is) = up_to all is

-- bookkeeping: each DG with the fragments of its data chain and its groups
unfoldable pub data_groups_of : List Fragment → List Item → List DataGroup
data_groups_of fs [] = []
data_groups_of fs (dg a n ∷ is) =
    record { at = a; fragments = part n (up_to (length fs) is - n) fs; groups = groups_of is } ∷ data_groups_of fs is
data_groups_of fs (cg a ∷ is) = data_groups_of fs is
data_groups_of fs (cn a ∷ is) = data_groups_of fs is

-- the recording's data groups, in the order of the walk: "DG by DG"
unfoldable pub data_groups : Source → List DataGroup
data_groups st = data_groups_of st.fragments st.items

-- ---- fields of the CG at a: record id, flags, then
unfoldable pub record_id : List ℕ → ℕ → ℕ
record_id s a = le_at 8 s (data_at s a)

unfoldable pub group_flags : List ℕ → ℕ → ℕ
group_flags s a = le_at 2 s (data_at s a + 16)

-- data bytes of a record
unfoldable pub samples : List ℕ → ℕ → ℕ
samples s a = le_at 4 s (data_at s a + 24)

-- invalidation bytes of a record
unfoldable pub inval_bytes : List ℕ → ℕ → ℕ
inval_bytes s a = le_at 4 s (data_at s a + 28)

-- "VLSD storage groups (flag bit 0)"
unfoldable pub is_storage : List ℕ → ℕ → Bool
is_storage s a = eqb (group_flags s a % 2) 1
