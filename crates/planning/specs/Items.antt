-- What reading kept, out of its words: the blocks met, and the groups that planning takes. The DG of a group is here only its address.
use Rattle.std.specs.Prelude.{ℕ, zero, suc, ◌+◌, ◌-◌, List, [], ◌∷◌, ◌≡◌, get_or, Some, None}
use Rattle.std.specs.Prelude as code
use Rattle.std.proofs.Math.Option.{Option, none, some}
use Rattle.base.specs.Choice.{if_eq}
use Rattle.mdf.specs.Walk.{Item, dg, cg, cn}
use Rattle.mdf.specs.Group.{channels_of}
use Rattle.work_words.specs.Words.{marks_at, counts_at}
use Rattle.plan.specs.Columns.{SrcGroup, group_at, stand_in}
use Rattle.planning.specs.declared.groups.Sought.{Sought}

-- the block with a mark and an address
unfoldable pub item : ℕ → ℕ → Item
item m a = if_eq m 0 (cn a) (if_eq m 1 (cg a) (dg a (m - 2)))

-- n items from number i on
unfoldable pub items_from : List ℕ → ℕ → ℕ → List Item
items_from w i zero = []
items_from w i (suc n) = item (get_or w (marks_at + i) 0) (get_or w i 0) ∷ items_from w (i + 1) n

-- the group with its CG at a, of the DG at d, with n records
abbrev pub group_of : ℕ → ℕ → List ℕ → ℕ → SrcGroup
group_of d a cs n = record { data_group = record { at = d; fragments = []; groups = [] }; number = 0; at = a; channels = cs; records = n }

-- the groups of items, from group number g on, in the DG at d
unfoldable pub flat : List ℕ → ℕ → ℕ → List Item → List SrcGroup
flat w d g [] = []
flat w d g (dg a n ∷ is) = flat w a g is
flat w d g (cg a ∷ is) = group_of d a (channels_of is) (get_or w (counts_at + g) 0) ∷ flat w d (g + 1) is
flat w d g (cn a ∷ is) = flat w d g is

-- the groups of the first n items
unfoldable pub groups_in : List ℕ → ℕ → List SrcGroup
groups_in w n = flat w 0 0 (items_from w 0 n)

-- the channels from item i on, of n items
unfoldable pub channels_in : List ℕ → ℕ → ℕ → List ℕ
channels_in w n i = channels_of (items_from w i (n - i))

-- the group at a that the code found
unfoldable pub sought_in : List ℕ → ℕ → ℕ → code.Option Sought → Option SrcGroup
sought_in w n a None = none
sought_in w n a (Some x) = some (group_of x.dg a (channels_in w n x.item) x.records)

-- its word among bys, 0 for none
unfoldable pub word_of : List ℕ → code.Option Sought → ℕ
word_of bys None = 0
word_of bys (Some x) = get_or bys x.number 0

-- the first group at a of n items, and its place in any list of words
pub record FoundGroup (w : List ℕ) (n a : ℕ) (r : code.Option Sought) : Type 0 where
  pub group : sought_in w n a r ≡ group_at a (groups_in w n)
  pub stands : (bys : List ℕ) → word_of bys r ≡ stand_in a (groups_in w n) bys

-- the groups from item i on, of n items, from group number g on, in the DG at d
unfoldable pub groups_from : List ℕ → ℕ → ℕ → ℕ → ℕ → List SrcGroup
groups_from w n d g i = flat w d g (items_from w i (n - i))
