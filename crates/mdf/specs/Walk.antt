-- The walk over DG, CG and CN chains: "DG by DG (the block, its data chain, id size, then each CG, its name, its CNs)" (document 01, Order).
use Rattle.std.specs.Prelude.{ℕ, zero, suc, ◌+◌, List, [], ◌∷◌, ◌++◌, Bool, true, false, length, get_or, eqb}
use Rattle.base.specs.Choice.{pick, if_lt, if_eq}
use Rattle.base.specs.Checked.{Checked, ok, refused, and_then, Verdict, fine}
use Rattle.mdf.specs.Block.{HD, DG, CG, CN, Wanted, link_at, data_at, block_at}
use Rattle.mdf.specs.Name.{name_at}
use Rattle.mdf.specs.Chain.{Fragment, Chain.records, Found, found, stopped, Limits, limits, chain}

-- bookkeeping: a block met, with its address; of a DG also the number of fragments found before its own
pub data Item : Type 0 where
  dg : ℕ → ℕ → Item
  cg : ℕ → Item
  cn : ℕ → Item

-- bookkeeping: the address of a block met
abbrev pub address : Item → ℕ
address (dg a n) = a
address (cg a) = a
address (cn a) = a

-- bookkeeping: what was met, in the order of the walk, and the fragments of the data chains, in that order
pub record Source : Type 0 where
  pub items : List Item
  pub fragments : List Fragment

-- bookkeeping: the two together
abbrev pub source : List Item → List Fragment → Source
source is fs = record { items = is; fragments = fs }

-- "One set of visited addresses serves all DG, CG and CN chains."
unfoldable pub is_met : ℕ → List Item → Bool
is_met a [] = false
is_met a (i ∷ is) = let more = is_met a is in pick (eqb (address i) a) true more

-- bookkeeping: one of the three chains: what is wanted of its blocks, what is entered for one, and which items are its own
pub record Level : Type 0 where
  pub wanted : Wanted
  pub entry : ℕ → Source → Item
  pub own : Item → ℕ

-- bookkeeping: 1 for an item of the level, else 0
abbrev own_dg : Item → ℕ
own_dg (dg a n) = 1
own_dg (cg a) = 0
own_dg (cn a) = 0

abbrev own_cg : Item → ℕ
own_cg (dg a n) = 0
own_cg (cg a) = 1
own_cg (cn a) = 0

abbrev own_cn : Item → ℕ
own_cn (dg a n) = 0
own_cn (cg a) = 0
own_cn (cn a) = 1

-- the DG chain, the CG chain of a DG, the CN chain of a CG
abbrev pub level_dg : Level
level_dg = record { wanted = DG; entry = λ a st. dg a (length st.fragments); own = own_dg }

abbrev pub level_cg : Level
level_cg = record { wanted = CG; entry = λ a st. cg a; own = own_cg }

abbrev pub level_cn : Level
level_cn = record { wanted = CN; entry = λ a st. cn a; own = own_cn }

-- bookkeeping: how many of the items are of the level
unfoldable pub tally : (Item → ℕ) → List Item → ℕ
tally own [] = 0
tally own (i ∷ is) = own i + tally own is

-- "512 DG, 512 CG, 512 CN"
abbrev pub most_items : ℕ
most_items = 512

-- "In one block: 11 before it is read", its checks, then the limit: "19 comes when an item past its limit has passed its own block's checks"
unfoldable pub visit : Level → List ℕ → Source → ℕ → Verdict
visit k s st a =
    pick (is_met a st.items) (refused 11 a)
    (and_then (block_at k.wanted s a) (λ _. if_lt (tally k.own st.items) most_items fine (refused 19 a)))

-- bookkeeping: a block is entered into what was met
unfoldable pub entered : Level → ℕ → Source → Source
entered k a st = source (st.items ++ (k.entry a st ∷ [])) st.fragments

-- the chain from a on: each block is met, then what is below it, then the next. More turns than a level can have blocks
unfoldable pub level : Level → (ℕ → Source → Checked Source) → ℕ → List ℕ → ℕ → Source → Checked Source
level k below zero s a st = refused 19 a
level k below (suc turns) s a st =
    let here = and_then (visit k s st a) (λ _. and_then (below a (entered k a st)) (λ st'. level k below turns s (link_at s a 0) st')) in
    if_eq a 0 (ok st) here

-- bookkeeping: one turn more than a level can have blocks
abbrev pub turns : ℕ
turns = most_items + 1

-- "A name link (third of CG and CN)": of a CN its name
unfoldable pub below_cn : List ℕ → ℕ → Source → Checked Source
below_cn s a st = and_then (name_at s (link_at s a 2)) (λ _. ok st)

-- "each CG, its name, its CNs": the name at link 3, then the CN chain at link 2
unfoldable pub below_cg : List ℕ → ℕ → Source → Checked Source
below_cg s a st = and_then (name_at s (link_at s a 2)) (λ _. level level_cn (below_cn s) turns s (link_at s a 1) st)

-- the size of the record ids of a DG: its first data byte (ASAM MDF 4.2, DGBLOCK)
unfoldable pub id_size : List ℕ → ℕ → ℕ
id_size s a = get_or s (data_at s a) 0

-- "13: id size not 0, 1, 2, 4, 8"
unfoldable pub id_size_in : List ℕ → ℕ → Verdict
id_size_in s a =
    if_eq (id_size s a) 0 fine (if_eq (id_size s a) 1 fine (if_eq (id_size s a) 2 fine
    (if_eq (id_size s a) 4 fine (if_eq (id_size s a) 8 fine (refused 13 a)))))

-- bookkeeping: the fragments of a data chain, after those found before
abbrev pub with_found : Found → Source → Checked Source
with_found (found fs) st = ok (source st.items (st.fragments ++ fs))
with_found (stopped number place fs) st = refused number place

-- "the block, its data chain, id size, then each CG": the data chain at link 3, its id size, then the CG chain at link 2
unfoldable pub below_dg : Limits → List ℕ → ℕ → Source → Checked Source
below_dg l s a st =
    and_then (with_found (chain records l s (length st.fragments) (link_at s a 2)) st) (λ st'.
    and_then (id_size_in s a) (λ _. level level_cg (below_cg s) turns s (link_at s a 1) st'))

-- "HD; DG by DG": HD, which stands at 64, then the DG chain at its link 1
unfoldable pub walk_of : Limits → List ℕ → Checked Source
walk_of l s = and_then (block_at HD s 64) (λ _. level level_dg (below_dg l s) turns s (link_at s 64 0) (source [] []))

-- a recording's
abbrev pub walk : List ℕ → Checked Source
walk s = walk_of limits s
