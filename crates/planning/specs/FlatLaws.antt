-- The groups in words are those of the recording, bare.
use Rattle.std.specs.Prelude.{ℕ, suc, ◌+◌, ◌≤◌, ◌<◌, List, [], ◌∷◌, ◌++◌, ◌≡◌, refl, length, get_or, drop}
use Rattle.std.proofs.Common.{ap, add-one, arith, drop-cons}
use Rattle.mdf.specs.Chain.{Fragment}
use Rattle.mdf.specs.Walk.{Item, dg, cg, cn, level_cg, tally, Source}
use Rattle.mdf.specs.Group.{DataGroup, groups_of, channels_of, data_groups_of, data_groups}
use Rattle.plan.specs.Columns.{SrcGroup, with_counts, src_groups}
use Rattle.plan_laws.specs.WalkLaws.{Open}
use Rattle.planning.specs.Items.{group_of, items_from, flat, groups_in}
use Rattle.planning.specs.Bare.{bares}

-- the counts stand in the words
pub record Counts (w ns : List ℕ) : Type 0 where
  pub at : (j : ℕ) → j < length ns → get_or w (3584 + j) 0 ≡ get_or ns j 0

flat_groups : (w ns : List ℕ) (fs : List Fragment) → Counts w ns → (is : List Item) (d : DataGroup) (k g : ℕ) → g + tally level_cg.own is ≤ length ns
    → flat w d.at g is
    ≡ bares (with_counts d k (groups_of is) (drop g ns) ++ src_groups (data_groups_of fs is) (drop (length (groups_of is)) (drop g ns)))
unfolding flat tally groups_of data_groups_of with_counts src_groups bares
flat_groups w ns fs c [] d k g h = refl
flat_groups w ns fs c (dg a m ∷ is) d k g h = flat_groups w ns fs c is _ 0 g (omega arith)
flat_groups w ns fs c (cg a ∷ is) d k g h =
    let l : g < length ns = omega arith in
    rw (drop-cons ns g 0 l, c.at g l, add-one g)
    (ap (λ (gs : List SrcGroup). group_of d.at a (channels_of is) (get_or ns g 0) ∷ gs) (flat_groups w ns fs c is d (k + 1) (suc g) (omega arith)))
flat_groups w ns fs c (cn a ∷ is) d k g h = flat_groups w ns fs c is d k g (omega arith)

opened : (w ns : List ℕ) (fs : List Fragment) → Counts w ns → (is : List Item) → Open is → tally level_cg.own is ≤ length ns
    → flat w 0 0 is ≡ bares (src_groups (data_groups_of fs is) ns)
unfolding flat tally groups_of data_groups_of with_counts src_groups bares
opened w ns fs c [] o h = refl
opened w ns fs c (dg a m ∷ is) o h = flat_groups w ns fs c is _ 0 0 (omega arith)
opened w ns fs c (cg a ∷ is) o h = absurd o
opened w ns fs c (cn a ∷ is) o h = absurd o

-- the groups of n items that the words hold
pub groups_flat : (w ns : List ℕ) (n : ℕ) (st : Source) → items_from w 0 n ≡ st.items → Counts w ns → Open st.items
    → tally level_cg.own st.items ≤ length ns → groups_in w n ≡ bares (src_groups (data_groups st) ns)
unfolding groups_in data_groups
groups_flat w ns n st e c o h = rw e (opened w ns st.fragments c st.items o h)
