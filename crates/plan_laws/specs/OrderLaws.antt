-- The order of the walk's items: a CN follows its CG or a CN of the same group, so that every CN is a channel of a group.
use Prim.{Unit, tt}
use Rattle.std.specs.Prelude.{ℕ, ◌≡◌, refl, Bool, true, false, length}
use mathlib.Core.List.{List, [], ◌∷◌, ◌++◌}
use Rattle.std.proofs.Common.{sym}
use Rattle.std.proofs.Math.Path.{subst}
use Rattle.base.specs.Checked.{ok}
use Rattle.mdf.specs.Block.{HD, link_at, block_at}
use Rattle.mdf.specs.Name.{name_at}
use Rattle.mdf.specs.Chain.{Fragment, Chain.records, Found, found, stopped, Limits, chain}
use Rattle.mdf.specs.Walk.{Item, dg, cg, cn, Source, source, level_dg, level_cg, level_cn, entered, turns, below_cn, below_cg, id_size_in, with_found, below_dg, walk_of}
use Rattle.mdf.specs.Group.{Group, DataGroup, channels_of, groups_of, data_groups_of}
use Rattle.result.specs.Guarantee.{In, here, there}
use Rattle.plan_laws.specs.Answers.{refused≢ok, ok_same, true≢false, with_ok}
use Rattle.plan_laws.specs.Lists.{in_none}
use Rattle.plan_laws.specs.WalkLaws.{Open, level_keeps}

-- whether a CN may follow
abbrev may_follow : Item → Bool
may_follow (dg a n) = false
may_follow (cg a) = true
may_follow (cn a) = true

unfoldable ends : Bool → List Item → Bool
ends b [] = b
ends b (i ∷ is) = ends (may_follow i) is

-- each CN stands where one may follow
unfoldable pub Follows : Bool → List Item → Type 0
Follows b [] = Unit {0}
Follows b (dg a n ∷ is) = Follows false is
Follows b (cg a ∷ is) = Follows true is
Follows b (cn a ∷ is) = (b ≡ true) × Follows true is

ends_more : (b : Bool) (is : List Item) (i : Item) → ends b (is ++ (i ∷ [])) ≡ may_follow i
unfolding ends
ends_more b [] i = refl
ends_more b (j ∷ is) i = ends_more (may_follow j) is i

follows_more : (b : Bool) (is : List Item) (i : Item) → Follows b is → Follows (ends b is) (i ∷ []) → Follows b (is ++ (i ∷ []))
unfolding ends Follows
follows_more b [] i h k = k
follows_more b (dg a n ∷ is) i h k = follows_more false is i h k
follows_more b (cg a ∷ is) i h k = follows_more true is i h k
follows_more b (cn a ∷ is) i h k = (h.0, follows_more true is i h.1 k)

-- between DG or CG, and where a CN may follow
abbrev Inside : Source → Type 0
Inside st = Follows false st.items

record Within (st : Source) : Type 0 where
  pub follows : Follows false st.items
  pub after : ends false st.items ≡ true

enter_dg : (a : ℕ) (st : Source) → Inside st → Inside (entered level_dg a st)
unfolding entered Follows
enter_dg a st h = follows_more false st.items (dg a (length st.fragments)) h tt

enter_cg : (a : ℕ) (st : Source) → Inside st → Within (entered level_cg a st)
unfolding entered Follows
enter_cg a st h = record { follows = follows_more false st.items (cg a) h tt; after = ends_more false st.items (cg a) }

enter_cn : (a : ℕ) (st : Source) → Within st → Within (entered level_cn a st)
unfolding entered Follows
enter_cn a st h = record { follows = follows_more false st.items (cn a) h.follows (h.after, tt); after = ends_more false st.items (cn a) }

module _ (l : Limits) (s : List ℕ) where
  below-cn : (a : ℕ) (st st' : Source) → Within st → below_cn s a st ≡ ok st' → Within st'
  unfolding below_cn
  below-cn a st st' h e = with_ok (name_at s (link_at s a 2)) _ e (λ _ _ q. subst Within (ok_same q) h)

  below-cg : (a : ℕ) (st st' : Source) → Within st → below_cg s a st ≡ ok st' → Inside st'
  unfolding below_cg
  below-cg a st st' h e =
      with_ok (name_at s (link_at s a 2)) _ e (λ _ _ q.
      (level_keeps Within Within level_cn (below_cn s) s (λ a st n h v. enter_cn a st h) below-cn turns (link_at s a 1) st st' h q).follows)

  fragments_more : (v : Found) (st st' : Source) → Inside st → with_found v st ≡ ok st' → Inside st'
  fragments_more (found fs) st st' h e = subst Inside (ok_same e) h
  fragments_more (stopped n p fs) st st' h e = absurd (refused≢ok e)

  below-dg : (a : ℕ) (st st' : Source) → Inside st → below_dg l s a st ≡ ok st' → Inside st'
  unfolding below_dg
  below-dg a st st' h e =
      with_ok (with_found (chain records l s (length st.fragments) (link_at s a 2)) st) _ e (λ st2 f q.
      with_ok (id_size_in s a) _ q (λ _ _ q.
      level_keeps Inside Within level_cg (below_cg s) s (λ a st n h v. enter_cg a st h) below-cg turns (link_at s a 1) st2 st'
      (fragments_more (chain records l s (length st.fragments) (link_at s a 2)) st st2 h f) q))

  pub walk_of_follows : (st : Source) → walk_of l s ≡ ok st → Follows false st.items
  unfolding walk_of Follows
  walk_of_follows st e =
      with_ok (block_at HD s 64) _ e (λ _ _ q.
      level_keeps Inside Inside level_dg (below_dg l s) s (λ a st n h v. enter_dg a st h) below-dg turns (link_at s 64 0) (source [] []) st tt q)

-- ---- where a CN stands: in front, in a group in front, in a group of a later DG
data Stands (b : Bool) (fs : List Fragment) (a : ℕ) (is : List Item) : Type 0 where
  front : b ≡ true → In a (channels_of is) → Stands b fs a is
  in_group : (g : Group) → In g (groups_of is) → In a g.channels → Stands b fs a is
  later : (d : DataGroup) → In d (data_groups_of fs is) → (g : Group) → In g d.groups → In a g.channels → Stands b fs a is

stands : (fs : List Fragment) (a : ℕ) (is : List Item) (b : Bool) → Follows b is → In (cn a) is → Stands b fs a is
unfolding Follows channels_of groups_of data_groups_of
stands fs a [] b h i = absurd (in_none i)
stands fs a (dg c n ∷ is) b h (there i) = go (stands fs a is false h i)
  where
    go : Stands false fs a is → Stands b fs a (dg c n ∷ is)
    go (front e j) = absurd (true≢false (sym e))
    go (in_group g k j) = later _ here g k j
    go (later d m g k j) = later d (there m) g k j
stands fs a (cg c ∷ is) b h (there i) = go (stands fs a is true h i)
  where
    go : Stands true fs a is → Stands b fs a (cg c ∷ is)
    go (front e j) = in_group _ here j
    go (in_group g k j) = in_group g (there k) j
    go (later d m g k j) = later d m g k j
stands fs a (cn c ∷ is) b h here = front h.0 here
stands fs a (cn c ∷ is) b h (there i) = go (stands fs a is true h.1 i)
  where
    go : Stands true fs a is → Stands b fs a (cn c ∷ is)
    go (front e j) = front h.0 (there j)
    go (in_group g k j) = in_group g k j
    go (later d m g k j) = later d m g k j

-- every CN of the walk is a channel of a group
pub record ChannelIn (a : ℕ) (ds : List DataGroup) : Type 0 where
  pub data_group : DataGroup
  pub is_in : In data_group ds
  pub group : Group
  pub group_in : In group data_group.groups
  pub channel_in : In a group.channels

no_front : (is : List Item) (g : Group) → Open is → In g (groups_of is) → ⊥
unfolding groups_of
no_front [] g o i = in_none i
no_front (dg a n ∷ is) g o i = in_none i
no_front (cg a ∷ is) g o i = o
no_front (cn a ∷ is) g o i = o

pub cn_is_in : (fs : List Fragment) (a : ℕ) (is : List Item) → Open is → Follows false is → In (cn a) is → ChannelIn a (data_groups_of fs is)
cn_is_in fs a is o h i = go (stands fs a is false h i)
  where
    go : Stands false fs a is → ChannelIn a (data_groups_of fs is)
    go (front e j) = absurd (true≢false (sym e))
    go (in_group g k j) = absurd (no_front is g o k)
    go (later d m g k j) = record { data_group = d; is_in = m; group = g; group_in = k; channel_in = j }
