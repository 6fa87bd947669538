-- What the walk met is what links list: the DG chain from HD, each DG's CG chain and data chain, each CG's CN chain; `dataGroups` gives it back.
use Rattle.std.specs.Prelude.{ℕ, zero, suc, ◌+◌, ◌-◌, ◌≡◌, refl, length}
use mathlib.Core.List.{List, [], ◌∷◌, ◌++◌, append-nil, append_assoc}
use Rattle.std.proofs.Math.Path.{sym, ap}
use Rattle.std.proofs.Common.{◌∙◌, subst, arith, length-append, take_at, drop_at}
use Rattle.base.specs.Blit.{part}
use Rattle.base.specs.Checked.{Checked, ok}
use Rattle.mdf.specs.Block.{HD, link_at, block_at}
use Rattle.mdf.specs.Name.{name_at}
use Rattle.mdf.specs.Chain.{Fragment, Chain.records, Found, found, stopped, Limits, limits, chain}
use Rattle.mdf.specs.Walk.{Item, dg, cg, cn, Source, source, Level, level_dg, level_cg, level_cn, visit, entered, level, turns, below_cn, below_cg, id_size_in, with_found, below_dg, walk_of, walk}
use Rattle.mdf.specs.Group.{Group, DataGroup, addresses, channels_of, groups_of, up_to, data_groups_of, data_groups}
use Rattle.result.specs.Member.{In, here, there}
use Rattle.result.specs.Recording.{Chained, Linked, data_group_places}
use Rattle.plan_laws.specs.Answers.{refused≢ok, ok_same, with_ok, eq_cases}
use Rattle.plan_laws.specs.Lists.{in_none}

-- ---- one level: P relates the chain from a on, what was met before it and after it
level-chain : (P : ℕ → Source → Source → Type 0) (k : Level) (below : ℕ → Source → Checked Source) (s : List ℕ)
    → ((a : ℕ) (st : Source) → a ≡ 0 → P a st st)
    → ((a : ℕ) (st u st' : Source) → (a ≡ 0 → ⊥) → below a (entered k a st) ≡ ok u → P (link_at s a 0) u st' → P a st st')
    → (turns a : ℕ) (st st' : Source) → level k below turns s a st ≡ ok st' → P a st st'
unfolding level
level-chain P k below s end step zero a st st' e = absurd (refused≢ok e)
level-chain P k below s end step (suc turns) a st st' e =
    eq_cases a 0 _ _ e (λ z q. subst (P a st) (ok_same q) (end a st z)) (λ n q.
    with_ok (visit k s st a) _ q (λ _ _ q.
    with_ok (below a (entered k a st)) _ q (λ u b q.
    step a st u st' n b (level-chain P k below s end step turns (link_at s a 0) u st' q))))

-- ---- the items of channels, of groups, of DG where n fragments were found before
unfoldable channel_items : List ℕ → List Item
channel_items [] = []
channel_items (a ∷ l) = cn a ∷ channel_items l

unfoldable group_items : List Group → List Item
group_items [] = []
group_items (g ∷ gs) = cg g.at ∷ (channel_items g.channels ++ group_items gs)

unfoldable data_group_items : ℕ → List DataGroup → List Item
data_group_items n [] = []
data_group_items n (d ∷ ds) = dg d.at n ∷ (group_items d.groups ++ data_group_items (n + length d.fragments) ds)

unfoldable pub all_fragments : List DataGroup → List Fragment
all_fragments [] = []
all_fragments (d ∷ ds) = d.fragments ++ all_fragments ds

-- ---- what each level meets
record Channels (s : List ℕ) (a : ℕ) (st st' : Source) : Type 0 where
  channels : List ℕ
  items : st'.items ≡ st.items ++ channel_items channels
  fragments : st'.fragments ≡ st.fragments
  chained : Chained s a channels

record Groups (s : List ℕ) (a : ℕ) (st st' : Source) : Type 0 where
  groups : List Group
  items : st'.items ≡ st.items ++ group_items groups
  fragments : st'.fragments ≡ st.fragments
  chained : Chained s a (addresses groups)
  channels : (g : Group) → In g groups → Chained s (link_at s g.at 1) g.channels

-- the links of a DG, whatever the limits of the walk
pub record LinkedOf (l : Limits) (s : List ℕ) (d : DataGroup) : Type 0 where
  pub groups : Chained s (link_at s d.at 1) (addresses d.groups)
  pub channels : (g : Group) → In g d.groups → Chained s (link_at s g.at 1) g.channels
  pub fragments : (n : ℕ) × (chain records l s n (link_at s d.at 2) ≡ found d.fragments)

record DataGroups (l : Limits) (s : List ℕ) (a : ℕ) (st st' : Source) : Type 0 where
  data_groups : List DataGroup
  items : st'.items ≡ st.items ++ data_group_items (length st.fragments) data_groups
  fragments : st'.fragments ≡ st.fragments ++ all_fragments data_groups
  chained : Chained s a (data_group_places data_groups)
  linked : (d : DataGroup) → In d data_groups → LinkedOf l s d

-- an item, what is below it, what follows
then_items : (i c g : List Item) (x : Item) → ((i ++ (x ∷ [])) ++ c) ++ g ≡ i ++ (x ∷ (c ++ g))
then_items i c g x = append_assoc (i ++ (x ∷ [])) c g ∙ append_assoc i (x ∷ []) (c ++ g)

module _ (s : List ℕ) where
  channels_met : (a : ℕ) (st st' : Source) → level level_cn (below_cn s) turns s a st ≡ ok st' → Channels s a st st'
  unfolding below_cn entered channel_items Chained
  channels_met = level-chain (Channels s) level_cn (below_cn s) s end step turns
    where
      end : (a : ℕ) (st : Source) → a ≡ 0 → Channels s a st st
      end a st z = record { channels = []; items = sym (append-nil st.items); fragments = refl; chained = z }

      step : (a : ℕ) (st u st' : Source) → (a ≡ 0 → ⊥) → below_cn s a (entered level_cn a st) ≡ ok u → Channels s (link_at s a 0) u st' → Channels s a st st'
      step a st u st' n b r =
          with_ok (name_at s (link_at s a 2)) _ b (λ _ _ q.
          let e : source (st.items ++ (cn a ∷ [])) st.fragments ≡ u = ok_same q in
          record {
            channels = a ∷ r.channels;
            items = r.items ∙ ap (λ (t : Source). t.items ++ channel_items r.channels) (sym e) ∙ append_assoc st.items (cn a ∷ []) (channel_items r.channels);
            fragments = r.fragments ∙ ap (λ (t : Source). t.fragments) (sym e);
            chained = (refl, n, r.chained);
          })

  groups_met : (a : ℕ) (st st' : Source) → level level_cg (below_cg s) turns s a st ≡ ok st' → Groups s a st st'
  unfolding below_cg entered group_items addresses Chained
  groups_met = level-chain (Groups s) level_cg (below_cg s) s end step turns
    where
      end : (a : ℕ) (st : Source) → a ≡ 0 → Groups s a st st
      end a st z = record { groups = []; items = sym (append-nil st.items); fragments = refl; chained = z; channels = λ g i. absurd (in_none i) }

      each : (g : Group) (gs : List Group) → Chained s (link_at s g.at 1) g.channels
          → ((h : Group) → In h gs → Chained s (link_at s h.at 1) h.channels) → (h : Group) → In h (g ∷ gs) → Chained s (link_at s h.at 1) h.channels
      each g gs c f h here = c
      each g gs c f h (there i) = f h i

      step : (a : ℕ) (st u st' : Source) → (a ≡ 0 → ⊥) → below_cg s a (entered level_cg a st) ≡ ok u → Groups s (link_at s a 0) u st' → Groups s a st st'
      step a st u st' n b r =
          with_ok (name_at s (link_at s a 2)) _ b (λ _ _ q.
          let c = channels_met (link_at s a 1) (entered level_cg a st) u q in
          let g : Group = record { at = a; channels = c.channels } in
          record {
            groups = g ∷ r.groups;
            items = r.items ∙ ap (λ (l : List Item). l ++ group_items r.groups) c.items ∙ then_items st.items (channel_items c.channels) (group_items r.groups) (cg a);
            fragments = r.fragments ∙ c.fragments;
            chained = (refl, n, r.chained);
            channels = each g r.groups c.chained r.channels;
          })

  data_groups_met : (l : Limits) (a : ℕ) (st st' : Source) → level level_dg (below_dg l s) turns s a st ≡ ok st' → DataGroups l s a st st'
  unfolding below_dg entered data_group_items all_fragments data_group_places Chained
  data_groups_met l = level-chain (DataGroups l s) level_dg (below_dg l s) s end step turns
    where
      end : (a : ℕ) (st : Source) → a ≡ 0 → DataGroups l s a st st
      end a st z =
          record {
            data_groups = [];
            items = sym (append-nil st.items);
            fragments = sym (append-nil st.fragments);
            chained = z;
            linked = λ d i. absurd (in_none i);
          }

      each : (d : DataGroup) (ds : List DataGroup) → LinkedOf l s d → ((e : DataGroup) → In e ds → LinkedOf l s e) → (e : DataGroup) → In e (d ∷ ds) → LinkedOf l s e
      each d ds c f e here = c
      each d ds c f e (there i) = f e i

      -- the fragments of the data chain, then the groups, then the other DG
      found-step : (a : ℕ) (st v u st' : Source) (o : Found) → (a ≡ 0 → ⊥) → chain records l s (length st.fragments) (link_at s a 2) ≡ o
          → with_found o (entered level_dg a st) ≡ ok v → Groups s (link_at s a 1) v u → DataGroups l s (link_at s a 0) u st' → DataGroups l s a st st'
      found-step a st v u st' (stopped k p fs) n c e g r = absurd (refused≢ok e)
      found-step a st v u st' (found fs) n c e g r =
          let w : source (st.items ++ (dg a (length st.fragments) ∷ [])) (st.fragments ++ fs) ≡ v = ok_same e in
          let d : DataGroup = record { at = a; fragments = fs; groups = g.groups } in
          let f : u.fragments ≡ st.fragments ++ fs = g.fragments ∙ ap (λ (t : Source). t.fragments) (sym w) in
          let k : length u.fragments ≡ length st.fragments + length fs = ap length f ∙ length-append st.fragments fs in
          let i : u.items ≡ (st.items ++ (dg a (length st.fragments) ∷ [])) ++ group_items g.groups =
          g.items ∙ ap (λ (t : Source). t.items ++ group_items g.groups) (sym w) in
          record {
            data_groups = d ∷ r.data_groups;
            items = r.items ∙ ap (λ (m : ℕ). u.items ++ data_group_items m r.data_groups) k
                ∙ ap (λ (m : List Item). m ++ data_group_items (length st.fragments + length fs) r.data_groups) i
                ∙ then_items st.items (group_items g.groups) (data_group_items (length st.fragments + length fs) r.data_groups) (dg a (length st.fragments));
            fragments = r.fragments ∙ ap (λ (m : List Fragment). m ++ all_fragments r.data_groups) f ∙ append_assoc st.fragments fs (all_fragments r.data_groups);
            chained = (refl, n, r.chained);
            linked = each d r.data_groups (record { groups = g.chained; channels = g.channels; fragments = (length st.fragments, c) }) r.linked;
          }

      step : (a : ℕ) (st u st' : Source) → (a ≡ 0 → ⊥) → below_dg l s a (entered level_dg a st) ≡ ok u → DataGroups l s (link_at s a 0) u st' → DataGroups l s a st st'
      step a st u st' n b r =
          with_ok (with_found (chain records l s (length st.fragments) (link_at s a 2)) (entered level_dg a st)) _ b (λ v f q.
          with_ok (id_size_in s a) _ q (λ _ _ q.
          found-step a st v u st' (chain records l s (length st.fragments) (link_at s a 2)) n refl f (groups_met (link_at s a 1) v u q) r))

-- ---- `dataGroups` gives back what was met

-- what stands after the channels of a group
channels_back : (l : List ℕ) (is : List Item) → channels_of is ≡ [] → channels_of (channel_items l ++ is) ≡ l
unfolding channel_items channels_of
channels_back [] is e = e
channels_back (a ∷ l) is e = ap (λ (m : List ℕ). a ∷ m) (channels_back l is e)

channels_passed : (l : List ℕ) (is : List Item) → groups_of (channel_items l ++ is) ≡ groups_of is
unfolding channel_items groups_of
channels_passed [] is = refl
channels_passed (a ∷ l) is = channels_passed l is

no_channels : (n : ℕ) (ds : List DataGroup) → channels_of (data_group_items n ds) ≡ []
unfolding data_group_items channels_of
no_channels n [] = refl
no_channels n (d ∷ ds) = refl

no_groups : (n : ℕ) (ds : List DataGroup) → groups_of (data_group_items n ds) ≡ []
unfolding data_group_items groups_of
no_groups n [] = refl
no_groups n (d ∷ ds) = refl

after-group : (gs : List Group) (n : ℕ) (ds : List DataGroup) → channels_of (group_items gs ++ data_group_items n ds) ≡ []
unfolding group_items channels_of
after-group [] n ds = no_channels n ds
after-group (g ∷ gs) n ds = refl

groups_back : (gs : List Group) (n : ℕ) (ds : List DataGroup) → groups_of (group_items gs ++ data_group_items n ds) ≡ gs
unfolding group_items groups_of
groups_back [] n ds = no_groups n ds
groups_back (g ∷ gs) n ds =
    let rest : List Item = group_items gs ++ data_group_items n ds in
    let e = append_assoc (channel_items g.channels) (group_items gs) (data_group_items n ds) in
    let c : channels_of ((channel_items g.channels ++ group_items gs) ++ data_group_items n ds) ≡ g.channels =
    ap channels_of e ∙ channels_back g.channels rest (after-group gs n ds) in
    let r : groups_of ((channel_items g.channels ++ group_items gs) ++ data_group_items n ds) ≡ gs =
    ap groups_of e ∙ channels_passed g.channels rest ∙ groups_back gs n ds in
    rw (c, r)

channels_skipped : (fs : List Fragment) (l : List ℕ) (is : List Item) → data_groups_of fs (channel_items l ++ is) ≡ data_groups_of fs is
unfolding channel_items data_groups_of
channels_skipped fs [] is = refl
channels_skipped fs (a ∷ l) is = channels_skipped fs l is

groups_skipped : (fs : List Fragment) (gs : List Group) (is : List Item) → data_groups_of fs (group_items gs ++ is) ≡ data_groups_of fs is
unfolding group_items data_groups_of
groups_skipped fs [] is = refl
groups_skipped fs (g ∷ gs) is =
    ap (data_groups_of fs) (append_assoc (channel_items g.channels) (group_items gs) is)
    ∙ channels_skipped fs g.channels (group_items gs ++ is) ∙ groups_skipped fs gs is

channels_up : (all : ℕ) (l : List ℕ) (is : List Item) → up_to all (channel_items l ++ is) ≡ up_to all is
unfolding channel_items up_to
channels_up all [] is = refl
channels_up all (a ∷ l) is = channels_up all l is

groups_up : (all : ℕ) (gs : List Group) (is : List Item) → up_to all (group_items gs ++ is) ≡ up_to all is
unfolding group_items up_to
groups_up all [] is = refl
groups_up all (g ∷ gs) is =
    ap (up_to all) (append_assoc (channel_items g.channels) (group_items gs) is)
    ∙ channels_up all g.channels (group_items gs ++ is) ∙ groups_up all gs is

-- the next DG's fragments begin past so many, or there are no more
next_up : (m : ℕ) (ds : List DataGroup) → up_to (m + length (all_fragments ds)) (data_group_items m ds) ≡ m
unfolding data_group_items up_to all_fragments
next_up m [] = omega arith
next_up m (d ∷ ds) = refl

between : (pre fs more : List Fragment) → part (length pre) (length pre + length fs - length pre) (pre ++ (fs ++ more)) ≡ fs
unfolding part
between pre fs more =
    let n : length pre + length fs - length pre ≡ length fs = omega arith in
    rw (n, drop_at pre (fs ++ more) (length pre) refl) (take_at fs more (length fs) refl)

data_groups_back : (ds : List DataGroup) (pre : List Fragment) → data_groups_of (pre ++ all_fragments ds) (data_group_items (length pre) ds) ≡ ds
unfolding data_group_items all_fragments data_groups_of
data_groups_back [] pre = refl
data_groups_back (d ∷ ds) pre =
    let m : ℕ = length pre + length d.fragments in
    let more : List Fragment = all_fragments ds in
    let fs : List Fragment = pre ++ (d.fragments ++ more) in
    let is : List Item = group_items d.groups ++ data_group_items m ds in
    let l : length fs ≡ m + length more = length-append pre (d.fragments ++ more) ∙ rw length-append (omega arith) in
    let u : up_to (length fs) is ≡ m = groups_up (length fs) d.groups (data_group_items m ds) ∙ rw l (next_up m ds) in
    let p : part (length pre) (up_to (length fs) is - length pre) fs ≡ d.fragments = rw u (between pre d.fragments more) in
    let g : groups_of is ≡ d.groups = groups_back d.groups m ds in
    let a : fs ≡ (pre ++ d.fragments) ++ more = sym (append_assoc pre d.fragments more) in
    let r : data_groups_of fs is ≡ ds =
    groups_skipped fs d.groups (data_group_items m ds)
    ∙ ap (λ (x : List Fragment). data_groups_of x (data_group_items m ds)) a
    ∙ ap (λ (k : ℕ). data_groups_of ((pre ++ d.fragments) ++ more) (data_group_items k ds)) (sym (length-append pre d.fragments))
    ∙ data_groups_back ds (pre ++ d.fragments) in
    rw (p, g, r)

-- ---- the whole walk
pub record WalkedOf (l : Limits) (s : List ℕ) (ds : List DataGroup) : Type 0 where
  pub chained : Chained s (link_at s 64 0) (data_group_places ds)
  pub linked : (d : DataGroup) → In d ds → LinkedOf l s d

module _ (l : Limits) (s : List ℕ) (st : Source) (e : walk_of l s ≡ ok st) where
  met : DataGroups l s (link_at s 64 0) (source [] []) st
  unfolding walk_of
  met = with_ok (block_at HD s 64) _ e (λ _ _ q. data_groups_met s l (link_at s 64 0) (source [] []) st q)

  found_back : data_groups st ≡ met.data_groups
  unfolding data_groups
  found_back =
      ap (λ (fs : List Fragment). data_groups_of fs st.items) met.fragments ∙ ap (data_groups_of (all_fragments met.data_groups)) met.items
      ∙ data_groups_back met.data_groups []

  pub walk_of_linked : WalkedOf l s (data_groups st)
  walk_of_linked = subst (WalkedOf l s) (sym found_back) (record { chained = met.chained; linked = met.linked })

  -- the fragments are those of all DG
  pub walk_of_fragments : st.fragments ≡ all_fragments (data_groups st)
  walk_of_fragments = met.fragments ∙ ap all_fragments (sym found_back)

-- a recording's
pub record Walked (s : List ℕ) (ds : List DataGroup) : Type 0 where
  pub chained : Chained s (link_at s 64 0) (data_group_places ds)
  pub linked : (d : DataGroup) → In d ds → Linked s d

pub walk_linked : (s : List ℕ) (st : Source) → walk s ≡ ok st → Walked s (data_groups st)
walk_linked s st e =
    let w = walk_of_linked limits s st e in
    record { chained = w.chained; linked = λ d i. let k = w.linked d i in record { groups = k.groups; channels = k.channels; fragments = k.fragments } }
