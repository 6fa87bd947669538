-- What is known of a file that was opened, and of each of its columns: checked blocks, links, the form, blocks within the file, limits.
use Rattle.std.specs.Prelude.{ℕ, zero, suc, ◌≤◌, List, [], ◌∷◌, ◌++◌, Bool, true, false, ◌≡◌, refl, eqb, length}
use Rattle.std.proofs.Math.Option.{Option, none, some}
use Rattle.std.proofs.Common.{sym, ap, subst, ◌∙◌, arith}
use Rattle.base.specs.Choice.{pick}
use Rattle.base.specs.ChoiceLaws.{eq_yes}
use Rattle.base.specs.Checked.{ok, refused, fine}
use Rattle.base.specs.CheckedLaws.{refused≢ok, ok_same, then_ok, then_fine}
use Rattle.mdf.specs.Block.{kind_dl, HD, DG, CG, CN, kind_at, link_at, block_at}
use Rattle.mdf.specs.Chain.{Chain.records, Fragment, found, file_limits, chain_from, chain}
use Rattle.mdf.specs.Identification.{identified}
use Rattle.mdf.specs.Walk.{Source, walk_of, most_items}
use Rattle.mdf.specs.Group.{Group, DataGroup, addresses, data_groups}
use Rattle.mdf.specs.Records.{ranges_in}
use Rattle.result.specs.Member.{In, here, there}
use Rattle.result.specs.Recording.{Chained}
use Rattle.plan_laws.specs.DecideLaws.{none≢some, some_same}
use Rattle.plan_laws.specs.Answers.{eq_cases}
use Rattle.plan_laws.specs.ChainLaws.{stopped≢found, found-same}
use Rattle.plan_laws.specs.WalkLaws.{walk_of_sound}
use Rattle.plan_laws.specs.LinkLaws.{LinkedOf, walk_of_linked, walk_of_fragments, all_fragments as groupFragments}
use Rattle.plan_laws.specs.GroupLaws.{DataGroupFine, data_groups_fine, few_data_groups}
use Rattle.file.specs.Form.{FileColumn, of_channels, of_groups, alone, links_formed, is_equal_length, equal_length, have_length, list_formed, formed}
use Rattle.file.specs.Opened.{on_column, column_in, columns_in, opened}
use Rattle.file_laws.specs.OpenedLaws.{both_back, Formed, formed_back}
use Rattle.file_laws.specs.JoinedLaws.{ranges_cons, ranges_in_lem}
use Rattle.file_laws.specs.Standing.{all_fragments}

-- ---- a DG with one CG and one CN
pub record Alone (d : DataGroup) (c : FileColumn) : Type 0 where
  pub at : d.at ≡ c.dg
  pub groups : d.groups ≡ record { at = c.cg; channels = c.cn ∷ [] } ∷ []
  pub fragments : d.fragments ≡ c.fragments

by_channels : (d : DataGroup) (g : Group) (cs : List ℕ) (c : FileColumn) → d.groups ≡ g ∷ [] → g.channels ≡ cs
    → of_channels d g.at cs ≡ some c → Alone d c
by_channels d g [] c h k e = absurd (none≢some e)
by_channels d g (b ∷ []) c h k e =
    subst (Alone d) (some_same e) (record {
      at = refl;
      groups = h ∙ ap (λ (l : List ℕ). record { at = g.at; channels = l } ∷ []) k;
      fragments = refl;
    })
by_channels d g (a ∷ b ∷ cs) c h k e = absurd (none≢some e)

by_groups : (d : DataGroup) (gs : List Group) (c : FileColumn) → d.groups ≡ gs → of_groups d gs ≡ some c → Alone d c
by_groups d [] c h e = absurd (none≢some e)
by_groups d (g ∷ []) c h e = by_channels d g g.channels c h refl e
by_groups d (g ∷ k ∷ gs) c h e = absurd (none≢some e)

alone_back : (d : DataGroup) (c : FileColumn) → alone d ≡ some c → Alone d c
unfolding alone
alone_back d c e = by_groups d d.groups c refl e

-- ---- every column is one of a DG
pub record OfDG (s : List ℕ) (d : DataGroup) (c : FileColumn) : Type 0 where
  pub alone : Alone d c
  pub form : Formed s c

of-dg : (s : List ℕ) (d : DataGroup) (c : FileColumn) → column_in s d ≡ ok c → OfDG s d c
unfolding column_in
of-dg s d c e = go (alone d) refl e
  where
    of : (k : FileColumn) → alone d ≡ some k → (t : Bool) → formed s k ≡ t → pick t (ok k) (refused 24 0) ≡ ok c → OfDG s d c
    of k q true f h = subst (OfDG s d) (ok_same h) (record { alone = alone_back d k q; form = formed_back s k f })
    of k q false f h = absurd (refused≢ok h)

    go : (o : Option FileColumn) → alone d ≡ o → on_column o (refused 24 0) (λ k. pick (formed s k) (ok k) (refused 24 0)) ≡ ok c → OfDG s d c
    go none q h = absurd (refused≢ok h)
    go (some k) q h = of k q (formed s k) refl h

-- DG by DG
data EachDG (s : List ℕ) : List DataGroup → List FileColumn → Type 0 where
  no_more : EachDG s [] []
  and_more : {d : DataGroup} {ds : List DataGroup} {c : FileColumn} {cs : List FileColumn} → OfDG s d c → EachDG s ds cs → EachDG s (d ∷ ds) (c ∷ cs)

each-dg : (s : List ℕ) (ds : List DataGroup) (cs : List FileColumn) → columns_in s ds ≡ ok cs → EachDG s ds cs
unfolding columns_in
each-dg s [] cs e = subst (EachDG s []) (ok_same e) no_more
each-dg s (d ∷ ds) cs e =
    let a = then_ok (column_in s d) _ e in
    let b = then_ok (columns_in s ds) _ a.2 in
    subst (EachDG s (d ∷ ds)) (ok_same b.2) (and_more (of-dg s d a.0 a.1) (each-dg s ds b.0 b.1))

each-many : {s : List ℕ} {ds : List DataGroup} {cs : List FileColumn} → EachDG s ds cs → length cs ≡ length ds
each-many no_more = refl
each-many (and_more o m) = ap suc (each-many m)

each-blocks : {s : List ℕ} {ds : List DataGroup} {cs : List FileColumn} → EachDG s ds cs → all_fragments cs ≡ groupFragments ds
unfolding all_fragments groupFragments
each-blocks no_more = refl
each-blocks (and_more {d} {ds} {c} {cs} o m) = rw (each-blocks m, o.alone.fragments)

-- the DG of a column
record From (s : List ℕ) (ds : List DataGroup) (c : FileColumn) : Type 0 where
  group : DataGroup
  is_in : In group ds
  is : OfDG s group c

each_from : {s : List ℕ} {ds : List DataGroup} {cs : List FileColumn} → EachDG s ds cs → {c : FileColumn} → In c cs → From s ds c
each_from {s = s} no_more {c = c} x4 = elim x4 [ ]
each_from (and_more {d} o m) here = record { group = d; is_in = here; is = o }
each_from (and_more o m) (there i) = let r = each_from m i in record { group = r.group; is_in = there r.is_in; is = r.is }

-- ---- a chain from no block on
from-none : (turns : ℕ) (s : List ℕ) (n : ℕ) (seen : List ℕ) (a : ℕ) (fs gs : List Fragment) → a ≡ 0
    → chain_from records file_limits turns s n seen a fs ≡ found gs → fs ≡ gs
unfolding chain_from
from-none zero s n seen a fs gs z e = absurd (stopped≢found e)
from-none (suc turns) s n seen a fs gs z e = found-same (eq_yes _ _ _ _ z refl ∙ e)

chain-none : (s : List ℕ) (n a : ℕ) (fs : List Fragment) → a ≡ 0 → chain records file_limits s n a ≡ found fs → fs ≡ []
unfolding chain
chain-none s n a fs z e = sym (from-none _ s n [] a [] fs z e)

-- ---- a column
pub record ColumnFacts (s : List ℕ) (c : FileColumn) : Type 0 where
  pub dg_block : block_at DG s c.dg ≡ fine
  pub cg_block : block_at CG s c.cg ≡ fine
  pub cn_block : block_at CN s c.cn ≡ fine
  pub dg_group : link_at s c.dg 1 ≡ c.cg
  pub cg_channel : link_at s c.cg 1 ≡ c.cn
  pub form : Formed s c
  pub ranges : ranges_in s c.fragments ≡ fine
  -- "each but the last has the DL's length"; without a DL there are no blocks
  pub no_blocks : link_at s c.dg 2 ≡ 0 → c.fragments ≡ []
  pub chained : (n : ℕ) × (chain records file_limits s n (link_at s c.dg 2) ≡ found c.fragments)
  pub lengths : have_length (equal_length s (link_at s c.dg 2)) c.fragments ≡ true

-- blocks of a DL, or none
have_none : (n : ℕ) (fs : List Fragment) → fs ≡ [] → have_length n fs ≡ true
unfolding have_length
have_none n fs e = rw e

list_lengths : (s : List ℕ) (a : ℕ) (fs : List Fragment) → list_formed s a fs ≡ true → have_length (equal_length s a) fs ≡ true
unfolding list_formed
list_lengths s a fs e =
    let b = both_back (eqb (kind_at s a) kind_dl) _ e in
    let k = both_back (links_formed s a) _ b.1 in
    let n = both_back (is_equal_length s a) _ k.1 in
    (both_back (have_length (equal_length s a) fs) true n.1).0

form_lengths : (s : List ℕ) (c : FileColumn) → Formed s c → (link_at s c.dg 2 ≡ 0 → c.fragments ≡ [])
    → have_length (equal_length s (link_at s c.dg 2)) c.fragments ≡ true
form_lengths s c f z =
    eq_cases (link_at s c.dg 2) 0 _ _ f.list (λ q _. have_none _ c.fragments (z q)) (λ _ e. list_lengths s _ c.fragments e)

-- the fragments of a DG are among those whose ranges were tested
ranges_front : (s : List ℕ) (fs gs : List Fragment) → ranges_in s (fs ++ gs) ≡ fine → (ranges_in s fs ≡ fine) × (ranges_in s gs ≡ fine)
unfolding ranges_in
ranges_front s [] gs e = (refl, e)
ranges_front s (f ∷ fs) gs e =
    let r = ranges_cons s f (fs ++ gs) e in
    let m = ranges_front s fs gs r.1 in
    (ranges_in_lem s f fs r.0 m.0, m.1)

ranges_each : (s : List ℕ) (cs : List FileColumn) → ranges_in s (all_fragments cs) ≡ fine → {c : FileColumn} → In c cs
    → ranges_in s c.fragments ≡ fine
unfolding all_fragments
ranges_each s [] e {c = c} x'' = elim x'' [ ]
ranges_each s (c ∷ cs) e here = (ranges_front s c.fragments (all_fragments cs) e).0
ranges_each s (c ∷ cs) e (there i) = ranges_each s cs (ranges_front s c.fragments (all_fragments cs) e).1 i

-- a CG chain, and a CN chain, of one block
one-group : (s : List ℕ) (a : ℕ) (gs : List Group) (g : Group) → gs ≡ g ∷ [] → Chained s a (addresses gs) → a ≡ g.at
unfolding addresses Chained
one-group s a gs g e h = let k : Chained s a (addresses (g ∷ [])) = rw e at h in k.0

one-channel : (s : List ℕ) (a : ℕ) (c : ℕ) → Chained s a (c ∷ []) → a ≡ c
unfolding Chained
one-channel s a c h = h.0

module _ (s : List ℕ) (d : DataGroup) (c : FileColumn) (o : OfDG s d c) (f : DataGroupFine s d) (l : LinkedOf file_limits s d) where
  abbrev only : Group
  only = record { at = c.cg; channels = c.cn ∷ [] }

  only_in : In only d.groups
  only_in = rw o.alone.groups here

  no_blocks_lem : link_at s c.dg 2 ≡ 0 → c.fragments ≡ []
  no_blocks_lem z =
      sym o.alone.fragments
      ∙ chain-none s l.fragments.0 (link_at s d.at 2) d.fragments (ap (λ (a : ℕ). link_at s a 2) o.alone.at ∙ z) l.fragments.1

  facts : ranges_in s c.fragments ≡ fine → ColumnFacts s c
  facts r =
      record {
        dg_block = rw o.alone.at at f.block;
        cg_block = (f.groups only only_in).block;
        cn_block = (f.groups only only_in).channels c.cn here;
        dg_group = ap (λ (a : ℕ). link_at s a 1) (sym o.alone.at) ∙ one-group s _ d.groups only o.alone.groups l.groups;
        cg_channel = one-channel s _ c.cn (l.channels only only_in);
        form = o.form;
        ranges = r;
        no_blocks = no_blocks_lem;
        chained = (l.fragments.0, ap (λ (a : ℕ). chain records file_limits s l.fragments.0 (link_at s a 2)) (sym o.alone.at) ∙ l.fragments.1 ∙ ap found o.alone.fragments);
        lengths = form_lengths s c o.form no_blocks_lem;
      }

-- ---- the file
pub record OpenedFacts (s : List ℕ) (all : List FileColumn) : Type 0 where
  pub ident : identified s ≡ fine
  pub header : block_at HD s 64 ≡ fine
  pub each : (c : FileColumn) → In c all → ColumnFacts s c
  pub few : length all ≤ most_items
  pub few_blocks : length (all_fragments all) ≤ file_limits.fragments

walk-header : (s : List ℕ) (st : Source) → walk_of file_limits s ≡ ok st → block_at HD s 64 ≡ fine
unfolding walk_of
walk-header s st e = (then_fine (block_at HD s 64) _ e).0

pub opened_facts : (s : List ℕ) (all : List FileColumn) → opened s ≡ ok all → OpenedFacts s all
unfolding opened data_groups
opened_facts s all e =
    let a = then_fine (identified s) _ e in
    let b = then_ok (walk_of file_limits s) _ a.1 in
    let r = then_fine (ranges_in s b.0.fragments) _ b.2 in
    of-walk a.0 b.0 b.1 r.0 (each-dg s (data_groups b.0) all r.1)
  where
    of-walk : identified s ≡ fine → (st : Source) → walk_of file_limits s ≡ ok st → ranges_in s st.fragments ≡ fine
        → EachDG s (data_groups st) all → OpenedFacts s all
    of-walk i st w r m =
        let h = walk_of_sound file_limits s st w in
        let blocks : all_fragments all ≡ st.fragments = each-blocks m ∙ sym (walk_of_fragments file_limits s st w) in
        record {
          ident = i;
          header = walk-header s st w;
          each = λ c j.
              let o = each_from m j in
              facts s o.group c o.is (data_groups_fine s st.fragments st.items h.checked o.group o.is_in)
              ((walk_of_linked file_limits s st w).linked o.group o.is_in) (ranges_each s all (rw blocks r) j);
          few = omega (arith, each-many m, few_data_groups st.fragments st.items, h.few_dg);
          few_blocks = omega (arith, ap length blocks, h.few_fragments);
        }
