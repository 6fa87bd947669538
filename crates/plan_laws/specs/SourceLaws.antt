-- The groups with their counts, as planning takes them: where each comes from, and that addresses tell them apart.
use Rattle.std.specs.Prelude.{ℕ, suc, ◌+◌, ◌≤◌, ◌<◌, List, [], ◌∷◌, ◌++◌, ◌≡◌, refl, ◌⊎◌, length, get_or}
use Rattle.std.proofs.Math.Option.{some}
use Rattle.std.proofs.Common.{sym, ◌∙◌, inl, inr, arith, length-append, drop_at}
use Rattle.std.proofs.Math.Path.{ap}
use Rattle.std.proofs.Math.ListN.{get_or-append}
use Rattle.base.specs.Checked.{ok, fine}
use Rattle.mdf.specs.Block.{CG, CN, block_at}
use Rattle.mdf.specs.Chain.{limits}
use Rattle.mdf.specs.Walk.{cg, cn, Source, walk}
use Rattle.mdf.specs.Group.{Group, DataGroup, addresses, data_groups_of, data_groups}
use Rattle.mdf.specs.Count.{count_groups, counts}
use Rattle.plan.specs.Columns.{SrcGroup, with_counts, src_groups}
use Rattle.result.specs.Member.{In, here, there}
use Rattle.result.specs.Recording.{group_places, counted_places, group_number, Recorded, Met}
use Rattle.plan_laws.specs.Lists.{in_left, in_right, in_cases, in_none, same_yes, occurs, occurs-append, occurs_in}
use Rattle.plan_laws.specs.WalkLaws.{Sound, walk-sound, walk_open}
use Rattle.plan_laws.specs.LinkLaws.{Walked, walk_linked}
use Rattle.plan_laws.specs.OrderLaws.{walk_of_follows, cn_is_in}
use Rattle.plan_laws.specs.GroupLaws.{all_addresses, all_channels, dg_addresses, group_count, DataGroupFine, Counted, no_more, and_more, counts-counted, counted-length, count_length, addresses-length, groups_occurs, data_groups_fine, data_groups_met, cg_is_in, few_channels_lem, few_groups_lem, few_data_groups}

-- ---- one group and its count
pub record Numbered (d : DataGroup) (k : ℕ) (gs : List Group) (ns : List ℕ) (g : SrcGroup) : Type 0 where
  pub index : ℕ
  pub within : index < length gs
  pub of_dg : g.data_group ≡ d
  pub number : g.number ≡ k + index
  pub place : get_or (addresses gs) index 0 ≡ g.at
  pub records : get_or ns index 0 ≡ g.records
  pub group : Group
  pub group_in : In group gs
  pub same_at : group.at ≡ g.at
  pub same_channels : group.channels ≡ g.channels
  pub named : group_number index gs ≡ some (record { at = g.at; channels = g.channels })

numbered : (d : DataGroup) (k : ℕ) (gs : List Group) (ns : List ℕ) (g : SrcGroup) → In g (with_counts d k gs ns) → Numbered d k gs ns g
unfolding with_counts addresses group_number
numbered d k [] ns g i = absurd (in_none i)
numbered d k (h ∷ gs) [] g i = absurd (in_none i)
numbered d k (h ∷ gs) (n ∷ ns) g here =
    record { index = 0; within = omega arith; of_dg = refl; number = omega arith; place = refl; records = refl; group = h; group_in = here; same_at = refl; same_channels = refl; named = refl }
numbered d k (h ∷ gs) (n ∷ ns) g (there i) =
    let r = numbered d (k + 1) gs ns g i in
    record {
      index = suc r.index;
      within = omega arith;
      of_dg = r.of_dg;
      number = omega (arith, r.number);
      place = r.place;
      records = r.records;
      group = r.group;
      group_in = there r.group_in;
      same_at = r.same_at;
      same_channels = r.same_channels;
      named = r.named;
    }

-- where a group with its count comes from
pub record Origin (s : List ℕ) (ds : List DataGroup) (g : SrcGroup) : Type 0 where
  pub data_group_in : In g.data_group ds
  pub group : Group
  pub group_in : In group g.data_group.groups
  pub same_at : group.at ≡ g.at
  pub same_channels : group.channels ≡ g.channels
  pub named : group_number g.number g.data_group.groups ≡ some (record { at = g.at; channels = g.channels })
  pub numbered : g.number < length (addresses g.data_group.groups)
  pub place : get_or (addresses g.data_group.groups) g.number 0 ≡ g.at
  pub numbers : List ℕ
  pub counted : count_groups s g.data_group.at (addresses g.data_group.groups) g.data_group.fragments ≡ ok numbers
  pub records : get_or numbers g.number 0 ≡ g.records

origin_here : (s : List ℕ) (d : DataGroup) (ds : List DataGroup) (ms rest : List ℕ) (g : SrcGroup) → Numbered d 0 d.groups (ms ++ rest) g
    → count_groups s d.at (addresses d.groups) d.fragments ≡ ok ms → Origin s (d ∷ ds) g
origin_here s d ds ms rest g r c =
    let n : g.number ≡ r.index = omega (arith, r.number) in
    let e : length (addresses d.groups) ≡ length d.groups = addresses-length d.groups in
    let l : r.index < length ms = omega (arith, r.within, count_length s d.at (addresses d.groups) d.fragments ms c) in
    record {
      data_group_in = rw r.of_dg here;
      group = r.group;
      group_in = rw r.of_dg r.group_in;
      same_at = r.same_at;
      same_channels = r.same_channels;
      named = rw (r.of_dg, n) r.named;
      numbered = rw r.of_dg (omega (arith, r.within));
      place = rw (r.of_dg, n) r.place;
      numbers = ms;
      counted = rw r.of_dg c;
      records = rw n (sym (get_or-append ms rest 0 r.index l) ∙ r.records);
    }

origin_later : {s : List ℕ} {d : DataGroup} {ds : List DataGroup} {g : SrcGroup} → Origin s ds g → Origin s (d ∷ ds) g
origin_later r =
    record {
      data_group_in = there r.data_group_in;
      group = r.group;
      group_in = r.group_in;
      same_at = r.same_at;
      same_channels = r.same_channels;
      named = r.named;
      numbered = r.numbered;
      place = r.place;
      numbers = r.numbers;
      counted = r.counted;
      records = r.records;
    }

-- the groups of the first DG, then those of the others
src_cons : (s : List ℕ) (d : DataGroup) (ds : List DataGroup) (ms rest : List ℕ)
    → count_groups s d.at (addresses d.groups) d.fragments ≡ ok ms
    → src_groups (d ∷ ds) (ms ++ rest) ≡ with_counts d 0 d.groups (ms ++ rest) ++ src_groups ds rest
unfolding src_groups
src_cons s d ds ms rest c =
    let e : length ms ≡ length d.groups = count_length s d.at (addresses d.groups) d.fragments ms c ∙ addresses-length d.groups in
    ap (λ (l : List ℕ). with_counts d 0 d.groups (ms ++ rest) ++ src_groups ds l) (drop_at ms rest (length d.groups) e)

pub origin : (s : List ℕ) (ds : List DataGroup) (ns : List ℕ) → Counted s ds ns → (g : SrcGroup) → In g (src_groups ds ns) → Origin s ds g
unfolding src_groups
origin s [] ns no_more g i = absurd (in_none i)
origin s (d ∷ ds) ns (and_more ms rest e c r) g i =
    go (origin s ds rest r g) (in_cases (with_counts d 0 d.groups (ms ++ rest)) (rw (e, src_cons s d ds ms rest c) at i))
  where
    go : (In g (src_groups ds rest) → Origin s ds g) → In g (with_counts d 0 d.groups (ms ++ rest)) ⊎ In g (src_groups ds rest) → Origin s (d ∷ ds) g
    go ih (inl j) = origin_here s d ds ms rest g (numbered d 0 d.groups (ms ++ rest) g j) c
    go ih (inr j) = origin_later (ih j)

-- ---- every group of a DG is there
pub record SrcAt (d : DataGroup) (h : Group) (gs : List SrcGroup) : Type 0 where
  pub source : SrcGroup
  pub is_in : In source gs
  pub of_dg : source.data_group ≡ d
  pub at : source.at ≡ h.at
  pub channels : source.channels ≡ h.channels

with_counts_has : (d : DataGroup) (k : ℕ) (gs : List Group) (ns : List ℕ) → length gs ≤ length ns → (h : Group) → In h gs → SrcAt d h (with_counts d k gs ns)
unfolding with_counts
with_counts_has d k [] ns l h i = absurd (in_none i)
with_counts_has d k (g ∷ gs) [] l h i = absurd (omega arith)
with_counts_has d k (g ∷ gs) (n ∷ ns) l h here = record { source = _; is_in = here; of_dg = refl; at = refl; channels = refl }
with_counts_has d k (g ∷ gs) (n ∷ ns) l h (there i) =
    let r = with_counts_has d (k + 1) gs ns (omega arith) h i in
    record { source = r.source; is_in = there r.is_in; of_dg = r.of_dg; at = r.at; channels = r.channels }

pub src_has : (s : List ℕ) (ds : List DataGroup) (ns : List ℕ) → Counted s ds ns → (d : DataGroup) → In d ds → (h : Group) → In h d.groups
    → SrcAt d h (src_groups ds ns)
src_has s [] ns no_more d i h j = absurd (in_none i)
src_has s (d ∷ ds) ns (and_more ms rest e c r) d' here h j =
    let l : length d.groups ≤ length (ms ++ rest) =
    rw length-append (omega (arith, count_length s d.at (addresses d.groups) d.fragments ms c, addresses-length d.groups)) in
    let t = with_counts_has d 0 d.groups (ms ++ rest) l h j in
    rw (e, src_cons s d ds ms rest c) (record { source = t.source; is_in = in_left (src_groups ds rest) t.is_in; of_dg = t.of_dg; at = t.at; channels = t.channels })
src_has s (d ∷ ds) ns (and_more ms rest e c r) d' (there i) h j =
    let t = src_has s ds rest r d' i h j in
    rw (e, src_cons s d ds ms rest c)
    (record { source = t.source; is_in = in_right (with_counts d 0 d.groups (ms ++ rest)) t.is_in; of_dg = t.of_dg; at = t.at; channels = t.channels })

-- ---- in file order
counted-append : (gs hs : List SrcGroup) → counted_places (gs ++ hs) ≡ counted_places gs ++ counted_places hs
unfolding counted_places
counted-append [] hs = refl
counted-append (g ∷ gs) hs = ap (λ (l : List ℕ). g.at ∷ l) (counted-append gs hs)

with_counts_places : (d : DataGroup) (k : ℕ) (gs : List Group) (ns : List ℕ) → length gs ≤ length ns → counted_places (with_counts d k gs ns) ≡ addresses gs
unfolding with_counts counted_places addresses
with_counts_places d k [] ns l = refl
with_counts_places d k (g ∷ gs) [] l = absurd (omega arith)
with_counts_places d k (g ∷ gs) (n ∷ ns) l = ap (λ (m : List ℕ). g.at ∷ m) (with_counts_places d (k + 1) gs ns (omega arith))

pub src_places : (s : List ℕ) (ds : List DataGroup) (ns : List ℕ) → Counted s ds ns → counted_places (src_groups ds ns) ≡ group_places ds
unfolding group_places src_groups counted_places
src_places s [] ns no_more = refl
src_places s (d ∷ ds) ns (and_more ms rest e c r) =
    let l : length d.groups ≤ length (ms ++ rest) =
    rw length-append (omega (arith, count_length s d.at (addresses d.groups) d.fragments ms c, addresses-length d.groups)) in
    ap (λ (n : List ℕ). counted_places (src_groups (d ∷ ds) n)) e ∙ ap counted_places (src_cons s d ds ms rest c)
    ∙ counted-append (with_counts d 0 d.groups (ms ++ rest)) (src_groups ds rest)
    ∙ ap (λ (m : List ℕ). m ++ counted_places (src_groups ds rest)) (with_counts_places d 0 d.groups (ms ++ rest) l)
    ∙ ap (λ (m : List ℕ). addresses d.groups ++ m) (src_places s ds rest r)

-- ---- all that is known of the groups of a walk
pub record SourceFine (s : List ℕ) (g : SrcGroup) : Type 0 where
  pub data_group : DataGroupFine s g.data_group
  pub block : block_at CG s g.at ≡ fine
  pub channels : (c : ℕ) → In c g.channels → block_at CN s c ≡ fine

-- an address of a CG of the walk, as a group
pub record SrcGroupAt (a : ℕ) (gs : List SrcGroup) : Type 0 where
  pub group : SrcGroup
  pub is_in : In group gs
  pub at : group.at ≡ a

pub record Groups (s : List ℕ) (st : Source) (ns : List ℕ) (gs : List SrcGroup) : Type 0 where
  -- as many counts as groups
  pub counted : Counted s (data_groups st) ns
  pub as_many : length ns ≡ group_count (data_groups st)
  -- every address of a DG, a group or a channel stands in one place only, and none is 0
  pub once : (x : ℕ) → occurs x (dg_addresses (data_groups st)) + occurs x (all_addresses gs) ≤ 1
  pub nonzero : occurs 0 (all_addresses gs) ≡ 0
  -- the groups are what links list; every CG of the walk is a group, every CN a channel, and there are no others
  pub recorded : Recorded s (data_groups st) gs
  pub met : Met st gs
  -- every group comes from a DG of the walk, with its count; their blocks passed their checks
  pub origins : (g : SrcGroup) → In g gs → Origin s (data_groups st) g
  pub complete : (a : ℕ) → In (cg a) st.items → SrcGroupAt a gs
  pub checked_dg : (d : DataGroup) → In d (data_groups st) → DataGroupFine s d
  pub checked : (g : SrcGroup) → In g gs → SourceFine s g
  -- limits
  pub few_dg : length (data_groups st) ≤ 512
  pub few_groups : length gs ≤ 512
  pub few_channels : length (all_channels gs) ≤ 512
  pub few_fragments : length st.fragments ≤ 1024

source-fine : (s : List ℕ) (ds : List DataGroup) → ((d : DataGroup) → In d ds → DataGroupFine s d) → (g : SrcGroup) → Origin s ds g → SourceFine s g
source-fine s ds h g o =
    let d = h g.data_group o.data_group_in in
    let f = d.groups o.group o.group_in in
    record { data_group = d; block = rw o.same_at at f.block; channels = λ c i. f.channels c (rw o.same_channels i) }

pub groups_known : (s : List ℕ) (st : Source) (ns : List ℕ) → walk s ≡ ok st → counts s (data_groups st) ≡ ok ns
    → Groups s st ns (src_groups (data_groups st) ns)
unfolding data_groups
groups_known s st ns w k =
    record {
      counted = c;
      as_many = counted-length s ds ns c;
      once = λ x. omega (arith, groups_occurs st.fragments st.items ns x, h.once x);
      nonzero = omega (arith, groups_occurs st.fragments st.items ns 0, h.nonzero);
      recorded = record {
        data_groups = links.chained;
        linked = links.linked;
        groups = src_places s ds ns c;
        each = λ g i. ((from g i).data_group_in, (from g i).named);
      };
      met = record {
        groups = λ a i. let r = all a i in (r.group, r.is_in, r.at);
        channels = λ a i. all_cn a i;
        no_other = back;
      };
      origins = from;
      complete = all;
      checked_dg = fine_dg;
      checked = λ g i. source-fine s ds fine_dg g (from g i);
      few_dg = omega (arith, few_data_groups st.fragments st.items, h.few_dg);
      few_groups = omega (arith, few_groups_lem st.fragments st.items ns, h.few_cg);
      few_channels = omega (arith, few_channels_lem st.fragments st.items ns, h.few_cn);
      few_fragments = h.few_fragments;
    }
  where
    ds : List DataGroup
    ds = data_groups_of st.fragments st.items

    h : Sound s st
    h = walk-sound s st w

    links : Walked s ds
    links = walk_linked s st w

    c : Counted s ds ns
    c = counts-counted s ds ns k

    fine_dg : (d : DataGroup) → In d ds → DataGroupFine s d
    fine_dg = data_groups_fine s st.fragments st.items h.checked

    from : (g : SrcGroup) → In g (src_groups ds ns) → Origin s ds g
    from = origin s ds ns c

    all : (a : ℕ) → In (cg a) st.items → SrcGroupAt a (src_groups ds ns)
    all a i =
        let r = cg_is_in st.fragments a st.items (walk_open s st w) i in
        let t = src_has s ds ns c r.data_group r.is_in r.group.group r.group.is_in in
        record { group = t.source; is_in = t.is_in; at = t.at ∙ r.group.at }

    all_cn : (a : ℕ) → In (cn a) st.items → (g : SrcGroup) × In g (src_groups ds ns) × In a g.channels
    all_cn a i =
        let r = cn_is_in st.fragments a st.items (walk_open s st w) (walk_of_follows limits s st w) i in
        let t = src_has s ds ns c r.data_group r.is_in r.group r.group_in in
        (t.source, t.is_in, rw t.channels r.channel_in)

    back : (g : SrcGroup) → In g (src_groups ds ns) → In (cg g.at) st.items × ((x : ℕ) → In x g.channels → In (cn x) st.items)
    back g i =
        let o = from g i in
        let m = data_groups_met st.fragments st.items g.data_group o.data_group_in o.group o.group_in in
        (rw o.same_at at m.group, λ x j. m.channels x (rw o.same_channels j))

-- ---- addresses tell groups and channels apart

-- the addresses of a group and of its channels
abbrev pub own_addresses : SrcGroup → List ℕ
own_addresses g = g.at ∷ g.channels

pub own-within : (x : ℕ) (gs : List SrcGroup) {g : SrcGroup} → In g gs → occurs x (own_addresses g) ≤ occurs x (all_addresses gs)
unfolding all_addresses
own-within x [] {g = g} x'' = elim x'' [ ]
own-within x (h ∷ gs) here = omega (arith, occurs-append x (own_addresses h) (all_addresses gs))
own-within x (h ∷ gs) (there i) = omega (arith, occurs-append x (own_addresses h) (all_addresses gs), own-within x gs i)

-- groups that share an address are one
pub one-group : (gs : List SrcGroup) → ((x : ℕ) → occurs x (all_addresses gs) ≤ 1) → {g h : SrcGroup} → In g gs → In h gs
    → (x : ℕ) → In x (own_addresses g) → In x (own_addresses h) → g ≡ h
unfolding all_addresses
one-group [] once {g = g} {h = h} x7 _ x i j = elim x7 [ ]
one-group (k ∷ gs) once here here x i j = refl
one-group (k ∷ gs) once {h = h} here (there b) x i j =
    absurd (omega (
      arith,
      once x,
      occurs-append x (own_addresses k) (all_addresses gs),
      occurs_in x (own_addresses k) i,
      occurs_in x (own_addresses h) j,
      own-within x gs b,
    ))
one-group (k ∷ gs) once {g = g} (there a) here x i j =
    absurd (omega (
      arith,
      once x,
      occurs-append x (own_addresses k) (all_addresses gs),
      occurs_in x (own_addresses k) j,
      occurs_in x (own_addresses g) i,
      own-within x gs a,
    ))
one-group (k ∷ gs) once (there a) (there b) x i j =
    one-group gs (λ y. omega (arith, once y, occurs-append y (own_addresses k) (all_addresses gs))) a b x i j

module _ (gs : List SrcGroup) (once : (x : ℕ) → occurs x (all_addresses gs) ≤ 1) where
  pub group_unique : {g h : SrcGroup} → In g gs → In h gs → g.at ≡ h.at → g ≡ h
  group_unique {g} {h} a b e = one-group gs once a b g.at here (rw e here)

  pub channel-group : {g h : SrcGroup} (c : ℕ) → In g gs → In h gs → In c g.channels → In c h.channels → g ≡ h
  channel-group c a b i j = one-group gs once a b c (there i) (there j)

  -- a channel stands once in its group, and its address is no group's
  pub channel_once : {g : SrcGroup} (c : ℕ) → In g gs → In c g.channels → occurs c g.channels ≡ 1
  unfolding occurs
  channel_once {g} c a i = omega (arith, once c, own-within c gs a, occurs_in c g.channels i)

  pub channel_no_group : {g h : SrcGroup} (c : ℕ) → In g gs → In c g.channels → In h gs → h.at ≡ c → ⊥
  unfolding occurs
  channel_no_group {g} {h} c a i b e =
      let q : h ≡ g = one-group gs once b a h.at here (there (rw e i)) in
      let p : g.at ≡ c = ap (λ (k : SrcGroup). k.at) (sym q) ∙ e in
      omega (arith, once c, own-within c gs a, occurs_in c g.channels i, same_yes g.at c p)
