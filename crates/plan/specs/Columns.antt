-- Which columns and omissions a recording gets (document 01, columns and omissions).
use Rattle.std.specs.Prelude.{ℕ, ◌+◌, List, [], ◌∷◌, ◌++◌, Bool, true, false, length, drop, eqb}
use Rattle.std.proofs.Math.Option.{Option, none, some}
use Rattle.base.specs.Choice.{pick, if_lt, if_eq}
use Rattle.base.specs.Checked.{Checked, ok, refused, and_then, Verdict, fine}
use Rattle.mdf.specs.Block.{kind, kind_cg, kind_cn, kind_at, links_at, link_at, header_in}
use Rattle.mdf.specs.Chain.{Fragment, Chain.signal, Found, found, stopped, limits, chain}
use Rattle.mdf.specs.Group.{Group, DataGroup, group_flags, is_storage}
use Rattle.plan.specs.Rules.{Rules}
use Rattle.plan.specs.Table.{treatment}
use Rattle.plan.specs.Channel.{channel_type, fits, is_master_type, bit, both}
use Rattle.plan.specs.Photos.{photos_of, photos_in}

-- "CN link 2 leads to CA"
abbrev pub kind_ca : ℕ
kind_ca = kind "C" "A"

-- bookkeeping: a group with its DG, its number among the DG's groups, and its count of records
pub record SrcGroup : Type 0 where
  pub data_group : DataGroup
  pub number : ℕ
  pub at : ℕ
  pub channels : List ℕ
  pub records : ℕ

-- bookkeeping: the groups of a DG, from number k on, with the counts in front of ns
unfoldable pub with_counts : DataGroup → ℕ → List Group → List ℕ → List SrcGroup
with_counts d k [] ns = []
with_counts d k (g ∷ gs) [] = []
with_counts d k (g ∷ gs) (n ∷ ns) =
    record { data_group = d; number = k; at = g.at; channels = g.channels; records = n } ∷ with_counts d (k + 1) gs ns

-- "groups in file order": all groups in the order of the walk
unfoldable pub src_groups : List DataGroup → List ℕ → List SrcGroup
src_groups [] ns = []
src_groups (d ∷ ds) ns = with_counts d 0 d.groups ns ++ src_groups ds (drop (length d.groups) ns)

-- ---- masters

-- "its first fitting channel of type 2 or 3"
unfoldable pub first_master : List ℕ → ℕ → List ℕ → Option ℕ
first_master s g [] = none
first_master s g (c ∷ cs) = let later = first_master s g cs in pick (both (is_master_type s c) (fits s g c)) (some c) later

-- "A group's master is its first fitting channel of type 2 or 3 .. VLSD storage groups (flag bit 0) have no master and no column."
unfoldable pub master_of : List ℕ → SrcGroup → Option ℕ
master_of s g = pick (is_storage s g.at) none (first_master s g.at g.channels)

-- "the group at its remote link (flag bit 3, seventh link)", 0 for none
unfoldable pub remote_link : List ℕ → ℕ → ℕ
remote_link s g = if_eq (bit 3 (group_flags s g)) 1 (if_lt 6 (links_at s g) (link_at s g 6) 0) 0

-- the group at an address
unfoldable pub group_at : ℕ → List SrcGroup → Option SrcGroup
group_at a [] = none
group_at a (g ∷ gs) = let later = group_at a gs in if_eq g.at a (some g) later

-- bookkeeping: whose master a group has or uses: its own, that of its remote group with as many records, or the one that stands for it; none; or the
-- remote group's counts differ (reason 1)
pub data TimeOf : Type 0 where
  time : SrcGroup → ℕ → TimeOf
  untimed : TimeOf
  differs : TimeOf

-- bookkeeping: what follows a master, or a group, that is there
abbrev pub on_master : {A : Type 0} → Option ℕ → A → (ℕ → A) → A
on_master none a f = a
on_master (some m) a f = f m

abbrev pub on_group : {A : Type 0} → Option SrcGroup → A → (SrcGroup → A) → A
on_group none a f = a
on_group (some g) a f = f g

-- bookkeeping: bys has for each group the CG of the group whose master stands for its own (document 02, request 8), 0 for none: that of the group at a
unfoldable pub stand_in : ℕ → List SrcGroup → List ℕ → ℕ
stand_in a [] bys = 0
stand_in a (g ∷ gs) [] = 0
stand_in a (g ∷ gs) (b ∷ bys) = let later = stand_in a gs bys in if_eq g.at a b later

-- "The first group in file order .. stands for its equals": the master m of group t, or the one that stands for it, "which the signals that have or use
-- it name"
unfoldable pub standing : List ℕ → List SrcGroup → List ℕ → SrcGroup → ℕ → TimeOf
standing s all bys t m =
    let other = on_group (group_at (stand_in t.at all bys) all) untimed (λ u. on_master (master_of s u) untimed (λ k. time u k)) in
    if_eq (stand_in t.at all bys) 0 (time t m) other

-- "Without one, the group uses the master of the group at its remote link if both counts agree."
unfoldable pub remote_time : List ℕ → List SrcGroup → List ℕ → SrcGroup → TimeOf
remote_time s all bys g =
    on_group (group_at (remote_link s g.at) all) untimed (λ t.
    on_master (master_of s t) untimed (λ m. if_eq t.records g.records (standing s all bys t m) differs))

-- the group's own master first
unfoldable pub time_of : List ℕ → List SrcGroup → List ℕ → SrcGroup → TimeOf
time_of s all bys g = let remote = remote_time s all bys g in on_master (master_of s g) remote (λ m. standing s all bys g m)

-- ---- columns

-- "Any other nonzero link 6 of type 1 is an SD chain": signal data of a type 1 channel is its fragments
pub data Signal : Type 0 where
  no_signal : Signal
  signal_data : List Fragment → Signal

-- bookkeeping: a planned column: the group and the channel it comes from, whether it is a time column, the column of its master, its signal data, the
-- references to attachments that it keeps
pub record Column : Type 0 where
  pub group : SrcGroup
  pub channel : ℕ
  pub is_time_lem : Bool
  pub master : Option ℕ
  pub signal_of : Signal
  pub photos : List ℕ

-- "n addresses, then n reasons": of one omission
pub record Omission : Type 0 where
  pub at : ℕ
  pub reason : ℕ

-- bookkeeping: what is planned so far, and the fragments found so far in the image
pub record Plan : Type 0 where
  pub columns : List Column
  pub omissions : List Omission
  pub fragments : ℕ

-- bookkeeping: a column more, with n fragments of signal data; an omission more
abbrev pub with_column : Column → ℕ → Plan → Plan
with_column c n p = record { columns = p.columns ++ (c ∷ []); omissions = p.omissions; fragments = p.fragments + n }

abbrev pub with_omission : ℕ → ℕ → Plan → Plan
with_omission a r p = record { columns = p.columns; omissions = p.omissions ++ (record { at = a; reason = r } ∷ []); fragments = p.fragments }

-- "where first needed": the number of the time column of the group at g, counted from k, if it is planned already
unfoldable pub time_column : ℕ → ℕ → List Column → Option ℕ
time_column g k [] = none
time_column g k (c ∷ cs) = let later = time_column g (k + 1) cs in pick (both c.is_time_lem (eqb c.group.at g)) (some k) later

-- bookkeeping: the first where no column was found, else the second
abbrev pub on_planned : {A : Type 0} → Option ℕ → A → A → A
on_planned none new old = new
on_planned (some k) new old = old

-- bookkeeping: the time column of group t, made of its master m
abbrev pub time_on : Bool → List ℕ → SrcGroup → ℕ → Column
time_on photos s t m = record { group = t; channel = m; is_time_lem = true; master = none; signal_of = no_signal; photos = photos_of photos s m }

-- "A time column is planned where first needed": the plan with the time column of group t, made of its master m
unfoldable pub with_time : Bool → List ℕ → SrcGroup → ℕ → Plan → Plan
with_time photos s t m p = on_planned (time_column t.at 0 p.columns) (with_column (time_on photos s t m) 0 p) p

-- "only planned columns are tested" (28): that time column, where it is planned
unfoldable pub new_time_in : Bool → List ℕ → SrcGroup → ℕ → Plan → Verdict
new_time_in photos s t m p = on_planned (time_column t.at 0 p.columns) (photos_in photos s m) fine

-- bookkeeping: what a channel other than its group's master becomes
pub data Decision : Type 0 where
  omitted : ℕ → Decision
  kept : Signal → Decision

-- bookkeeping: a channel kept with the fragments of its SD chain
abbrev pub kept_signal : Found → Checked Decision
kept_signal (found fs) = ok (kept (signal_data fs))
kept_signal (stopped number place fs) = refused number place

-- ---- why it is omitted: each test gives its reason, 0 where it has none

-- "2 doesn't fit"
unfoldable pub unfit : List ℕ → ℕ → ℕ → ℕ
unfit s g c = pick (fits s g c) 0 2

-- "3 further master"
unfoldable pub further_master : List ℕ → ℕ → ℕ
further_master s c = pick (is_master_type s c) 3 0

-- "4 type 4", which is built in; "Omissions made by a table carry reason 8" (document 02, request 6): whether the type is omitted for reason r
unfoldable pub omitted_type : ℕ → List ℕ → List ℕ → ℕ → ℕ
omitted_type r table s c = if_eq (treatment table (channel_type s c)) r r 0

-- "5 array, CN link 2 leads to CA; 6 structure, it leads to CN"
unfoldable pub composed : List ℕ → ℕ → Checked ℕ
composed s c =
    let led : Checked ℕ = and_then (header_in s (link_at s c 1)) (λ _.
    ok (if_eq (kind_at s (link_at s c 1)) kind_ca 5 (if_eq (kind_at s (link_at s c 1)) kind_cn 6 0))) in
    if_eq (link_at s c 1) 0 (ok 0) led

-- link 6 of a type 1 channel, 0 for any other; "A type 1 channel stored as type 0 loses its signal data ..; its link 6 isn't read, so reason 7 can't arise"
unfoldable pub signal_link : List ℕ → List ℕ → ℕ → ℕ
signal_link table s c = if_eq (channel_type s c) 1 (if_eq (treatment table (channel_type s c)) 2 0 (link_at s c 5)) 0

-- "7 type 1 whose CN link 6 leads to a CG", of that link
unfoldable pub stored_at : List ℕ → ℕ → Checked ℕ
stored_at s a = let led : Checked ℕ = and_then (header_in s a) (λ _. ok (if_eq (kind_at s a) kind_cg 7 0)) in if_eq a 0 (ok 0) led

-- "Any other nonzero link 6 of type 1 is an SD chain"; n fragments were found before
unfoldable pub decide_chain : List ℕ → ℕ → ℕ → Checked Decision
decide_chain s n a = let sd = kept_signal (chain signal limits s n a) in if_eq a 0 (ok (kept no_signal)) sd

-- bookkeeping: omitted for a reason, else what follows
unfoldable pub unless : Checked ℕ → Checked Decision → Checked Decision
unless reason rest = and_then reason (λ r. if_eq r 0 rest (ok (omitted r)))

-- "The type's treatment is now judged before the fit" (document 02, request 7): 4 or 8; then "Reasons, tested in this order": 2, 3, 5, 6, 7. An
-- omitted type's "composition and data links are no longer read". A channel that is kept: 28, "after its omission tests and before its SD chain"
unfoldable pub decide : Bool → List ℕ → List ℕ → ℕ → ℕ → ℕ → Checked Decision
decide photos table s n g c =
    unless (ok (omitted_type 4 table s c))
    (unless (ok (omitted_type 8 table s c))
    (unless (ok (unfit s g c))
    (unless (ok (further_master s c))
    (unless (composed s c)
    (unless (stored_at s (signal_link table s c))
    (and_then (photos_in photos s c) (λ _. decide_chain s n (signal_link table s c))))))))

-- bookkeeping: the fragments of a column's signal data
abbrev pub size_of_signal : Signal → ℕ
size_of_signal no_signal = 0
size_of_signal (signal_data fs) = length fs

-- bookkeeping: the plan with what was decided of channel c, with the references that its column keeps
abbrev pub with_decision : SrcGroup → Option ℕ → ℕ → List ℕ → Plan → Decision → Plan
with_decision g m c refs p (omitted r) = with_omission c r p
with_decision g m c refs p (kept d) =
    with_column (record { group = g; channel = c; is_time_lem = false; master = m; signal_of = d; photos = refs }) (size_of_signal d) p

-- "then the other channels in order": those but the group's own master
unfoldable pub plan_channels : Rules → List ℕ → SrcGroup → ℕ → Option ℕ → List ℕ → Plan → Checked Plan
plan_channels o s g own m [] p = ok p
plan_channels o s g own m (c ∷ cs) p =
    let here =
    and_then (decide o.photos o.table s p.fragments g.at c)
    (λ d. plan_channels o s g own m cs (with_decision g m c (photos_of o.photos s c) p d)) in
    let next = plan_channels o s g own m cs p in
    if_eq c own next here

-- bookkeeping: the group's own master, 0 for none: no channel has address 0
abbrev pub own_master : Option ℕ → ℕ
own_master none = 0
own_master (some m) = m

-- "1 remote master with another count (address of the group's own CG ..)"; "Reason 1 is about a group: its channels still get their own column or omission."
abbrev pub plan_timed : Rules → List ℕ → SrcGroup → TimeOf → Plan → Checked Plan
plan_timed o s g (time t m) p =
    let q = with_time o.photos s t m p in
    and_then (new_time_in o.photos s t m p) (λ _.
    plan_channels o s g (own_master (master_of s g)) (time_column t.at 0 q.columns) g.channels q)
plan_timed o s g untimed p = plan_channels o s g (own_master (master_of s g)) none g.channels p
plan_timed o s g differs p = plan_channels o s g (own_master (master_of s g)) none g.channels (with_omission g.at 1 p)

-- "VLSD storage groups (flag bit 0) have no master and no column."
unfoldable pub plan_group : Rules → List ℕ → List SrcGroup → List ℕ → SrcGroup → Plan → Checked Plan
plan_group o s all bys g p = let here = plan_timed o s g (time_of s all bys g) p in pick (is_storage s g.at) (ok p) here

-- bookkeeping: group by group
unfoldable pub plan_groups : Rules → List ℕ → List SrcGroup → List ℕ → List SrcGroup → Plan → Checked Plan
plan_groups o s all bys [] p = ok p
plan_groups o s all bys (g ∷ gs) p = and_then (plan_group o s all bys g p) (λ q. plan_groups o s all bys gs q)

-- "planning's order (groups in file order)", by what is chosen; n fragments were found in the walk, and bys says which masters stand for others
unfoldable pub plan : Rules → List ℕ → ℕ → List SrcGroup → List ℕ → Checked Plan
plan o s n all bys = plan_groups o s all bys all (record { columns = []; omissions = []; fragments = n })

-- ---- the omission list: "the number n, then n addresses, then n reasons, in file order"
unfoldable pub omission_addresses : List Omission → List ℕ
omission_addresses [] = []
omission_addresses (o ∷ os) = o.at ∷ omission_addresses os

-- then the reasons
unfoldable pub omission_reasons : List Omission → List ℕ
omission_reasons [] = []
omission_reasons (o ∷ os) = o.reason ∷ omission_reasons os

-- the whole list
unfoldable pub omission_words : List Omission → List ℕ
omission_words os = length os ∷ (omission_addresses os ++ omission_reasons os)
