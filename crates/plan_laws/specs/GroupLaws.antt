-- The groups of a recording: which items of the walk they come from, their counts, and that every address stands in one place only.
use Rattle.std.specs.Prelude.{ℕ, zero, suc, ◌+◌, ◌≤◌, ◌≡◌, ◌⊎◌, length, drop}
use mathlib.Core.List.{List, [], ◌∷◌, ◌++◌, append-nil, append_assoc}
use Rattle.std.proofs.Math.Path.{refl}
use Rattle.std.proofs.Common.{sym, ap, ◌∙◌, subst, inl, inr, length-append}
use native.Mathlib.Omega.{arith}
use Rattle.base.specs.ChoiceLaws.{lt_back}
use Rattle.base.specs.Checked.{ok, fine}
use Rattle.mdf.specs.Block.{DG, CG, CN, block_at}
use Rattle.mdf.specs.Chain.{Fragment}
use Rattle.mdf.specs.Walk.{Item, dg, cg, cn, level_dg, level_cg, level_cn, tally}
use Rattle.mdf.specs.Group.{Group, DataGroup, addresses, channels_of, groups_of, data_groups_of}
use Rattle.mdf.specs.Records.{Frame, unsorted_frames}
use Rattle.mdf.specs.Count.{count_one, tallies, count_groups, counts_from, counts}
use Rattle.plan.specs.Columns.{SrcGroup, with_counts, src_groups}
use Rattle.result.specs.Guarantee.{In, here, there}
use Rattle.plan_laws.specs.Answers.{refused≢ok, ok_same, with_ok}
use Rattle.plan_laws.specs.Lists.{in_none, same, occurs, occurs-append}
use Rattle.plan_laws.specs.WalkLaws.{item_addresses, ItemFine, Open}

-- ---- sums over the addresses of items and groups

unfoldable pub sum_of : (ℕ → ℕ) → List ℕ → ℕ
sum_of w [] = 0
sum_of w (a ∷ l) = w a + sum_of w l

abbrev item_sum : (ℕ → ℕ) → (ℕ → ℕ) → (ℕ → ℕ) → Item → ℕ
item_sum d g c (dg a n) = d a
item_sum d g c (cg a) = g a
item_sum d g c (cn a) = c a

unfoldable pub items_sum : (ℕ → ℕ) → (ℕ → ℕ) → (ℕ → ℕ) → List Item → ℕ
items_sum d g c [] = 0
items_sum d g c (i ∷ is) = item_sum d g c i + items_sum d g c is

-- up to the next DG
unfoldable front_sum : (ℕ → ℕ) → (ℕ → ℕ) → List Item → ℕ
front_sum g c [] = 0
front_sum g c (dg a n ∷ is) = 0
front_sum g c (cg a ∷ is) = g a + front_sum g c is
front_sum g c (cn a ∷ is) = c a + front_sum g c is

unfoldable pub groups_sum : (ℕ → ℕ) → (ℕ → ℕ) → List Group → ℕ
groups_sum g c [] = 0
groups_sum g c (h ∷ gs) = g h.at + sum_of c h.channels + groups_sum g c gs

unfoldable pub data_groups_sum : (ℕ → ℕ) → (ℕ → ℕ) → (ℕ → ℕ) → List DataGroup → ℕ
data_groups_sum d g c [] = 0
data_groups_sum d g c (e ∷ ds) = d e.at + groups_sum g c e.groups + data_groups_sum d g c ds

unfoldable pub src_sum : (ℕ → ℕ) → (ℕ → ℕ) → List SrcGroup → ℕ
src_sum g c [] = 0
src_sum g c (h ∷ gs) = g h.at + sum_of c h.channels + src_sum g c gs

module _ (g c : ℕ → ℕ) where
  front-sum : (is : List Item) → sum_of c (channels_of is) + groups_sum g c (groups_of is) ≡ front_sum g c is
  unfolding sum_of channels_of groups_sum groups_of front_sum
  front-sum [] = refl
  front-sum (dg a n ∷ is) = refl
  front-sum (cg a ∷ is) = omega (arith, front-sum is)
  front-sum (cn a ∷ is) = omega (arith, front-sum is)

  nested_sum : (d : ℕ → ℕ) (fs : List Fragment) (is : List Item)
      → data_groups_sum d g c (data_groups_of fs is) + front_sum g c is ≤ items_sum d g c is
  unfolding data_groups_sum data_groups_of front_sum items_sum
  nested_sum d fs [] = omega arith
  nested_sum d fs (dg a n ∷ is) = omega (arith, nested_sum d fs is, front-sum is)
  nested_sum d fs (cg a ∷ is) = omega (arith, nested_sum d fs is)
  nested_sum d fs (cn a ∷ is) = omega (arith, nested_sum d fs is)

  src_append : (l m : List SrcGroup) → src_sum g c (l ++ m) ≡ src_sum g c l + src_sum g c m
  unfolding src_sum
  src_append [] m = omega arith
  src_append (h ∷ l) m = omega (arith, src_append l m)

  counts-sum : (e : DataGroup) (k : ℕ) (gs : List Group) (ns : List ℕ) → src_sum g c (with_counts e k gs ns) ≤ groups_sum g c gs
  unfolding src_sum with_counts groups_sum
  counts-sum e k [] ns = omega arith
  counts-sum e k (h ∷ gs) [] = omega arith
  counts-sum e k (h ∷ gs) (n ∷ ns) = omega (arith, counts-sum e (k + 1) gs ns)

  src_sum_lem : (d : ℕ → ℕ) (ds : List DataGroup) (ns : List ℕ) → src_sum g c (src_groups ds ns) ≤ data_groups_sum d g c ds
  unfolding src_sum src_groups data_groups_sum
  src_sum_lem d [] ns = omega arith
  src_sum_lem d (e ∷ ds) ns =
      omega (
        arith,
        src_append (with_counts e 0 e.groups ns) (src_groups ds (drop (length e.groups) ns)),
        counts-sum e 0 e.groups ns,
        src_sum_lem d ds (drop (length e.groups) ns),
      )

-- ---- addresses

-- the addresses of groups and of their channels
unfoldable pub all_addresses : List SrcGroup → List ℕ
all_addresses [] = []
all_addresses (g ∷ gs) = (g.at ∷ g.channels) ++ all_addresses gs

unfoldable pub all_channels : List SrcGroup → List ℕ
all_channels [] = []
all_channels (g ∷ gs) = g.channels ++ all_channels gs

unfoldable pub dg_addresses : List DataGroup → List ℕ
dg_addresses [] = []
dg_addresses (d ∷ ds) = d.at ∷ dg_addresses ds

sum-occurs : (x : ℕ) (l : List ℕ) → sum_of (λ a. same a x) l ≡ occurs x l
unfolding sum_of occurs
sum-occurs x [] = refl
sum-occurs x (a ∷ l) = omega (arith, sum-occurs x l)

sum-length : (l : List ℕ) → sum_of (λ a. 1) l ≡ length l
unfolding sum_of
sum-length [] = refl
sum-length (a ∷ l) = omega (arith, sum-length l)

sum-zero : (l : List ℕ) → sum_of (λ a. 0) l ≡ 0
unfolding sum_of
sum-zero [] = refl
sum-zero (a ∷ l) = omega (arith, sum-zero l)

pub all-occurs : (x : ℕ) (gs : List SrcGroup) → src_sum (λ a. same a x) (λ a. same a x) gs ≡ occurs x (all_addresses gs)
unfolding src_sum all_addresses sum_of occurs
all-occurs x [] = refl
all-occurs x (g ∷ gs) =
    omega (arith, occurs-append x (g.at ∷ g.channels) (all_addresses gs), sum-occurs x (g.at ∷ g.channels), all-occurs x gs)

all_channels_lem : (gs : List SrcGroup) → src_sum (λ a. 0) (λ a. 1) gs ≡ length (all_channels gs)
unfolding src_sum all_channels
all_channels_lem [] = refl
all_channels_lem (g ∷ gs) = rw (length-append, ← all_channels_lem gs, ← sum-length g.channels) (omega arith)

-- as many addresses as groups and channels
pub all-length : (gs : List SrcGroup) → length (all_addresses gs) ≡ length gs + length (all_channels gs)
unfolding all_addresses all_channels
all-length [] = refl
all-length (g ∷ gs) = simp length-append (omega (arith, all-length gs))

all_groups : (gs : List SrcGroup) → src_sum (λ a. 1) (λ a. 0) gs ≡ length gs
unfolding src_sum
all_groups [] = refl
all_groups (g ∷ gs) = omega (arith, sum-zero g.channels, all_groups gs)

groups_zero : (gs : List Group) → groups_sum (λ a. 0) (λ a. 0) gs ≡ 0
unfolding groups_sum
groups_zero [] = refl
groups_zero (g ∷ gs) = omega (arith, sum-zero g.channels, groups_zero gs)

dg-occurs : (x : ℕ) (ds : List DataGroup) → data_groups_sum (λ a. same a x) (λ a. 0) (λ a. 0) ds ≡ occurs x (dg_addresses ds)
unfolding data_groups_sum dg_addresses occurs
dg-occurs x [] = refl
dg-occurs x (d ∷ ds) = omega (arith, groups_zero d.groups, dg-occurs x ds)

dg-length : (ds : List DataGroup) → data_groups_sum (λ a. 1) (λ a. 0) (λ a. 0) ds ≡ length ds
unfolding data_groups_sum
dg-length [] = refl
dg-length (d ∷ ds) = omega (arith, groups_zero d.groups, dg-length ds)

item-occurs : (x : ℕ) (is : List Item) → items_sum (λ a. same a x) (λ a. same a x) (λ a. same a x) is ≡ occurs x (item_addresses is)
unfolding items_sum item_addresses occurs
item-occurs x [] = refl
item-occurs x (dg a n ∷ is) = omega (arith, item-occurs x is)
item-occurs x (cg a ∷ is) = omega (arith, item-occurs x is)
item-occurs x (cn a ∷ is) = omega (arith, item-occurs x is)

dg-tally : (is : List Item) → items_sum (λ a. 1) (λ a. 0) (λ a. 0) is ≡ tally level_dg.own is
unfolding items_sum tally
dg-tally [] = refl
dg-tally (dg a n ∷ is) = omega (arith, dg-tally is)
dg-tally (cg a ∷ is) = omega (arith, dg-tally is)
dg-tally (cn a ∷ is) = omega (arith, dg-tally is)

cg-tally : (is : List Item) → items_sum (λ a. 0) (λ a. 1) (λ a. 0) is ≡ tally level_cg.own is
unfolding items_sum tally
cg-tally [] = refl
cg-tally (dg a n ∷ is) = omega (arith, cg-tally is)
cg-tally (cg a ∷ is) = omega (arith, cg-tally is)
cg-tally (cn a ∷ is) = omega (arith, cg-tally is)

cn-tally : (is : List Item) → items_sum (λ a. 0) (λ a. 0) (λ a. 1) is ≡ tally level_cn.own is
unfolding items_sum tally
cn-tally [] = refl
cn-tally (dg a n ∷ is) = omega (arith, cn-tally is)
cn-tally (cg a ∷ is) = omega (arith, cn-tally is)
cn-tally (cn a ∷ is) = omega (arith, cn-tally is)

-- a sum over DG that counts its groups and channels as well is the sum of both
dg_and_groups : (d g c : ℕ → ℕ) (ds : List DataGroup)
    → data_groups_sum d g c ds ≡ data_groups_sum d (λ a. 0) (λ a. 0) ds + data_groups_sum (λ a. 0) g c ds
unfolding data_groups_sum
dg_and_groups d g c [] = refl
dg_and_groups d g c (e ∷ ds) = omega (arith, groups_zero e.groups, dg_and_groups d g c ds)

-- every address of a DG, a group or a channel stands in one place only
module _ (fs : List Fragment) (is : List Item) (ns : List ℕ) where
  pub groups_occurs : (x : ℕ) → occurs x (dg_addresses (data_groups_of fs is)) + occurs x (all_addresses (src_groups (data_groups_of fs is) ns)) ≤ occurs x (item_addresses is)
  groups_occurs x =
      let w : ℕ → ℕ = λ a. same a x in
      let ds = data_groups_of fs is in
      omega (arith, nested_sum w w w fs is, src_sum_lem w w (λ a. 0) ds ns, dg_and_groups w w w ds, all-occurs x (src_groups ds ns), dg-occurs x ds, item-occurs x is)

  pub few_channels_lem : length (all_channels (src_groups (data_groups_of fs is) ns)) ≤ tally level_cn.own is
  few_channels_lem =
      let z : ℕ → ℕ = λ a. 0 in
      let w : ℕ → ℕ = λ a. 1 in
      let ds = data_groups_of fs is in
      omega (arith, nested_sum z w z fs is, src_sum_lem z w z ds ns, all_channels_lem (src_groups ds ns), cn-tally is)

  pub few_groups_lem : length (src_groups (data_groups_of fs is) ns) ≤ tally level_cg.own is
  few_groups_lem =
      let z : ℕ → ℕ = λ a. 0 in
      let w : ℕ → ℕ = λ a. 1 in
      let ds = data_groups_of fs is in
      omega (arith, nested_sum w z z fs is, src_sum_lem w z z ds ns, all_groups (src_groups ds ns), cg-tally is)

pub few_data_groups : (fs : List Fragment) (is : List Item) → length (data_groups_of fs is) ≤ tally level_dg.own is
few_data_groups fs is =
    let z : ℕ → ℕ = λ a. 0 in
    omega (arith, nested_sum z z (λ a. 1) fs is, dg-length (data_groups_of fs is), dg-tally is)

-- ---- what the groups come from

-- the blocks of a DG, of its groups and of their channels passed their checks
pub record GroupFine (s : List ℕ) (g : Group) : Type 0 where
  pub block : block_at CG s g.at ≡ fine
  pub channels : (c : ℕ) → In c g.channels → block_at CN s c ≡ fine

pub record DataGroupFine (s : List ℕ) (d : DataGroup) : Type 0 where
  pub block : block_at DG s d.at ≡ fine
  pub groups : (g : Group) → In g d.groups → GroupFine s g

channels_fine : (s : List ℕ) (is : List Item) → ((i : Item) → In i is → ItemFine s i) → (c : ℕ) → In c (channels_of is) → block_at CN s c ≡ fine
unfolding channels_of
channels_fine s [] h c i = absurd (in_none i)
channels_fine s (dg a n ∷ is) h c i = absurd (in_none i)
channels_fine s (cg a ∷ is) h c i = absurd (in_none i)
channels_fine s (cn a ∷ is) h c here = h (cn a) here
channels_fine s (cn a ∷ is) h c (there i) = channels_fine s is (λ j m. h j (there m)) c i

groups_fine : (s : List ℕ) (is : List Item) → ((i : Item) → In i is → ItemFine s i) → (g : Group) → In g (groups_of is) → GroupFine s g
unfolding groups_of
groups_fine s [] h g i = absurd (in_none i)
groups_fine s (dg a n ∷ is) h g i = absurd (in_none i)
groups_fine s (cg a ∷ is) h g here = record { block = h (cg a) here; channels = channels_fine s is (λ j m. h j (there m)) }
groups_fine s (cg a ∷ is) h g (there i) = groups_fine s is (λ j m. h j (there m)) g i
groups_fine s (cn a ∷ is) h g i = groups_fine s is (λ j m. h j (there m)) g i

pub data_groups_fine : (s : List ℕ) (fs : List Fragment) (is : List Item) → ((i : Item) → In i is → ItemFine s i)
    → (d : DataGroup) → In d (data_groups_of fs is) → DataGroupFine s d
unfolding data_groups_of
data_groups_fine s fs [] h d i = absurd (in_none i)
data_groups_fine s fs (dg a n ∷ is) h d here = record { block = h (dg a n) here; groups = groups_fine s is (λ j m. h j (there m)) }
data_groups_fine s fs (dg a n ∷ is) h d (there i) = data_groups_fine s fs is (λ j m. h j (there m)) d i
data_groups_fine s fs (cg a ∷ is) h d i = data_groups_fine s fs is (λ j m. h j (there m)) d i
data_groups_fine s fs (cn a ∷ is) h d i = data_groups_fine s fs is (λ j m. h j (there m)) d i

-- ---- every CG of the walk is a group of a DG
pub record GroupOf (a : ℕ) (gs : List Group) : Type 0 where
  pub group : Group
  pub at : group.at ≡ a
  pub is_in : In group gs

pub record GroupIn (a : ℕ) (ds : List DataGroup) : Type 0 where
  pub data_group : DataGroup
  pub is_in : In data_group ds
  pub group : GroupOf a data_group.groups

group-later : {a : ℕ} {g : Group} {gs : List Group} → GroupOf a gs → GroupOf a (g ∷ gs)
group-later r = record { group = r.group; at = r.at; is_in = there r.is_in }

group_in_later : {a : ℕ} {d : DataGroup} {ds : List DataGroup} → GroupIn a ds → GroupIn a (d ∷ ds)
group_in_later r = record { data_group = r.data_group; is_in = there r.is_in; group = r.group }

cg-found : (fs : List Fragment) (a : ℕ) (is : List Item) → In (cg a) is → GroupOf a (groups_of is) ⊎ GroupIn a (data_groups_of fs is)
unfolding groups_of data_groups_of
cg-found fs a [] i = absurd (in_none i)
cg-found fs a (dg b n ∷ is) (there i) = go (cg-found fs a is i)
  where
    go : GroupOf a (groups_of is) ⊎ GroupIn a (data_groups_of fs is) → GroupOf a (groups_of (dg b n ∷ is)) ⊎ GroupIn a (data_groups_of fs (dg b n ∷ is))
    go (inl g) = inr (record { data_group = _; is_in = here; group = g })
    go (inr d) = inr (group_in_later d)
cg-found fs a (cg b ∷ is) here = inl (record { group = _; at = refl; is_in = here })
cg-found fs a (cg b ∷ is) (there i) = go (cg-found fs a is i)
  where
    go : GroupOf a (groups_of is) ⊎ GroupIn a (data_groups_of fs is) → GroupOf a (groups_of (cg b ∷ is)) ⊎ GroupIn a (data_groups_of fs (cg b ∷ is))
    go (inl g) = inl (group-later g)
    go (inr d) = inr d
cg-found fs a (cn b ∷ is) (there i) = cg-found fs a is i

pub cg_is_in : (fs : List Fragment) (a : ℕ) (is : List Item) → Open is → In (cg a) is → GroupIn a (data_groups_of fs is)
unfolding data_groups_of
cg_is_in fs a [] o i = absurd (in_none i)
cg_is_in fs a (dg b n ∷ is) o (there i) = go (cg-found fs a is i)
  where
    go : GroupOf a (groups_of is) ⊎ GroupIn a (data_groups_of fs is) → GroupIn a (data_groups_of fs (dg b n ∷ is))
    go (inl g) = record { data_group = _; is_in = here; group = g }
    go (inr d) = group_in_later d
cg_is_in fs a (cg b ∷ is) o i = absurd o
cg_is_in fs a (cn b ∷ is) o i = absurd o

-- ---- and every group of a DG is a CG of the walk, its channels are CN
pub record GroupMet (g : Group) (is : List Item) : Type 0 where
  pub group : In (cg g.at) is
  pub channels : (c : ℕ) → In c g.channels → In (cn c) is

met_later : {g : Group} {is : List Item} (i : Item) → GroupMet g is → GroupMet g (i ∷ is)
met_later i m = record { group = there m.group; channels = λ c j. there (m.channels c j) }

channels_met : (is : List Item) (c : ℕ) → In c (channels_of is) → In (cn c) is
unfolding channels_of
channels_met [] c i = absurd (in_none i)
channels_met (dg a n ∷ is) c i = absurd (in_none i)
channels_met (cg a ∷ is) c i = absurd (in_none i)
channels_met (cn a ∷ is) c here = here
channels_met (cn a ∷ is) c (there i) = there (channels_met is c i)

groups_met : (is : List Item) (g : Group) → In g (groups_of is) → GroupMet g is
unfolding groups_of
groups_met [] g i = absurd (in_none i)
groups_met (dg a n ∷ is) g i = absurd (in_none i)
groups_met (cg a ∷ is) g here = record { group = here; channels = λ c j. there (channels_met is c j) }
groups_met (cg a ∷ is) g (there i) = met_later (cg a) (groups_met is g i)
groups_met (cn a ∷ is) g i = met_later (cn a) (groups_met is g i)

pub data_groups_met : (fs : List Fragment) (is : List Item) (d : DataGroup) → In d (data_groups_of fs is) → (g : Group) → In g d.groups → GroupMet g is
unfolding data_groups_of
data_groups_met fs [] d i g j = absurd (in_none i)
data_groups_met fs (dg a n ∷ is) d here g j = met_later (dg a n) (groups_met is g j)
data_groups_met fs (dg a n ∷ is) d (there i) g j = met_later (dg a n) (data_groups_met fs is d i g j)
data_groups_met fs (cg a ∷ is) d i g j = met_later (cg a) (data_groups_met fs is d i g j)
data_groups_met fs (cn a ∷ is) d i g j = met_later (cn a) (data_groups_met fs is d i g j)

-- ---- counts: as many as groups, those of each DG as it is counted

tallies-length : (n k : ℕ) (rs : List Frame) → length (tallies n k rs) ≡ n
unfolding tallies
tallies-length zero k rs = refl
tallies-length (suc n) k rs = ap suc (tallies-length n (k + 1) rs)

pub count_length : (s : List ℕ) (d : ℕ) (gs : List ℕ) (fs : List Fragment) (ms : List ℕ) → count_groups s d gs fs ≡ ok ms → length ms ≡ length gs
unfolding count_groups count_one
count_length s d [] fs ms e = ap length (sym (ok_same e))
count_length s d (g ∷ []) fs ms e =
    let a = lt_back _ _ _ _ e refused≢ok in
    let b = lt_back _ _ _ _ a.1 refused≢ok in
    let c = lt_back _ _ _ _ b.1 refused≢ok in
    ap length (sym (ok_same c.1))
count_length s d (g ∷ h ∷ gs) fs ms e =
    with_ok (unsorted_frames s d (g ∷ h ∷ gs) fs) _ e (λ rs _ q.
    ap length (sym (ok_same q)) ∙ tallies-length (length (g ∷ h ∷ gs)) 0 rs)

pub addresses-length : (gs : List Group) → length (addresses gs) ≡ length gs
unfolding addresses
addresses-length [] = refl
addresses-length (g ∷ gs) = ap suc (addresses-length gs)

-- ns are the counts of the groups of ds, DG by DG
pub data Counted (s : List ℕ) : List DataGroup → List ℕ → Type 0 where
  no_more : Counted s [] []
  and_more : {d : DataGroup} {ds : List DataGroup} {ns : List ℕ} (ms rest : List ℕ) → ns ≡ ms ++ rest
      → count_groups s d.at (addresses d.groups) d.fragments ≡ ok ms → Counted s ds rest → Counted s (d ∷ ds) ns

pub record CountedAfter (s : List ℕ) (ds : List DataGroup) (done ns : List ℕ) : Type 0 where
  pub more : List ℕ
  pub split : ns ≡ done ++ more
  pub counted : Counted s ds more

counted-from : (s : List ℕ) (ds : List DataGroup) (done ns : List ℕ) → counts_from s ds done ≡ ok ns → CountedAfter s ds done ns
unfolding counts_from
counted-from s [] done ns e = record { more = []; split = sym (ok_same e) ∙ sym (append-nil done); counted = no_more }
counted-from s (d ∷ ds) done ns e =
    with_ok (count_groups s d.at (addresses d.groups) d.fragments) _ e (λ ms c q.
    let r = counted-from s ds (done ++ ms) ns q in
    record { more = ms ++ r.more; split = r.split ∙ append_assoc done ms r.more; counted = and_more ms r.more refl c r.counted })

pub counts-counted : (s : List ℕ) (ds : List DataGroup) (ns : List ℕ) → counts s ds ≡ ok ns → Counted s ds ns
unfolding counts
counts-counted s ds ns e = let r = counted-from s ds [] ns e in subst (Counted s ds) (sym r.split) r.counted

-- the number of groups of all DG
unfoldable pub group_count : List DataGroup → ℕ
group_count [] = 0
group_count (d ∷ ds) = length d.groups + group_count ds

pub counted-length : (s : List ℕ) (ds : List DataGroup) (ns : List ℕ) → Counted s ds ns → length ns ≡ group_count ds
unfolding group_count
counted-length s [] ns no_more = refl
counted-length s (d ∷ ds) ns (and_more ms rest e c r) =
    rw (e, length-append) (omega (arith, count_length s d.at (addresses d.groups) d.fragments ms c, addresses-length d.groups, counted-length s ds rest r))
