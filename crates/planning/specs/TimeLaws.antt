-- Laws of masters and times, one for each way of the code.
use Prim.Native.Nat.{ℕ, ◌+◌, ◌/◌, ◌%◌, ◌≤◌, ◌<◌}
use Rattle.std.specs.Prelude.{List, [], ◌∷◌, Bool, true, false, ◌≡◌, get_or, Some, None}
use Rattle.std.specs.Prelude as code
use Rattle.std.proofs.Math.Option.{Option, none, some}
use Rattle.std.proofs.Math.Path.{refl}
use Rattle.std.proofs.Common.{sym, ap, ◌∙◌, subst}
use Rattle.base.specs.Choice.{pick, if_eq}
use Rattle.base.specs.ChoiceLaws.{eq_yes, eq_no, eq_first, lt_yes, lt_no}
use Rattle.mdf.specs.Block.{links_at, link_at}
use Rattle.mdf.specs.Group.{group_flags, is_storage}
use Rattle.plan.specs.Channel.{both, is_master_type, fits}
use Rattle.plan.specs.Columns.{SrcGroup, first_master, master_of, remote_link, group_at, on_group, on_master, stand_in, standing, TimeOf, time, untimed, differs, remote_time, time_of}
use Rattle.result.specs.Guarantee.{In}
use Rattle.plan_laws.specs.Answers.{eq_cases}
use Rattle.plan_laws.specs.DecideLaws.{group_at_lem, time≢untimed, time≢differs, time_same}
use Rattle.planning.specs.declared.groups.Sought.{Sought}
use Rattle.planning.specs.Items.{group_of, groups_in, channels_in, sought_in, word_of, FoundGroup}
use Rattle.planning.specs.ItemLaws.{channels_end, channels_next, channels_over}
use Rattle.planning.specs.Times.{master_from, master_in, time_words, remote_in}

-- ---- the first master: what is left of the search gives what the whole search gives
pub record Mastering (s w : List ℕ) (n i g k : ℕ) : Type 0 where
  pub rest : first_master s g (channels_in w n k) ≡ first_master s g (channels_in w n i)

pub master_begin : {s w : List ℕ} {n i g : ℕ} → Mastering s w n i g i
master_begin = record { rest = refl }

master_open : (s : List ℕ) (g c : ℕ) (cs : List ℕ) {b : Bool} → b ≡ both (is_master_type s c) (fits s g c)
    → first_master s g (c ∷ cs) ≡ pick b (some c) (first_master s g cs)
unfolding first_master
master_open s g c cs e = rw e

no_master_lem : (s : List ℕ) (g : ℕ) → first_master s g [] ≡ none
unfolding first_master
no_master_lem s g = refl

module _ {s w : List ℕ} {n i g k : ℕ} (t : Mastering s w n i g k) where
  pub master_end : n ≤ k → none ≡ first_master s g (channels_in w n i)
  master_end h = rw (channels_end w n k h, no_master_lem s g) at t.rest

  module _ (h : k < n) {m : ℕ} (p : m ≡ get_or w (1536 + k) 0) where
    pub master_over : (m ≡ 0 → ⊥) → none ≡ first_master s g (channels_in w n i)
    master_over z = rw (channels_over w n k h p z, no_master_lem s g) at t.rest

    module _ (z : m ≡ 0) {c : ℕ} (q : c ≡ get_or w k 0) {b : Bool} (e : b ≡ both (is_master_type s c) (fits s g c)) where
      pub master_hit : b ≡ true → some c ≡ first_master s g (channels_in w n i)
      master_hit x = rw (channels_next w n k h p z q, master_open s g c (channels_in w n (k + 1)) e, x) at t.rest

      pub master_on : b ≡ false → Mastering s w n i g (k + 1)
      master_on x = record { rest = rw (channels_next w n k h p z q, master_open s g c (channels_in w n (k + 1)) e, x) at t.rest }

-- ---- no master in a storage group
module _ (s w : List ℕ) (n i g : ℕ) {b : Bool} (e : b ≡ is_storage s g) where
  pub master_storage : b ≡ true → none ≡ master_in s w n i g
  unfolding master_in
  master_storage h = rw (← e, h)

  pub master_own : b ≡ false → {m : Option ℕ} → m ≡ first_master s g (channels_in w n i) → m ≡ master_in s w n i g
  unfolding master_in
  master_own h q = rw (← e, h) q

-- ---- the remote link
module _ (s : List ℕ) (g : ℕ) {f : ℕ} (e : f ≡ group_flags s g) where
  pub remote-clear : (f / 8 % 2 ≡ 1 → ⊥) → 0 ≡ remote_link s g
  unfolding remote_link
  remote-clear h = rw (← e) (eq_no _ _ _ _ h refl)

  module _ (h : f / 8 % 2 ≡ 1) {l : ℕ} (k : l ≡ links_at s g) where
    pub remote-set : 6 < l → {r : ℕ} → r ≡ link_at s g 6 → r ≡ remote_link s g
    unfolding remote_link
    remote-set i q = rw (← e, ← k) (eq_yes _ _ _ _ h (lt_yes _ _ _ _ i q))

    pub remote-short : l ≤ 6 → 0 ≡ remote_link s g
    unfolding remote_link
    remote-short i = rw (← e, ← k) (eq_yes _ _ _ _ h (lt_no _ _ _ _ i refl))

pub timed : {t u : TimeOf} → t ≡ u → time_words t ≡ time_words u
timed e = ap time_words e

pub master_group : (s w : List ℕ) (n i g d r : ℕ) → master_of s (group_of d g (channels_in w n i) r) ≡ master_in s w n i g
unfolding master_of master_in
master_group s w n i g d r = refl

-- ---- the word of a group
module _ (w bys : List ℕ) (n a : ℕ) {o : code.Option Sought} (e : FoundGroup w n a o) where
  pub stand_unfound : o ≡ None → 0 ≡ stand_in a (groups_in w n) bys
  unfolding word_of
  stand_unfound q = rw q at (e.stands bys)

  pub stand-found : {y : Sought} {x : ℕ} → o ≡ Some y → x ≡ get_or bys y.number 0 → x ≡ stand_in a (groups_in w n) bys
  unfolding word_of
  stand-found q h = h ∙ (rw q at (e.stands bys))

-- ---- a group that was found
module _ (s w : List ℕ) (n a : ℕ) {o : code.Option Sought} (e : FoundGroup w n a o) where
  pub unfound : o ≡ None → group_at a (groups_in w n) ≡ none
  unfolding sought_in
  unfound q = rw q at (sym e.group)

  pub found : {x : Sought} → o ≡ Some x → group_at a (groups_in w n) ≡ some (group_of x.dg a (channels_in w n x.item) x.records)
  unfolding sought_in
  found q = rw q at (sym e.group)

  found_master : (x : Sought) (m : code.Option ℕ) → master_from m ≡ master_in s w n x.item a → master_of s (group_of x.dg a (channels_in w n x.item) x.records) ≡ master_from m
  found_master x m f = master_group s w n x.item a x.dg x.records ∙ sym f

-- ---- the master that stands for a group's own
module _ (s w bys : List ℕ) (n c g d records : ℕ) (cs : List ℕ) {by : ℕ} (b : by ≡ stand_in g (groups_in w n) bys) where
  pub stand-own : by ≡ 0 → time (group_of d g cs records) c ≡ standing s (groups_in w n) bys (group_of d g cs records) c
  unfolding standing
  stand-own h = eq_yes _ _ _ _ (sym b ∙ h) refl

  module _ (z : by ≡ 0 → ⊥) {o : code.Option Sought} (e : FoundGroup w n by o) where
    pub stand_lost : o ≡ None → untimed ≡ standing s (groups_in w n) bys (group_of d g cs records) c
    unfolding standing
    stand_lost q = rw (← b, unfound s w n by e q) (eq_no _ _ _ _ z refl)

    module _ {x : Sought} (q : o ≡ Some x) (m : code.Option ℕ) (f : master_from m ≡ master_in s w n x.item by) where
      pub stand-bare : m ≡ None → untimed ≡ standing s (groups_in w n) bys (group_of d g cs records) c
      unfolding standing
      stand-bare h = rw (← b, found s w n by e q, found_master s w n by e x m f, h) (eq_no _ _ _ _ z refl)

      pub stand-other : {k : ℕ} → m ≡ Some k
          → time (group_of x.dg by (channels_in w n x.item) x.records) k ≡ standing s (groups_in w n) bys (group_of d g cs records) c
      unfolding standing
      stand-other h = rw (← b, found s w n by e q, found_master s w n by e x m f, h) (eq_no _ _ _ _ z refl)

-- ---- the remote group's time
module _ (s w bys : List ℕ) (n g records : ℕ) {link : ℕ} (l : link ≡ remote_link s g) {o : code.Option Sought} (e : FoundGroup w n link o) where
  pub remote-none : o ≡ None → untimed ≡ remote_in s w bys n g records
  unfolding remote_in
  remote-none q = rw (← l, unfound s w n link e q)

  module _ {x : Sought} (q : o ≡ Some x) (m : code.Option ℕ) (f : master_from m ≡ master_in s w n x.item link) where
    pub remote-bare : m ≡ None → untimed ≡ remote_in s w bys n g records
    unfolding remote_in
    remote-bare h = rw (← l, found s w n link e q, found_master s w n link e x m f, h)

    pub remote-same : {c : ℕ} → m ≡ Some c → x.records ≡ records
        → standing s (groups_in w n) bys (group_of x.dg link (channels_in w n x.item) x.records) c ≡ remote_in s w bys n g records
    unfolding remote_in
    remote-same h k = rw (← l, found s w n link e q, found_master s w n link e x m f, h) (eq_yes _ _ _ _ k refl)

    pub remote-differs : {c : ℕ} → m ≡ Some c → (x.records ≡ records → ⊥) → differs ≡ remote_in s w bys n g records
    unfolding remote_in
    remote-differs h k = rw (← l, found s w n link e q, found_master s w n link e x m f, h) (eq_no _ _ _ _ k refl)

-- ---- the time of a group
module _ (s w bys : List ℕ) (n i g d records : ℕ) (m : code.Option ℕ) (f : master_from m ≡ master_in s w n i g) where
  pub time_own : {c : ℕ} → m ≡ Some c
      → standing s (groups_in w n) bys (group_of d g (channels_in w n i) records) c ≡ time_of s (groups_in w n) bys (group_of d g (channels_in w n i) records)
  unfolding time_of
  time_own h = rw (master_group s w n i g d records, ← f, h)

  pub time_remote : m ≡ None → remote_in s w bys n g records ≡ time_of s (groups_in w n) bys (group_of d g (channels_in w n i) records)
  unfolding time_of remote_time remote_in
  time_remote h = rw (master_group s w n i g d records, ← f, h)

-- ---- whichever masters stand for others, a time is that of a group with a master
pub record OfGroup (s : List ℕ) (all : List SrcGroup) (t : SrcGroup) (m : ℕ) : Type 0 where
  pub is_in : In t all
  pub master : master_of s t ≡ some m

module _ (s : List ℕ) (all : List SrcGroup) (bys : List ℕ) (t : SrcGroup) (m : ℕ) where
  of-group : (g : SrcGroup) (x : ℕ) → In g all → master_of s g ≡ some x → time g x ≡ time t m → OfGroup s all t m
  of-group g x i q r =
      let c = time_same r in
      subst (λ (u : SrcGroup). OfGroup s all u m) c.0 (record { is_in = i; master = q ∙ ap some c.1 })

  standing-known : (g : SrcGroup) (x : ℕ) → In g all → master_of s g ≡ some x → standing s all bys g x ≡ time t m → OfGroup s all t m
  unfolding standing
  standing-known g x i q e =
      eq_cases (stand_in g.at all bys) 0 (time g x) _ e
      (λ _ r. of-group g x i q r)
      (λ _ r. group (group_at (stand_in g.at all bys) all) refl r)
    where
      master : (u : SrcGroup) → In u all → (o : Option ℕ) → master_of s u ≡ o → on_master o untimed (λ k. time u k) ≡ time t m → OfGroup s all t m
      master u j none k r = absurd (time≢untimed r)
      master u j (some y) k r = of-group u y j k r

      group : (o : Option SrcGroup) → group_at (stand_in g.at all bys) all ≡ o → on_group o untimed (λ u. on_master (master_of s u) untimed (λ k. time u k)) ≡ time t m
          → OfGroup s all t m
      group none k r = absurd (time≢untimed r)
      group (some u) k r = master u (group_at_lem _ all u k).0 (master_of s u) refl r

  remote-known : (g : SrcGroup) → remote_time s all bys g ≡ time t m → OfGroup s all t m
  unfolding remote_time
  remote-known g e = group (group_at (remote_link s g.at) all) refl e
    where
      Rest : SrcGroup → Option ℕ → TimeOf
      Rest h o = on_master o untimed (λ x. if_eq h.records g.records (standing s all bys h x) differs)

      master : (h : SrcGroup) → In h all → (o : Option ℕ) → master_of s h ≡ o → Rest h o ≡ time t m → OfGroup s all t m
      master h i none q r = absurd (time≢untimed r)
      master h i (some x) q r = standing-known h x i q (eq_first _ _ _ _ r time≢differs).1

      group : (o : Option SrcGroup) → group_at (remote_link s g.at) all ≡ o → on_group o untimed (λ h. Rest h (master_of s h)) ≡ time t m → OfGroup s all t m
      group none q r = absurd (time≢untimed r)
      group (some h) q r = master h (group_at_lem _ all h q).0 (master_of s h) refl r

  pub time_known : (g : SrcGroup) → In g all → time_of s all bys g ≡ time t m → OfGroup s all t m
  unfolding time_of
  time_known g i e = go (master_of s g) refl e
    where
      go : (o : Option ℕ) → master_of s g ≡ o → on_master o (remote_time s all bys g) (λ x. standing s all bys g x) ≡ time t m → OfGroup s all t m
      go none q r = remote-known g r
      go (some x) q r = standing-known g x i q r
