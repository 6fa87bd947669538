-- Which groups' masters stand for others': what sharing decides is what document 02, request 8, says.
use Prim.Native.Nat.{ℕ, zero, suc, ◌+◌, ◌≤◌}
use mathlib.Core.List.{List, [], ◌∷◌, ◌++◌, append_assoc}
use Rattle.std.specs.Prelude.{Bool, ◌⊎◌, ◌≡◌, refl, length, replicate}
use Rattle.std.proofs.Math.Bool.{true, false}
use Rattle.std.proofs.Common.{inl, inr, sym, ◌∙◌, arith}
use Rattle.std.proofs.Math.Option.{Option, none, some}
use Rattle.std.proofs.Math.Path.{ap, subst}
use Rattle.base.specs.ChoiceLaws.{eq_yes, eq_no}
use Rattle.base.specs.Checked.{ok}
use Rattle.mdf.specs.Group.{DataGroup, is_storage}
use Rattle.plan.specs.Rules.{Rules}
use Rattle.plan.specs.Columns.{SrcGroup, master_of, group_at, stand_in, Column, Plan, plan}
use Rattle.result.specs.Sharing.{is_equal, units_in, compared_in, first_equal, stands_for, stands_from, shared_times, sharing}
use Rattle.result.specs.SharingLaws.{equal_sym, none_first, Stood, stood, shared_at, shared-length}
use Rattle.result.specs.Recording.{IsMaster}
use Rattle.result.specs.Guarantee.{In, here, there, columns_of, omissions_of, column_at, IsTime, StandsFor, Became, NamesMaster}
use Rattle.plan_laws.specs.Answers.{ok_same, with_ok, or_not, true≢false}
use Rattle.plan_laws.specs.Lists.{in_left, in_right, in_cases, in_one, occurs, occurs-append, occurs_in}
use Rattle.plan_laws.specs.GroupLaws.{all_addresses}
use Rattle.plan_laws.specs.SourceLaws.{own_addresses, own-within, group_unique, channel-group}
use Rattle.plan_laws.specs.DecideLaws.{none≢some, some_same, group_at_lem, StoodBy, Sound, master_known}
use Rattle.plan_laws.specs.ColumnLaws.{TimePlace, times_place}
use Rattle.plan_laws.specs.MasterLaws.{known_master, master_of_lem, not_there, Standing, shared_time, names}
use Rattle.plan_laws.specs.PlanLaws.{timed_master, Planned, plan-known, once_masterless, once_other, none-stood, plan_once, plan_stands, plan-single}

-- ---- the groups before a group

-- a member of a list, with what is before and after it
pub record Placed {A : Type 0} (a : A) (l : List A) : Type 0 where
  pub before : List A
  pub after : List A
  pub is : l ≡ before ++ (a ∷ after)

pub placed : {A : Type 0} {a : A} {l : List A} → In a l → Placed a l
placed (here {bs}) = record { before = []; after = bs; is = refl }
placed (there {c} i) = let p = placed i in record { before = c ∷ p.before; after = p.after; is = ap (λ l. c ∷ l) p.is }

addresses-append : (gs hs : List SrcGroup) → all_addresses (gs ++ hs) ≡ all_addresses gs ++ all_addresses hs
unfolding all_addresses
addresses-append [] hs = refl
addresses-append (g ∷ gs) hs = rw (addresses-append gs hs) (sym (append_assoc (g.at ∷ g.channels) (all_addresses gs) (all_addresses hs)))

at-within : (gs : List SrcGroup) {g : SrcGroup} → In g gs → 1 ≤ occurs g.at (all_addresses gs)
at-within gs {g} i = omega (arith, own-within g.at gs i, occurs_in g.at (own_addresses g) here)

-- no other group stands at the same address
apart : (before after : List SrcGroup) (g h : SrcGroup) → ((x : ℕ) → occurs x (all_addresses (before ++ (g ∷ after))) ≤ 1) → In h before → h.at ≡ g.at → ⊥
apart before after g h once i e =
    omega (
      arith,
      once g.at,
      ap (occurs g.at) (addresses-append before (g ∷ after)),
      occurs-append g.at (all_addresses before) (all_addresses (g ∷ after)),
      subst (λ (x : ℕ). 1 ≤ occurs x (all_addresses before)) e (at-within before i),
      at-within (g ∷ after) {g = g} here,
    )

-- ---- the number beside a group
stand-here : (g : SrcGroup) (gs : List SrcGroup) (b : ℕ) (bys : List ℕ) → stand_in g.at (g ∷ gs) (b ∷ bys) ≡ b
unfolding stand_in
stand-here g gs b bys = sym (eq_yes _ _ _ _ refl refl)

stand-later : (a : ℕ) (g : SrcGroup) (gs : List SrcGroup) (b : ℕ) (bys : List ℕ) → (g.at ≡ a → ⊥) → stand_in a (g ∷ gs) (b ∷ bys) ≡ stand_in a gs bys
unfolding stand_in
stand-later a g gs b bys n = sym (eq_no _ _ _ _ n refl)

-- past other groups, with as many numbers
stand-at : (a : ℕ) (hs gs : List SrcGroup) (bs bys : List ℕ) → length bs ≡ length hs → ((h : SrcGroup) → In h hs → h.at ≡ a → ⊥)
    → stand_in a (hs ++ gs) (bs ++ bys) ≡ stand_in a gs bys
stand-at a [] gs [] bys l n = refl
stand-at a [] gs (b ∷ bs) bys l n = absurd (omega (arith, l))
stand-at a (h ∷ hs) gs [] bys l n = absurd (omega (arith, l))
stand-at a (h ∷ hs) gs (b ∷ bs) bys l n =
    stand-later a h (hs ++ gs) b (bs ++ bys) (n h here) ∙ stand-at a hs gs bs bys (omega (arith, l)) (λ k i. n k (there i))

-- more numbers than groups change nothing
pub stand-more : (a : ℕ) (gs : List SrcGroup) (bs bys : List ℕ) → length bs ≡ length gs → stand_in a gs (bs ++ bys) ≡ stand_in a gs bs
unfolding stand_in
stand-more a [] [] bys l = refl
stand-more a [] (b ∷ bs) bys l = refl
stand-more a (g ∷ gs) [] bys l = absurd (omega (arith, l))
stand-more a (g ∷ gs) (b ∷ bs) bys l = rw (stand-more a gs bs bys (omega (arith, l)))

pub stand-zeros : (a : ℕ) (gs : List SrcGroup) (n : ℕ) → stand_in a gs (replicate n 0) ≡ 0
unfolding stand_in
stand-zeros a [] n = refl
stand-zeros a (g ∷ gs) zero = refl
stand-zeros a (g ∷ gs) (suc n) = or_not g.at a (λ e. sym (eq_yes _ _ _ _ e refl)) (λ e. sym (eq_no _ _ _ _ e (sym (stand-zeros a gs n))))

-- what sharing decides of the group g, which comes after the groups hs
shared-stand : (s : List ℕ) (hs : List SrcGroup) (g : SrcGroup) (gs : List SrcGroup) → ((x : ℕ) → occurs x (all_addresses (hs ++ (g ∷ gs))) ≤ 1)
    → stand_in g.at (hs ++ (g ∷ gs)) (shared_times s (hs ++ (g ∷ gs))) ≡ stands_for s hs g
shared-stand s hs g gs once =
    ap (stand_in g.at (hs ++ (g ∷ gs))) (shared_at s hs g gs)
    ∙ stand-at g.at hs (g ∷ gs) (shared_times s hs) _ (shared-length s hs) (λ h i. apart hs gs g h once i)
    ∙ stand-here g gs (stands_for s hs g) _

-- ---- the group that stands for another
module _ (s : List ℕ) (all : List SrcGroup) (once : (x : ℕ) → occurs x (all_addresses all) ≤ 1) where
  -- the group at an address is the one that stands there
  found_at : (a : ℕ) (g : SrcGroup) → In g all → g.at ≡ a → group_at a all ≡ some g
  found_at a g i e = go (group_at a all) refl
    where
      go : (o : Option SrcGroup) → group_at a all ≡ o → o ≡ some g
      go none q = absurd (not_there a all g q i e)
      go (some h) q = let k = group_at_lem a all h q in ap some (group_unique all once k.0 i (k.1 ∙ sym e))

  -- of a group whose place is known
  stood-by : (g : SrcGroup) (p : Placed g all) (o : Stood s p.before g) → stand_in g.at all (shared_times s all) ≡ stands_for s p.before g
      → stand_in o.by.at all (shared_times s all) ≡ stands_for s o.before o.by → StoodBy s all (shared_times s all) g
  stood-by g p o e b =
      let i : In o.by all =
      subst (In o.by) (sym p.is) (in_left (g ∷ p.after) (subst (In o.by) (sym o.earlier) (in_right o.before here))) in
      record {
        by = o.by;
        is_in = i;
        found = found_at _ o.by i (o.at ∙ sym e);
        theirs = o.theirs;
        master = o.standing;
        as_many = sym o.equal.records;
        itself = b ∙ o.itself;
      }

  -- where it lies, and that no earlier one equals g
  stands_for_lem : (g : SrcGroup) (p : Placed g all) (o : Stood s p.before g) → StandsFor s all g o.own o.by o.theirs
  stands_for_lem g p o =
      record {
        before = o.before;
        between = o.after;
        after = p.after;
        earlier = p.is ∙ ap (λ (l : List SrcGroup). l ++ (g ∷ p.after)) o.earlier ∙ append_assoc o.before (o.by ∷ o.after) (g ∷ p.after);
        first = λ h i f k m. o.first h i k (master_of_lem s h f k m);
        key = o.equal.key;
        bytes = o.equal.bytes;
      }

  shared-at_place : (g : SrcGroup) (p : Placed g all) → stand_in g.at all (shared_times s all) ≡ stands_for s p.before g
  shared-at_place g p =
      subst (λ (l : List SrcGroup). stand_in g.at l (shared_times s l) ≡ stands_for s p.before g) (sym p.is)
      (shared-stand s p.before g p.after (λ x. subst (λ (l : List SrcGroup). occurs x (all_addresses l) ≤ 1) p.is (once x)))

  shared-standing : Standing s all (shared_times s all)
  unfolding stood-by stands_for_lem
  shared-standing g i z =
      let p = placed i in
      let e = shared-at_place g p in
      let o = stood s p.before g (λ q. z (e ∙ q)) in
      let q : Placed o.by all =
      record { before = o.before; after = o.after ++ (g ∷ p.after); is = (stands_for_lem g p o).earlier } in (
        stood-by g p o e (shared-at_place o.by q),
        λ m k. let w : o.own ≡ m = some_same (sym o.master ∙ master_of_lem s g (master_known s g o.own o.master).stored m k) in
            subst (λ (x : ℕ). StandsFor s all g x o.by o.theirs) w (stands_for_lem g p o),
      )

  -- what sharing gives
  pub sharing-standing : (on : Bool) (ds : List DataGroup) (bys : List ℕ) → sharing on s ds all ≡ ok bys → Standing s all bys
  unfolding sharing
  sharing-standing true ds bys e =
      with_ok (units_in s all) _ e (λ _ _ e. with_ok (compared_in s all ds) _ e (λ _ _ e. subst (Standing s all) (ok_same e) shared-standing))
  sharing-standing false ds bys e =
      subst (Standing s all) (ok_same e) (λ t i z. absurd (z (stand-zeros t.at all (length all))))

  -- without sharing none stands for another
  pub sharing-off : (ds : List DataGroup) (bys : List ℕ) → sharing false s ds all ≡ ok bys → (a : ℕ) → stand_in a all bys ≡ 0
  unfolding sharing
  sharing-off ds bys e a = ap (stand_in a all) (sym (ok_same e)) ∙ stand-zeros a all (length all)

  -- ---- with it, groups that stand for themselves don't equal one another
  module _ (nonzero : occurs 0 (all_addresses all) ≡ 0) where
    unequal_before : (g : SrcGroup) (m : ℕ) (p : Placed g all) → master_of s g ≡ some m → stands_for s p.before g ≡ 0 → (h : SrcGroup) (k : ℕ) → In h p.before
        → master_of s h ≡ some k → is_equal s g m h k ≡ false
    unfolding stands_for
    unequal_before g m p e z h k i q =
        none_first s g m p.before
        (λ f j y. omega (arith, nonzero, subst (λ (x : ℕ). 1 ≤ occurs x (all_addresses all)) y (at-within all (subst (In f) (sym p.is) (in_left (g ∷ p.after) j)))))
        (rw e at z) h i k q

    unequal_at : (g h : SrcGroup) (m k : ℕ) (p : Placed g all) → stand_in g.at all (shared_times s all) ≡ 0 → master_of s g ≡ some m → master_of s h ≡ some k
        → In h p.before → is_equal s g m h k ≡ false
    unequal_at g h m k p z e q i = unequal_before g m p e (sym (shared-at_place g p) ∙ z) h k i q

    shared_distinct : (g h : SrcGroup) (m k : ℕ) → In g all → In h all → stand_in g.at all (shared_times s all) ≡ 0 → stand_in h.at all (shared_times s all) ≡ 0
        → master_of s g ≡ some m → master_of s h ≡ some k → (m ≡ k → ⊥) → is_equal s g m h k ≡ false
    shared_distinct g h m k i j y z e q n = go (in_cases p.before (subst (In h) p.is j))
      where
        p : Placed g all
        p = placed i

        later : In h (g ∷ []) ⊎ In h p.after → is_equal s g m h k ≡ false
        later (inl w) = absurd (n (some_same (sym e ∙ ap (master_of s) (sym (in_one w)) ∙ q)))
        later (inr w) =
            let r = placed w in
            let o : Placed h all =
            record {
              before = p.before ++ (g ∷ r.before);
              after = r.after;
              is = p.is ∙ ap (λ (l : List SrcGroup). p.before ++ (g ∷ l)) r.is ∙ sym (append_assoc p.before (g ∷ r.before) (h ∷ r.after));
            } in
            equal_sym s h k g m (unequal_at h g k m o z q e (in_right p.before here))

        go : In h p.before ⊎ In h (g ∷ p.after) → is_equal s g m h k ≡ false
        go (inl w) = unequal_at g h m k p y e q w
        go (inr w) = later (in_cases (g ∷ []) w)

    pub sharing_distinct : (ds : List DataGroup) (bys : List ℕ) → sharing true s ds all ≡ ok bys → (g h : SrcGroup) (m k : ℕ) → In g all → In h all
        → stand_in g.at all bys ≡ 0 → stand_in h.at all bys ≡ 0 → master_of s g ≡ some m → master_of s h ≡ some k → (m ≡ k → ⊥) → is_equal s g m h k ≡ false
    unfolding sharing
    sharing_distinct ds bys e g h m k i j y z =
        with_ok (units_in s all) _ e (λ _ _ e. with_ok (compared_in s all ds) _ e (λ _ _ e.
        shared_distinct g h m k i j (ap (stand_in g.at all) (ok_same e) ∙ y) (ap (stand_in h.at all) (ok_same e) ∙ z)))

-- ---- the guarantee's fields of a plan
module _ (rs : Rules) (s : List ℕ) (all : List SrcGroup) (bys : List ℕ) (n : ℕ) (p : Plan) (once : (x : ℕ) → occurs x (all_addresses all) ≤ 1)
    (nonzero : occurs 0 (all_addresses all) ≡ 0) (stands : Standing s all bys) (few : n ≤ 1024) (e : plan rs s n all bys ≡ ok p) where
  sound : Sound s all bys
  sound t i z = (stands t i z).0

  known : Planned rs s all bys n p
  known = plan-known rs s all bys n p once nonzero sound few e

  -- the column that a place gives
  column_in_lem : (k : ℕ) (cs : List Column) {d : Column} → column_at k cs ≡ some d → In d cs
  unfolding column_at
  column_in_lem k [] q = absurd (none≢some q)
  column_in_lem zero (c ∷ cs) {d} q = subst (λ (x : Column). In x (c ∷ cs)) (some_same q) here
  column_in_lem (suc k) (c ∷ cs) q = there (column_in_lem k cs q)

  single : (t : SrcGroup) (m k i : ℕ) (d : Column) → IsTime p.columns k t m i d → columns_of m p.columns ≡ 1
  single t m k i d h =
      subst (λ (x : ℕ). columns_of x p.columns ≡ 1) h.of_channel
      (plan-single rs s all bys n p once nonzero sound few e d (column_in_lem k p.columns h.there) h.timed)

  -- masters as documents 01 and 02 give them
  pub plan-masters : (c : Column) → In c p.columns → NamesMaster s all p.columns c c.is_time_lem
  plan-masters c i =
      names s all bys once stands p.columns single c (known.sourced c i).group_in (known.sourced c i).stored c.is_time_lem (known.named c i)

  -- the time column of the group that stands for g
  stood_time : (g : SrcGroup) (o : StoodBy s all bys g) → (d : TimePlace o.theirs p.columns) → IsTime p.columns d.number o.by o.theirs g.records d.column
  stood_time g o d =
      let w = known.sourced d.column d.is_in in
      let m = (master_known s o.by o.theirs o.master).master in
      let h : d.column.group ≡ o.by = channel-group all once o.theirs w.group_in o.is_in (rw d.of_channel at w.channel_in) m.is_in in
      record {
        there = d.place;
        timed = d.timed;
        of_group = ap (λ (x : SrcGroup). x.at) h;
        of_channel = d.of_channel;
        as_many = ap (λ (x : SrcGroup). x.records) h ∙ o.as_many;
      }

  -- a master that another stands for
  became_another : (g : SrcGroup) (i : In g all) → is_storage s g.at ≡ false → (x : ℕ) → In x g.channels → master_of s g ≡ some x
      → (stand_in g.at all bys ≡ 0 → ⊥) → Became s all p.columns p.omissions g x
  became_another g i f x j q z =
      let o = stands g i z in
      let d = times_place o.0.theirs p.columns (plan_stands rs s all bys n p once nonzero sound few e g x i q z o.0) in
      let k = stood_time g o.0 d in
      Became.another (none-stood rs s all bys n p once nonzero sound few e g i f x j q z)
      (shared_time s all bys p.columns g x d.number d.column o.0 (o.1 x (known_master s g x q)) (known_master s g x q) k
      (single o.0.by o.0.theirs d.number g.records d.column k))

  -- "a master channel ends as a column, an omission, or exactly one earlier column"
  pub plan_became : (g : SrcGroup) → In g all → is_storage s g.at ≡ false → (x : ℕ) → In x g.channels → Became s all p.columns p.omissions g x
  plan_became g i f x j =
      or_not (stand_in g.at all bys) 0
      (λ z. Became.itself (plan_once rs s all bys n p once nonzero sound few e g i f x j z))
      (λ z. stood (master_of s g) refl z)
    where
      stood : (o : Option ℕ) → master_of s g ≡ o → (stand_in g.at all bys ≡ 0 → ⊥) → Became s all p.columns p.omissions g x
      stood none q z = Became.itself (once_masterless rs s all bys n p once nonzero sound few e g i f x j q)
      stood (some m) q z =
          or_not x m
          (λ y. became_another g i f x j (q ∙ ap some (sym y)) z)
          (λ y. Became.itself (once_other rs s all bys n p once nonzero sound few e g i f x j m q y))

  -- where none stands for another, each channel is one column or one omission
  pub plan_unshared : ((a : ℕ) → stand_in a all bys ≡ 0) → (g : SrcGroup) → In g all → is_storage s g.at ≡ false → (x : ℕ) → In x g.channels
      → columns_of x p.columns + omissions_of x p.omissions ≡ 1
  plan_unshared z g i f x j = plan_once rs s all bys n p once nonzero sound few e g i f x j (z g.at)

  -- time columns don't equal one another
  pub plan_distinct : ((g h : SrcGroup) (m k : ℕ) → In g all → In h all → stand_in g.at all bys ≡ 0 → stand_in h.at all bys ≡ 0 → master_of s g ≡ some m
      → master_of s h ≡ some k → (m ≡ k → ⊥) → is_equal s g m h k ≡ false)
      → (c d : Column) → In c p.columns → In d p.columns → c.is_time_lem ≡ true → d.is_time_lem ≡ true → (c.channel ≡ d.channel → ⊥)
      → is_equal s c.group c.channel d.group d.channel ≡ false
  plan_distinct u c d i j t v y =
      let a = timed_master rs s all bys c (known.sourced c i) t in
      let b = timed_master rs s all bys d (known.sourced d j) v in
      u c.group d.group c.channel d.channel (known.sourced c i).group_in (known.sourced d j).group_in a.1 b.1 a.0 b.0 y
