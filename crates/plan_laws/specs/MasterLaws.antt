-- Whose master a group has or uses: what planning decides is what document 01 says.
use Prim.Native.Nat.{ℕ, ◌≤◌}
use Rattle.std.specs.Prelude.{List, [], ◌∷◌, ◌++◌, Bool, true, false}
use Rattle.std.proofs.Common.{inl, ap, ◌∙◌, arith}
use Rattle.std.proofs.Math.Logic.{inr}
use Rattle.std.proofs.Math.Option.{Option, none, some}
use Rattle.std.proofs.Math.Path.{◌≡◌, refl, sym, subst}
use Rattle.base.specs.Choice.{if_eq}
use Rattle.base.specs.ChoiceLaws.{eq_yes, eq_no}
use Rattle.mdf.specs.Group.{is_storage}
use Rattle.plan.specs.Channel.{fits, is_master_type, both}
use Rattle.plan.specs.Columns.{SrcGroup, first_master, master_of, remote_link, group_at, TimeOf, time, untimed, differs, on_master, on_group, stand_in, standing, remote_time, time_of, Column}
use Rattle.result.specs.Member.{In, here, there}
use Rattle.result.specs.Recording.{IsMaster, NoMaster, Remote, Uses, Differs}
use Rattle.result.specs.Guarantee.{columns_of, IsTime, StandsFor, SharedTime, TimeFor, MasterDue, NamesMaster}
use Rattle.plan_laws.specs.Answers.{true≢false, eq_cases, pick_cases, or_not}
use Rattle.plan_laws.specs.Lists.{in_none, occurs}
use Rattle.plan_laws.specs.GroupLaws.{all_addresses}
use Rattle.plan_laws.specs.SourceLaws.{group_unique}
use Rattle.plan_laws.specs.DecideLaws.{none≢some, master_known, group_at_lem, StoodBy, Sound, time≢untimed, time≢differs, time_same, standing_itself, standing-other, standing-timed}
use Rattle.plan_laws.specs.ColumnLaws.{TimeDue, NamesTime}

-- ---- the first master

both_of : (a b : Bool) → a ≡ true → b ≡ true → both a b ≡ true
both_of true true p q = refl
both_of true false p q = absurd (true≢false (sym q))
both_of false b p q = absurd (true≢false (sym p))

first-after : (s : List ℕ) (g : ℕ) (before after : List ℕ) (m : ℕ) → ((c : ℕ) → In c before → both (is_master_type s c) (fits s g c) ≡ false)
    → both (is_master_type s m) (fits s g m) ≡ true → first_master s g (before ++ (m ∷ after)) ≡ some m
unfolding first_master
first-after s g [] after m h k = rw k
first-after s g (c ∷ before) after m h k = rw (h c here) (first-after s g before after m (λ d i. h d (there i)) k)

first-none : (s : List ℕ) (g : ℕ) (cs : List ℕ) → ((c : ℕ) → In c cs → both (is_master_type s c) (fits s g c) ≡ false) → first_master s g cs ≡ none
unfolding first_master
first-none s g [] h = refl
first-none s g (c ∷ cs) h = rw (h c here) (first-none s g cs (λ d i. h d (there i)))

none_first : (s : List ℕ) (g : ℕ) (cs : List ℕ) → first_master s g cs ≡ none → (c : ℕ) → In c cs → both (is_master_type s c) (fits s g c) ≡ false
unfolding first_master
none_first s g [] e c i = absurd (in_none i)
none_first s g (b ∷ cs) e c here = pick_cases (both (is_master_type s b) (fits s g b)) _ _ e (λ _ q. absurd (none≢some (sym q))) (λ f _. f)
none_first s g (b ∷ cs) e c (there i) =
    pick_cases (both (is_master_type s b) (fits s g b)) _ _ e (λ _ q. absurd (none≢some (sym q))) (λ _ q. none_first s g cs q c i)

module _ (s : List ℕ) (g : SrcGroup) (stored : is_storage s g.at ≡ false) where
  pub master_of_lem : (m : ℕ) → IsMaster s g.at g.channels m → master_of s g ≡ some m
  unfolding master_of
  master_of_lem m k =
      rw stored (ap (first_master s g.at) k.place
      ∙ first-after s g.at k.before k.after m k.first (both_of (is_master_type s m) (fits s g.at m) k.typed k.fitting))

  none_of : NoMaster s g → master_of s g ≡ none
  unfolding master_of
  none_of h = rw stored (first-none s g.at g.channels h)

  of_none : master_of s g ≡ none → NoMaster s g
  unfolding master_of
  of_none e = none_first s g.at g.channels (rw stored at e)

-- ---- the remote group

pub not_there : (a : ℕ) (gs : List SrcGroup) (t : SrcGroup) → group_at a gs ≡ none → In t gs → t.at ≡ a → ⊥
unfolding group_at
not_there a [] t e i q = in_none i
not_there a (g ∷ gs) t e here q = eq_cases g.at a _ _ e (λ _ r. none≢some (sym r)) (λ n _. n q)
not_there a (g ∷ gs) t e (there i) q = eq_cases g.at a _ _ e (λ _ r. none≢some (sym r)) (λ _ r. not_there a gs t r i q)

module _ (s : List ℕ) (all : List SrcGroup) (bys : List ℕ) (once : (x : ℕ) → occurs x (all_addresses all) ≤ 1) where
  remote_there : (g t : SrcGroup) (m : ℕ) → Remote s all g t m → group_at (remote_link s g.at) all ≡ some t
  remote_there g t m r = go (group_at (remote_link s g.at) all) refl
    where
      go : (o : Option SrcGroup) → group_at (remote_link s g.at) all ≡ o → o ≡ some t
      go none e = absurd (not_there (remote_link s g.at) all t e r.is_in r.linked)
      go (some h) e =
          let k = group_at_lem (remote_link s g.at) all h e in
          ap some (group_unique all once k.0 r.is_in (k.1 ∙ sym r.linked))

  remote_is : (g t : SrcGroup) (m : ℕ) → is_storage s g.at ≡ false → Remote s all g t m
      → time_of s all bys g ≡ if_eq t.records g.records (standing s all bys t m) differs
  unfolding time_of remote_time
  remote_is g t m f r = rw (none_of s g f r.without, remote_there g t m r, master_of_lem s t r.stored m r.master)

  uses_time : (g t : SrcGroup) (m : ℕ) → is_storage s g.at ≡ false → Uses s all g t m → time_of s all bys g ≡ standing s all bys t m
  unfolding time_of
  uses_time g t m f (inl u) = rw (← u.0) (rw (master_of_lem s g f m (subst (λ (h : SrcGroup). IsMaster s h.at h.channels m) (sym u.0) u.1)))
  uses_time g t m f (inr u) = remote_is g t m f u.0 ∙ sym (eq_yes _ _ _ _ u.1 refl)

  pub differs_time : (g : SrcGroup) → is_storage s g.at ≡ false → Differs s all g → time_of s all bys g ≡ differs
  differs_time g f u = remote_is g u.0 u.1 f u.2 ∙ sym (eq_no _ _ _ _ u.3 refl)

-- ---- and back

pub known_master : (s : List ℕ) (t : SrcGroup) (m : ℕ) → master_of s t ≡ some m → IsMaster s t.at t.channels m
known_master s t m e = (master_known s t m e).master.first

-- what the remote group gives
data RemoteTime (s : List ℕ) (all : List SrcGroup) (bys : List ℕ) (g : SrcGroup) (o : TimeOf) : Type 0 where
  nothing : o ≡ untimed → RemoteTime s all bys g o
  given : (t : SrcGroup) (m : ℕ) → Remote s all g t m → o ≡ if_eq t.records g.records (standing s all bys t m) differs → RemoteTime s all bys g o

module _ (s : List ℕ) (all : List SrcGroup) (bys : List ℕ) (g : SrcGroup) (f : is_storage s g.at ≡ false) where
  remote_cases : master_of s g ≡ none → RemoteTime s all bys g (remote_time s all bys g)
  unfolding remote_time
  remote_cases e = group (group_at (remote_link s g.at) all) refl
    where
      rest : SrcGroup → Option ℕ → TimeOf
      rest h o = on_master o untimed (λ x. if_eq h.records g.records (standing s all bys h x) differs)

      master : (h : SrcGroup) → group_at (remote_link s g.at) all ≡ some h → (o : Option ℕ) → master_of s h ≡ o → RemoteTime s all bys g (rest h o)
      master h i none q = RemoteTime.nothing refl
      master h i (some m) q =
          let k = group_at_lem (remote_link s g.at) all h i in
          RemoteTime.given h m (record { without = of_none s g f e; is_in = k.0; linked = k.1; stored = (master_known s h m q).stored; master = known_master s h m q }) refl

      group : (o : Option SrcGroup) → group_at (remote_link s g.at) all ≡ o → RemoteTime s all bys g (on_group o untimed (λ h. rest h (master_of s h)))
      group none q = RemoteTime.nothing refl
      group (some h) q = master h q (master_of s h) refl

  module _ (sound : Sound s all bys) (gin : In g all) where
    standing≢differs : (t : SrcGroup) (m : ℕ) → In t all → standing s all bys t m ≡ differs → ⊥
    standing≢differs t m i e = let k = standing-timed s all bys sound t m i in time≢differs (sym e ∙ k.2)

    pub time_differs : time_of s all bys g ≡ differs → Differs s all g
    unfolding time_of
    time_differs e = own (master_of s g) refl e
      where
        remote : RemoteTime s all bys g (remote_time s all bys g) → remote_time s all bys g ≡ differs → Differs s all g
        remote (RemoteTime.nothing q) r = let z : ◌≡◌ {A = ℕ} 0 1 = cc in absurd (omega arith)
        remote (RemoteTime.given t m k q) r =
            eq_cases t.records g.records _ _ (sym q ∙ r) (λ _ p. absurd (standing≢differs t m k.is_in p)) (λ n _. (t, m, k, n))

        own : (o : Option ℕ) → master_of s g ≡ o → on_master o (remote_time s all bys g) (λ m. standing s all bys g m) ≡ differs → Differs s all g
        own none q r = remote (remote_cases q) r
        own (some m) q r = absurd (standing≢differs g m gin r)

  time_uses : (u : SrcGroup) (n : ℕ) → time_of s all bys g ≡ time u n → (t : SrcGroup) × (m : ℕ) × Uses s all g t m
  unfolding time_of
  time_uses u n e = own (master_of s g) refl e
    where
      remote : RemoteTime s all bys g (remote_time s all bys g) → remote_time s all bys g ≡ time u n → (t : SrcGroup) × (m : ℕ) × Uses s all g t m
      remote (RemoteTime.nothing q) r = absurd (time≢untimed (sym q ∙ r))
      remote (RemoteTime.given t m k q) r =
          eq_cases t.records g.records _ _ (sym q ∙ r) (λ p _. (t, m, inr (k, p))) (λ _ w. absurd (time≢differs w))

      own : (o : Option ℕ) → master_of s g ≡ o → on_master o (remote_time s all bys g) (λ x. standing s all bys g x) ≡ time u n → (t : SrcGroup) × (m : ℕ) × Uses s all g t m
      own none q r = remote (remote_cases q) r
      own (some x) q r = (g, x, inl (refl, known_master s g x q))

-- ---- the guarantee's `masters`

-- the group whose master is used is one of the groups, and its count is that of the group that uses it
uses_in : {s : List ℕ} {all : List SrcGroup} {g t : SrcGroup} {m : ℕ} → In g all → Uses s all g t m → In t all × (t.records ≡ g.records)
uses_in {all = all} i (inl u) = (subst (λ (h : SrcGroup). In h all) u.0 i, ap (λ (h : SrcGroup). h.records) (sym u.0))
uses_in i (inr u) = (u.0.is_in, u.1)

uses_master : {s : List ℕ} {all : List SrcGroup} {g t : SrcGroup} {m : ℕ} → Uses s all g t m → IsMaster s t.at t.channels m
uses_master (inl u) = u.1
uses_master (inr u) = u.0.master

-- each group that another stands for equals it
abbrev pub Standing : List ℕ → List SrcGroup → List ℕ → Type 0
Standing s all bys = (t : SrcGroup) → In t all → (stand_in t.at all bys ≡ 0 → ⊥)
    → (o : StoodBy s all bys t) × ((m : ℕ) → IsMaster s t.at t.channels m → StandsFor s all t m o.by o.theirs)

-- the time column of the group that stands for t
pub shared_time : (s : List ℕ) (all : List SrcGroup) (bys : List ℕ) (cs : List Column) (t : SrcGroup) (m k : ℕ) (d : Column) (o : StoodBy s all bys t)
    → StandsFor s all t m o.by o.theirs → IsMaster s t.at t.channels m → IsTime cs k o.by o.theirs t.records d
    → columns_of o.theirs cs ≡ 1 → SharedTime s all cs t m
shared_time s all bys cs t m k d o e i h n =
    record {
      by = o.by;
      theirs = o.theirs;
      of_group = i;
      master = known_master s o.by o.theirs o.master;
      equal = e;
      number = k;
      column = d;
      is_time_lem = h;
      one = n;
    }

module _ (s : List ℕ) (all : List SrcGroup) (bys : List ℕ) (once : (x : ℕ) → occurs x (all_addresses all) ≤ 1) (stands : Standing s all bys) (cs : List Column)
    (single : (t : SrcGroup) (m k n : ℕ) (d : Column) → IsTime cs k t m n d → columns_of m cs ≡ 1) (c : Column)
    (is_in : In c.group all) (stored : is_storage s c.group.at ≡ false) where
  time_for : (t u : SrcGroup) (m x k : ℕ) (d : Column) → Uses s all c.group t m → standing s all bys t m ≡ time u x → IsTime cs k u x c.group.records d
      → TimeFor s all cs t m c.group.records k d
  unfolding shared_time
  time_for t u m x k d v e h =
      let i = uses_in is_in v in
      or_not (stand_in t.at all bys) 0
      (λ z.
      let w = time_same (sym (standing_itself s all bys t m z) ∙ e) in
      TimeFor.own (subst (λ (y : ℕ). IsTime cs k t y c.group.records d) (sym w.1)
      (subst (λ (y : SrcGroup). IsTime cs k y x c.group.records d) (sym w.0) h)))
      (λ z.
      let o = stands t i.0 z in
      let w = time_same (sym (standing-other s all bys t m z o.0) ∙ e) in
      let k' : IsTime cs k o.0.by o.0.theirs t.records d =
      subst (λ (y : ℕ). IsTime cs k o.0.by o.0.theirs y d) (sym i.1)
      (subst (λ (y : ℕ). IsTime cs k o.0.by y c.group.records d) (sym w.1)
      (subst (λ (y : SrcGroup). IsTime cs k y x c.group.records d) (sym w.0) h)) in
      TimeFor.another
      (shared_time s all bys cs t m k d o.0 (o.1 m (uses_master v)) (uses_master v) k' (single o.0.by o.0.theirs k t.records d k'))
      refl refl i.1)

  -- a master that is used gives a time
  timed≢ : (t : SrcGroup) (m : ℕ) → Uses s all c.group t m → ((u : SrcGroup) (x : ℕ) → time_of s all bys c.group ≡ time u x → ⊥) → ⊥
  timed≢ t m v n =
      let k = standing-timed s all bys (λ h i z. (stands h i z).0) t m (uses_in is_in v).0 in
      n k.0 k.1 (uses_time s all bys once c.group t m stored v ∙ k.2)

  due_master_lem : (o : TimeOf) → time_of s all bys c.group ≡ o → TimeDue cs c o → MasterDue s all cs c
  due_master_lem (time u x) e h =
      record {
        names = λ t m v. (h.0, h.1, h.2, time_for t u m x h.0 h.1 v (sym (uses_time s all bys once c.group t m stored v) ∙ e) h.3);
        only = λ k q. time_uses s all bys c.group stored u x e;
      }
  due_master_lem untimed e h =
      record {
        names = λ t m v. absurd (timed≢ t m v (λ u x q. time≢untimed (sym e ∙ q)));
        only = λ k q. absurd (none≢some (sym h ∙ q));
      }
  due_master_lem differs e h =
      record {
        names = λ t m v. absurd (timed≢ t m v (λ u x q. time≢differs (sym e ∙ q)));
        only = λ k q. absurd (none≢some (sym h ∙ q));
      }

  pub names : (t : Bool) → NamesTime s all bys cs c t → NamesMaster s all cs c t
  names true h = h
  names false h = due_master_lem (time_of s all bys c.group) refl h
