-- Planning: where every column comes from, which master it names, and that every channel is one column or one omission.
use Prim.Native.Nat.{ℕ, zero, suc, ◌+◌, ◌≤◌, ◌<◌}
use mathlib.Core.List.{List, [], ◌∷◌, ◌++◌}
use Rattle.std.specs.Prelude.{◌≡◌, Bool, true, false, ◌⊎◌, length}
use Rattle.std.proofs.Math.Path.{refl, ap, subst}
use Rattle.std.proofs.Common.{sym, ◌∙◌, inl, inr, arith}
use Rattle.std.proofs.Math.Option.{Option, none, some}
use Rattle.base.specs.Choice.{pick, if_eq}
use Rattle.base.specs.ChoiceLaws.{eq_yes, eq_no}
use Rattle.base.specs.Checked.{ok, fine}
use Rattle.mdf.specs.Group.{is_storage}
use Rattle.plan.specs.Channel.{fits}
use Rattle.plan.specs.Rules.{Rules}
use Rattle.plan.specs.Photos.{photos_of, photos_in}
use Rattle.plan.specs.Columns.{SrcGroup, master_of, stand_in, standing, TimeOf, time, untimed, differs, time_of, no_signal, Column, Omission, Plan, with_column, with_omission, time_column, on_planned, time_on, with_time, new_time_in, Decision, omitted, kept, decide, size_of_signal, with_decision, plan_channels, own_master, plan_timed, plan_group, plan_groups, plan, omission_addresses}
use Rattle.result.specs.Recording.{reason_for, OmissionDue, SignalDue}
use Rattle.result.specs.Guarantee.{In, here, there, columns_of, omissions_of, column_at, IsTime, Kinded}
use Rattle.plan_laws.specs.Answers.{ok_same, true≢false, with_ok, eq_cases, pick_cases, or_not}
use Rattle.plan_laws.specs.Lists.{in_none, in_cases, in_one, same, same_yes, same_no, occurs, occurs-append, occurs_in, in_occurs, no_longer}
use Rattle.plan_laws.specs.GroupLaws.{all_addresses, all_channels}
use Rattle.plan_laws.specs.SourceLaws.{own_addresses, own-within, group_unique, channel-group, channel_once, channel_no_group}
use Rattle.plan_laws.specs.DecideLaws.{none≢some, some_same, master_known, StoodBy, Sound, Timed, time_known, time_own, time_same, time≢untimed, time≢differs, standing_itself, standing-other, decide-kept, decide_reason, kept-due, master_unsigned, signal_few}
use Rattle.plan_laws.specs.MasterLaws.{time_differs}
use Rattle.plan_laws.specs.ColumnLaws.{times_at, times_of, signals_of, column-more, omission_more, signals_more, times-at_signal, times_signal, times-at-here, times-at-other, times-timed, times_in, times_none, times-within, time_found, time_missing, TimeDue, NamesTime, named-later, GivenDue, given-due, given-later}

-- ---- what is known of one column

-- a time column is its group's master, for which none stands; the channel of a signal column has no reason
abbrev Made : Rules → List ℕ → List SrcGroup → List ℕ → Column → Bool → Type 0
Made rs s all bys c true = (master_of s c.group ≡ some c.channel) × (stand_in c.group.at all bys ≡ 0)
Made rs s all bys c false = reason_for rs.table s c.group.at c.channel ≡ 0

pub record Sourced (rs : Rules) (s : List ℕ) (all : List SrcGroup) (bys : List ℕ) (c : Column) : Type 0 where
  pub group_in : In c.group all
  pub stored : is_storage s c.group.at ≡ false
  pub channel_in : In c.channel c.group.channels
  pub fitting : fits s c.group.at c.channel ≡ true
  pub made : Made rs s all bys c c.is_time_lem
  pub signal : SignalDue rs.table s c.channel c.signal_of
  pub referred : photos_in rs.photos s c.channel ≡ fine
  pub refers : c.photos ≡ photos_of rs.photos s c.channel

pub timed_master : (rs : Rules) (s : List ℕ) (all : List SrcGroup) (bys : List ℕ) (c : Column) → Sourced rs s all bys c → c.is_time_lem ≡ true
    → (master_of s c.group ≡ some c.channel) × (stand_in c.group.at all bys ≡ 0)
timed_master rs s all bys c h e = let k : Made rs s all bys c true = rw e at h.made in k

pub made_kinded : (rs : Rules) (s : List ℕ) (all : List SrcGroup) (bys : List ℕ) (c : Column) (t : Bool) → Made rs s all bys c t → Kinded rs.table s c t
made_kinded rs s all bys c true h = (master_known s c.group c.channel h.0).master.first
made_kinded rs s all bys c false h = h

-- ---- a column that is named comes before those that name it

-- the columns of a list with one more
last_cases : (j : ℕ) (cs : List Column) {c d : Column} → column_at j (cs ++ (c ∷ [])) ≡ some d → ((column_at j cs ≡ some d) × (j < length cs)) ⊎ ((j ≡ length cs) × (d ≡ c))
unfolding column_at
last_cases zero [] e = inr (refl, some_same (sym e))
last_cases (suc j) [] e = absurd (none≢some e)
last_cases zero (b ∷ cs) e = inl (e, omega arith)
last_cases (suc j) (b ∷ cs) {c} {d} e = go (last_cases j cs e)
  where
    go : ((column_at j cs ≡ some d) × (j < length cs)) ⊎ ((j ≡ length cs) × (d ≡ c)) → ((column_at j cs ≡ some d) × (suc j < suc (length cs))) ⊎ ((suc j ≡ suc (length cs)) × (d ≡ c))
    go (inl q) = inl (q.0, omega (arith, q.1))
    go (inr q) = inr (ap suc q.0, q.1)

timed_before : (cs : List Column) (c : Column) (k : ℕ) (o : TimeOf) → c.is_time_lem ≡ false → c.master ≡ some k → TimeDue (cs ++ (c ∷ [])) c o → k < length cs
timed_before cs c k (time t m) f w h = go (last_cases h.0 cs h.3.there)
  where
    go : ((column_at h.0 cs ≡ some h.1) × (h.0 < length cs)) ⊎ ((h.0 ≡ length cs) × (h.1 ≡ c)) → k < length cs
    go (inl q) = omega (arith, q.1, some_same (sym w ∙ h.2))
    go (inr q) = absurd (true≢false (sym h.3.timed ∙ ap (λ (e : Column). e.is_time_lem) q.1 ∙ f))
timed_before cs c k untimed f w h = absurd (none≢some (sym h ∙ w))
timed_before cs c k differs f w h = absurd (none≢some (sym h ∙ w))

named_before_lem : (s : List ℕ) (all : List SrcGroup) (bys : List ℕ) (cs : List Column) (c : Column) (k : ℕ) (t : Bool) → c.is_time_lem ≡ t → c.master ≡ some k
    → NamesTime s all bys (cs ++ (c ∷ [])) c t → k < length cs
named_before_lem s all bys cs c k true f w h = absurd (none≢some (sym h ∙ w))
named_before_lem s all bys cs c k false f w h = timed_before cs c k (time_of s all bys c.group) f w h

-- ---- what is known of a plan; n fragments were found in the walk
pub record Planned (rs : Rules) (s : List ℕ) (all : List SrcGroup) (bys : List ℕ) (n : ℕ) (p : Plan) : Type 0 where
  pub sourced : (c : Column) → In c p.columns → Sourced rs s all bys c
  pub omitted : (o : Omission) → In o p.omissions → OmissionDue rs.table s all o
  pub named : (c : Column) → In c p.columns → NamesTime s all bys p.columns c c.is_time_lem
  pub before : (j k : ℕ) (c : Column) → column_at j p.columns ≡ some c → c.master ≡ some k → k < j
  pub times_once : (a : ℕ) → times_at a p.columns ≤ 1
  pub signals : n + signals_of p.columns ≡ p.fragments
  pub few : p.fragments ≤ 1024

-- columns and omissions that are about x
unfoldable pub total : ℕ → Plan → ℕ
total x p = columns_of x p.columns + omissions_of x p.omissions

module _ (rs : Rules) (s : List ℕ) (all : List SrcGroup) (bys : List ℕ) (n : ℕ) where
  -- an omission changes no column
  omitted-planned : (p : Plan) (o : Omission) → Planned rs s all bys n p → OmissionDue rs.table s all o → Planned rs s all bys n (with_omission o.at o.reason p)
  omitted-planned p o h k =
      record { sourced = h.sourced; omitted = λ u i. each u (in_cases p.omissions i); named = h.named; before = h.before; times_once = h.times_once; signals = h.signals; few = h.few }
    where
      each : (u : Omission) → In u p.omissions ⊎ In u (o ∷ []) → OmissionDue rs.table s all u
      each u (inl i) = h.omitted u i
      each u (inr i) = subst (OmissionDue rs.table s all) (sym (in_one i)) k

  -- one column more
  column-planned : (p : Plan) (c : Column) → Planned rs s all bys n p → Sourced rs s all bys c → NamesTime s all bys (p.columns ++ (c ∷ [])) c c.is_time_lem
      → ((a : ℕ) → times_at a (p.columns ++ (c ∷ [])) ≤ 1) → p.fragments + size_of_signal c.signal_of ≤ 1024
      → Planned rs s all bys n (with_column c (size_of_signal c.signal_of) p)
  column-planned p c h k m t f =
      record {
        sourced = λ d i. source d (in_cases p.columns i);
        omitted = h.omitted;
        named = λ d i. name d (in_cases p.columns i);
        before = λ j k d q w. earlier j k d w (last_cases j p.columns q);
        times_once = t;
        signals = rw (signals_more p.columns c) (omega (arith, h.signals));
        few = f;
      }
    where
      source : (d : Column) → In d p.columns ⊎ In d (c ∷ []) → Sourced rs s all bys d
      source d (inl i) = h.sourced d i
      source d (inr i) = subst (Sourced rs s all bys) (sym (in_one i)) k

      name : (d : Column) → In d p.columns ⊎ In d (c ∷ []) → NamesTime s all bys (p.columns ++ (c ∷ [])) d d.is_time_lem
      name d (inl i) = named-later s all bys p.columns (c ∷ []) d d.is_time_lem (h.named d i)
      name d (inr i) = subst (λ (e : Column). NamesTime s all bys (p.columns ++ (c ∷ [])) e e.is_time_lem) (sym (in_one i)) m

      earlier : (j k : ℕ) (d : Column) → d.master ≡ some k → ((column_at j p.columns ≡ some d) × (j < length p.columns)) ⊎ ((j ≡ length p.columns) × (d ≡ c)) → k < j
      earlier j k d w (inl q) = h.before j k d q.0 w
      earlier j k d w (inr q) =
          omega (arith, q.0, named_before_lem s all bys p.columns c k c.is_time_lem refl (ap (λ (e : Column). e.master) (sym q.1) ∙ w) m)

-- ---- the channels of a group

-- how often x stands among the channels other than own
unfoldable pub others : ℕ → ℕ → List ℕ → ℕ
others own x [] = 0
others own x (c ∷ cs) = if_eq c own 0 (same c x) + others own x cs

others-own : (own : ℕ) (cs : List ℕ) → others own own cs ≡ 0
unfolding others
others-own own [] = refl
others-own own (c ∷ cs) =
    or_not c own
    (λ e. rw (← eq_yes c own 0 (same c own) e refl) (omega (arith, others-own own cs)))
    (λ e. rw (← eq_no c own 0 (same c own) e refl) (omega (arith, others-own own cs, same_no c own e)))

others_else : (own x : ℕ) (cs : List ℕ) → (x ≡ own → ⊥) → others own x cs ≡ occurs x cs
unfolding others occurs
others_else own x [] n = refl
others_else own x (c ∷ cs) n =
    or_not c own
    (λ e. rw (← eq_yes c own 0 (same c x) e refl) (omega (arith, others_else own x cs n, same_no c x (λ q. n (sym q ∙ e)))))
    (λ e. rw (← eq_no c own 0 (same c x) e refl) (omega (arith, others_else own x cs n)))

others-few : (own x : ℕ) (cs : List ℕ) → others own x cs ≤ occurs x cs
unfolding others occurs
others-few own x [] = omega arith
others-few own x (c ∷ cs) =
    or_not c own
    (λ e. rw (← eq_yes c own 0 (same c x) e refl) (omega (arith, others-few own x cs)))
    (λ e. rw (← eq_no c own 0 (same c x) e refl) (omega (arith, others-few own x cs)))

-- from plan p to plan q: channels cs other than own were planned, and no time column
pub record ChannelsDone (rs : Rules) (s : List ℕ) (all : List SrcGroup) (bys : List ℕ) (n own : ℕ) (cs : List ℕ) (p q : Plan) : Type 0 where
  pub planned : Planned rs s all bys n q
  pub totals : (x : ℕ) → total x q ≡ total x p + others own x cs
  pub times : (x : ℕ) → times_of x q.columns ≡ times_of x p.columns

module _ (rs : Rules) (s : List ℕ) (all : List SrcGroup) (bys : List ℕ) (n : ℕ) (g : SrcGroup) (m : Option ℕ) (gin : In g all) (stored : is_storage s g.at ≡ false) where
  -- the channel c after its decision
  pub record ChannelDone (c : ℕ) (p q : Plan) : Type 0 where
    pub planned : Planned rs s all bys n q
    pub due : GivenDue q.columns m g.records (time_of s all bys g)
    pub totals : (x : ℕ) → total x q ≡ total x p + same c x
    pub times : (x : ℕ) → times_of x q.columns ≡ times_of x p.columns

  channel_done : (c : ℕ) (p : Plan) (d : Decision) → Planned rs s all bys n p → GivenDue p.columns m g.records (time_of s all bys g)
      → In c g.channels → (c ≡ own_master (master_of s g) → ⊥) → decide rs.photos rs.table s p.fragments g.at c ≡ ok d
      → ChannelDone c p (with_decision g m c (photos_of rs.photos s c) p d)
  unfolding total
  channel_done c p (omitted r) h k i o e =
      let w = decide_reason rs.photos rs.table s p.fragments g.at c (omitted r) e in
      record {
        planned = omitted-planned rs s all bys n p (record { at = c; reason = r }) h (OmissionDue.of_channel g gin stored i w.0 w.1);
        due = k;
        totals = λ x. rw (omission_more x p.omissions (record { at = c; reason = r })) (omega arith);
        times = λ x. refl;
      }
  channel_done c p (kept d) h k i o e =
      let col : Column = record { group = g; channel = c; is_time_lem = false; master = m; signal_of = d; photos = photos_of rs.photos s c } in
      let f = decide-kept rs.photos rs.table s p.fragments g.at c d e in
      let later = given-later p.columns (col ∷ []) m g.records (time_of s all bys g) k in
      record {
        planned = column-planned rs s all bys n p col h
            (record { group_in = gin; stored = stored; channel_in = i; fitting = f.fitting; made = decide_reason rs.photos rs.table s p.fragments g.at c (kept d) e; signal = kept-due rs.table s p.fragments c d f.signal; referred = f.referred; refers = refl })
            (given-due (p.columns ++ (col ∷ [])) col (time_of s all bys g) later)
            (λ a. rw (times-at_signal p.columns col refl a) (h.times_once a))
            (signal_few rs.table s p.fragments c d h.few f.signal);
        due = later;
        totals = λ x. rw (column-more x p.columns col) (omega arith);
        times = λ x. times_signal p.columns col refl x;
      }

  channels_done : (cs : List ℕ) (p q : Plan) → Planned rs s all bys n p → GivenDue p.columns m g.records (time_of s all bys g)
      → ((c : ℕ) → In c cs → In c g.channels) → plan_channels rs s g (own_master (master_of s g)) m cs p ≡ ok q
      → ChannelsDone rs s all bys n (own_master (master_of s g)) cs p q
  unfolding plan_channels others
  channels_done [] p q h k i e =
      subst (ChannelsDone rs s all bys n (own_master (master_of s g)) [] p) (ok_same e)
      (record { planned = h; totals = λ x. omega arith; times = λ x. refl })
  channels_done (c ∷ cs) p q h k i e =
      let own : ℕ = own_master (master_of s g) in
      eq_cases c own _ _ e
      (λ o t. let r = channels_done cs p q h k (λ x j. i x (there j)) t in
      record {
        planned = r.planned;
        totals = λ x. rw (← eq_yes c own 0 (same c x) o refl) (omega (arith, r.totals x));
        times = r.times;
      })
      (λ o t. with_ok (decide rs.photos rs.table s p.fragments g.at c) _ t (λ d b t.
      let a = channel_done c p d h k (i c here) o b in
      let r = channels_done cs (with_decision g m c (photos_of rs.photos s c) p d) q a.planned a.due (λ x j. i x (there j)) t in
      record {
        planned = r.planned;
        totals = λ x. rw (← eq_no c own 0 (same c x) o refl) (omega (arith, r.totals x, a.totals x));
        times = λ x. r.times x ∙ a.times x;
      }))

-- ---- time columns

-- column k of plan q is the time column of t, made of m, with g's number of records
pub record TimeIs (q : Plan) (g t : SrcGroup) (m k : ℕ) : Type 0 where
  pub column : Column
  pub is_in : In column q.columns
  pub of_channel : column.channel ≡ m
  pub is_time_lem : IsTime q.columns k t m g.records column

-- from plan p to plan q: the time column of t, made of m, is there
pub record TimeDone (rs : Rules) (s : List ℕ) (all : List SrcGroup) (bys : List ℕ) (n : ℕ) (g t : SrcGroup) (m : ℕ) (p q : Plan) : Type 0 where
  pub planned : Planned rs s all bys n q
  pub due : GivenDue q.columns (time_column t.at 0 q.columns) g.records (time t m)
  pub totals : (x : ℕ) → total x q + times_of x p.columns ≡ total x p + times_of x q.columns
  pub grown : (x : ℕ) → times_of x p.columns ≤ times_of x q.columns
  pub is_there : 1 ≤ times_of m q.columns

module _ (rs : Rules) (s : List ℕ) (all : List SrcGroup) (bys : List ℕ) (n : ℕ) (once : (x : ℕ) → occurs x (all_addresses all) ≤ 1) where
  module _ (g t : SrcGroup) (m : ℕ) (timed : Timed s all bys g t m) where
    -- a time column of the group at t's address is t's, made of m
    time_is : (q : Plan) (k : ℕ) → Planned rs s all bys n q → time_column t.at 0 q.columns ≡ some k → TimeIs q g t m k
    time_is q k h e =
        let f = time_found t.at 0 q.columns k e in
        let d = f.column in
        let w = h.sourced d f.is_in in
        let same : d.group ≡ t = group_unique all once w.group_in timed.is_in f.of_group in
        let made : d.channel ≡ m = some_same (sym (timed_master rs s all bys d w f.timed).0 ∙ ap (master_of s) same ∙ timed.master) in
        let number : f.index ≡ k = omega (arith, f.number) in
        record {
          column = d;
          is_in = f.is_in;
          of_channel = made;
          is_time_lem = record {
            there = ap (λ (i : ℕ). column_at i q.columns) (sym number) ∙ f.place;
            timed = f.timed;
            of_group = f.of_group;
            of_channel = made;
            as_many = ap (λ (h : SrcGroup). h.records) same ∙ timed.as_many;
          };
        }

    -- where there is one, it is due
    time_due : (q : Plan) → Planned rs s all bys n q → (o : Option ℕ) → time_column t.at 0 q.columns ≡ o → 1 ≤ times_at t.at q.columns
        → GivenDue q.columns o g.records (time t m)
    time_due q h none e l = absurd (omega (arith, time_missing t.at 0 q.columns e))
    time_due q h (some k) e l = let f = time_is q k h e in (k, f.column, refl, f.is_time_lem)

    new_planned : (p : Plan) → Planned rs s all bys n p → time_column t.at 0 p.columns ≡ none → photos_in rs.photos s m ≡ fine → Planned rs s all bys n (with_column (time_on rs.photos s t m) 0 p)
    new_planned p h e r =
        let b = master_known s t m timed.master in
        column-planned rs s all bys n p (time_on rs.photos s t m) h
        (record { group_in = timed.is_in; stored = b.stored; channel_in = b.master.is_in; fitting = b.master.fitting; made = (timed.master, timed.itself); signal = master_unsigned rs.table s m b.master.typed; referred = r; refers = refl })
        refl
        (λ a. or_not t.at a
        (λ q. omega (arith, times-at-here p.columns (time_on rs.photos s t m) refl a q, ap (λ (y : ℕ). times_at y p.columns) q, time_missing t.at 0 p.columns e))
        (λ q. omega (arith, times-at-other p.columns (time_on rs.photos s t m) refl a q, h.times_once a)))
        (omega (arith, h.few))

    new_done : (p : Plan) → Planned rs s all bys n p → time_column t.at 0 p.columns ≡ none → photos_in rs.photos s m ≡ fine → TimeDone rs s all bys n g t m p (with_column (time_on rs.photos s t m) 0 p)
    unfolding total
    new_done p h e r =
        let q = with_column (time_on rs.photos s t m) 0 p in
        let w = new_planned p h e r in
        record {
          planned = w;
          due = time_due q w (time_column t.at 0 q.columns) refl (omega (arith, times-at-here p.columns (time_on rs.photos s t m) refl t.at refl));
          totals = λ x. omega (arith, column-more x p.columns (time_on rs.photos s t m), times-timed p.columns (time_on rs.photos s t m) refl x);
          grown = λ x. omega (arith, times-timed p.columns (time_on rs.photos s t m) refl x);
          is_there = omega (arith, times-timed p.columns (time_on rs.photos s t m) refl m, same_yes m m refl);
        }

    old_done : (p : Plan) (k : ℕ) → Planned rs s all bys n p → time_column t.at 0 p.columns ≡ some k → TimeDone rs s all bys n g t m p p
    old_done p k h e =
        let f = time_is p k h e in
        record {
          planned = h;
          due = (k, f.column, e, f.is_time_lem);
          totals = λ x. refl;
          grown = λ x. omega arith;
          is_there = times_in m p.columns f.column f.is_in f.is_time_lem.timed f.of_channel;
        }

    time_done : (p : Plan) → Planned rs s all bys n p → new_time_in rs.photos s t m p ≡ fine → TimeDone rs s all bys n g t m p (with_time rs.photos s t m p)
    unfolding with_time new_time_in
    time_done p h w = go (time_column t.at 0 p.columns) refl w
      where
        go : (o : Option ℕ) → time_column t.at 0 p.columns ≡ o → on_planned o (photos_in rs.photos s m) fine ≡ fine
            → TimeDone rs s all bys n g t m p (on_planned o (with_column (time_on rs.photos s t m) 0 p) p)
        go none e w = new_done p h e w
        go (some k) e w = old_done p k h e

-- ---- groups

omitted_most : (x a r : ℕ) (p : Plan) → total x (with_omission a r p) ≡ total x p + same a x
unfolding total
omitted_most x a r p = omega (arith, omission_more x p.omissions (record { at = a; reason = r }))

omitted-total : (x a r : ℕ) (p : Plan) → (a ≡ x → ⊥) → total x (with_omission a r p) ≡ total x p
unfolding total
omitted-total x a r p y = omega (arith, omission_more x p.omissions (record { at = a; reason = r }), same_no a x y)

-- the columns and omissions that the channels of a group give but for its own master's
unfoldable pub due : List ℕ → SrcGroup → ℕ → ℕ
due s g x = let given = others (own_master (master_of s g)) x g.channels in pick (is_storage s g.at) 0 given

-- from plan p to plan q: the group g is planned
pub record GroupDone (rs : Rules) (s : List ℕ) (all : List SrcGroup) (bys : List ℕ) (n : ℕ) (g : SrcGroup) (p q : Plan) : Type 0 where
  pub planned : Planned rs s all bys n q
  pub totals : (x : ℕ) → (g.at ≡ x → ⊥) → total x q + times_of x p.columns ≡ total x p + due s g x + times_of x q.columns
  pub most : (x : ℕ) → total x q + times_of x p.columns ≤ total x p + same g.at x + due s g x + times_of x q.columns
  pub grown : (x : ℕ) → times_of x p.columns ≤ times_of x q.columns
  pub own : (m : ℕ) → master_of s g ≡ some m → stand_in g.at all bys ≡ 0 → 1 ≤ times_of m q.columns
  pub stands : (m : ℕ) → master_of s g ≡ some m → (stand_in g.at all bys ≡ 0 → ⊥) → (o : StoodBy s all bys g) → 1 ≤ times_of o.theirs q.columns

due-stored : (s : List ℕ) (g : SrcGroup) (x : ℕ) → is_storage s g.at ≡ false → due s g x ≡ others (own_master (master_of s g)) x g.channels
unfolding due
due-stored s g x e = rw e

module _ (rs : Rules) (s : List ℕ) (all : List SrcGroup) (bys : List ℕ) (n : ℕ) (once : (x : ℕ) → occurs x (all_addresses all) ≤ 1) (sound : Sound s all bys) where
  module _ (g : SrcGroup) (gin : In g all) (stored : is_storage s g.at ≡ false) where
    timed_done : (p q : Plan) (o : TimeOf) → time_of s all bys g ≡ o → Planned rs s all bys n p → plan_timed rs s g o p ≡ ok q → GroupDone rs s all bys n g p q
    timed_done p q (time t m) o h e =
        with_ok (new_time_in rs.photos s t m p) _ e (λ _ w e.
        let u = with_time rs.photos s t m p in
        let a = time_done rs s all bys n once g t m (time_known s all bys sound g t m gin o) p h w in
        let r = channels_done rs s all bys n g (time_column t.at 0 u.columns) gin stored g.channels u q
        a.planned (rw o a.due) (λ c i. i) e in
        record {
          planned = r.planned;
          totals = λ x y. omega (arith, r.totals x, r.times x, a.totals x, due-stored s g x stored);
          most = λ x. omega (arith, r.totals x, r.times x, a.totals x, due-stored s g x stored);
          grown = λ x. omega (arith, r.times x, a.grown x);
          own = λ k b y. let z : m ≡ k = (time_same (sym o ∙ time_own s all bys g k b ∙ standing_itself s all bys g k y)).1 in rw (← z) (omega (arith, r.times m, a.is_there));
          stands = λ k b y c. let z : m ≡ c.theirs = (time_same (sym o ∙ time_own s all bys g k b ∙ standing-other s all bys g k y c)).1 in rw (← z) (omega (arith, r.times m, a.is_there));
        })
    timed_done p q untimed o h e =
        let r = channels_done rs s all bys n g none gin stored g.channels p q h (rw o refl) (λ c i. i) e in
        record {
          planned = r.planned;
          totals = λ x y. omega (arith, r.totals x, r.times x, due-stored s g x stored);
          most = λ x. omega (arith, r.totals x, r.times x, due-stored s g x stored);
          grown = λ x. omega (arith, r.times x);
          own = λ k b y. absurd (time≢untimed (sym o ∙ time_own s all bys g k b ∙ standing_itself s all bys g k y));
          stands = λ k b y c. absurd (time≢untimed (sym o ∙ time_own s all bys g k b ∙ standing-other s all bys g k y c));
        }
    timed_done p q differs o h e =
        let r = channels_done rs s all bys n g none gin stored g.channels (with_omission g.at 1 p) q (omitted-planned rs s all bys n p (record { at = g.at; reason = 1 }) h (OmissionDue.of_group g gin stored refl refl (time_differs s all bys g stored sound gin o))) (rw o refl) (λ c i. i) e in
        record {
          planned = r.planned;
          totals = λ x y. omega (arith, r.totals x, r.times x, due-stored s g x stored, omitted-total x g.at 1 p y);
          most = λ x. omega (arith, r.totals x, r.times x, due-stored s g x stored, omitted_most x g.at 1 p);
          grown = λ x. omega (arith, r.times x);
          own = λ k b y. absurd (time≢differs (sym o ∙ time_own s all bys g k b ∙ standing_itself s all bys g k y));
          stands = λ k b y c. absurd (time≢differs (sym o ∙ time_own s all bys g k b ∙ standing-other s all bys g k y c));
        }

  group_done : (g : SrcGroup) → In g all → (p q : Plan) → Planned rs s all bys n p → plan_group rs s all bys g p ≡ ok q → GroupDone rs s all bys n g p q
  unfolding plan_group due
  group_done g i p q h e =
      pick_cases (is_storage s g.at) _ _ e
      (λ b r. subst (GroupDone rs s all bys n g p) (ok_same r)
      (record {
        planned = h;
        totals = λ x y. rw b (omega arith);
        most = λ x. rw b (omega arith);
        grown = λ x. omega arith;
        own = λ m k _. let z = (master_known s g m k).stored in absurd (true≢false (sym b ∙ z));
        stands = λ m k _ _. let z = (master_known s g m k).stored in absurd (true≢false (sym b ∙ z));
      }))
      (λ b r. timed_done g i b p q (time_of s all bys g) refl h r)

-- the sum of what is due to groups
unfoldable pub due_sum : List ℕ → ℕ → List SrcGroup → ℕ
due_sum s x [] = 0
due_sum s x (g ∷ gs) = due s g x + due_sum s x gs

-- with the omission that each may give itself
unfoldable pub most_sum : List ℕ → ℕ → List SrcGroup → ℕ
most_sum s x [] = 0
most_sum s x (g ∷ gs) = same g.at x + due s g x + most_sum s x gs

-- from plan p to plan q: the groups gs are planned
pub record GroupsDone (rs : Rules) (s : List ℕ) (all : List SrcGroup) (bys : List ℕ) (n : ℕ) (gs : List SrcGroup) (p q : Plan) : Type 0 where
  pub planned : Planned rs s all bys n q
  pub totals : (x : ℕ) → ((g : SrcGroup) → In g gs → g.at ≡ x → ⊥) → total x q + times_of x p.columns ≡ total x p + due_sum s x gs + times_of x q.columns
  pub most : (x : ℕ) → total x q + times_of x p.columns ≤ total x p + most_sum s x gs + times_of x q.columns
  pub grown : (x : ℕ) → times_of x p.columns ≤ times_of x q.columns
  pub own : (g : SrcGroup) (m : ℕ) → In g gs → master_of s g ≡ some m → stand_in g.at all bys ≡ 0 → 1 ≤ times_of m q.columns
  pub stands : (g : SrcGroup) (m : ℕ) → In g gs → master_of s g ≡ some m → (stand_in g.at all bys ≡ 0 → ⊥) → (o : StoodBy s all bys g)
      → 1 ≤ times_of o.theirs q.columns

groups_done : (rs : Rules) (s : List ℕ) (all : List SrcGroup) (bys : List ℕ) (n : ℕ) → ((x : ℕ) → occurs x (all_addresses all) ≤ 1) → Sound s all bys
    → (gs : List SrcGroup) → ((g : SrcGroup) → In g gs → In g all) → (p q : Plan) → Planned rs s all bys n p → plan_groups rs s all bys gs p ≡ ok q
    → GroupsDone rs s all bys n gs p q
unfolding plan_groups due_sum most_sum
groups_done rs s all bys n once sound [] i p q h e =
    subst (GroupsDone rs s all bys n [] p) (ok_same e)
    (record {
      planned = h;
      totals = λ x y. omega arith;
      most = λ x. omega arith;
      grown = λ x. omega arith;
      own = λ g m j b z. absurd (in_none j);
      stands = λ g m j b z o. absurd (in_none j);
    })
groups_done rs s all bys n once sound (g ∷ gs) i p q h e =
    with_ok (plan_group rs s all bys g p) _ e (λ u b t.
    let a = group_done rs s all bys n once sound g (i g here) p u h b in
    let r = groups_done rs s all bys n once sound gs (λ k j. i k (there j)) u q a.planned t in
    record {
      planned = r.planned;
      totals = λ x y. omega (arith, a.totals x (y g here), r.totals x (λ k j. y k (there j)));
      most = λ x. omega (arith, a.most x, r.most x);
      grown = λ x. omega (arith, a.grown x, r.grown x);
      own = λ k m j c z. own_of a r k m j c z;
      stands = λ k m j c z o. stands_of a r k m j c z o;
    })
  where
    own_of : {u : Plan} → GroupDone rs s all bys n g p u → GroupsDone rs s all bys n gs u q → (k : SrcGroup) (m : ℕ) → In k (g ∷ gs) → master_of s k ≡ some m
        → stand_in k.at all bys ≡ 0 → 1 ≤ times_of m q.columns
    own_of a r k m here c z = omega (arith, a.own m c z, r.grown m)
    own_of a r k m (there j) c z = r.own k m j c z

    stands_of : {u : Plan} → GroupDone rs s all bys n g p u → GroupsDone rs s all bys n gs u q → (k : SrcGroup) (m : ℕ) → In k (g ∷ gs) → master_of s k ≡ some m
        → (stand_in k.at all bys ≡ 0 → ⊥) → (o : StoodBy s all bys k) → 1 ≤ times_of o.theirs q.columns
    stands_of a r k m here c z o = omega (arith, a.stands m c z o, r.grown o.theirs)
    stands_of a r k m (there j) c z o = r.stands k m j c z o

-- ---- what is due is one for each channel but the master
due-few : (s : List ℕ) (g : SrcGroup) (x : ℕ) → due s g x ≤ occurs x g.channels
unfolding due
due-few s g x = go (is_storage s g.at)
  where
    go : (t : Bool) → pick t 0 (others (own_master (master_of s g)) x g.channels) ≤ occurs x g.channels
    go true = omega arith
    go false = others-few (own_master (master_of s g)) x g.channels

due-sum-few : (s : List ℕ) (x : ℕ) (gs : List SrcGroup) → due_sum s x gs ≤ occurs x (all_addresses gs)
unfolding due_sum all_addresses occurs
due-sum-few s x [] = omega arith
due-sum-few s x (g ∷ gs) = omega (arith, due-few s g x, due-sum-few s x gs, occurs-append x g.channels (all_addresses gs))

most_sum-few : (s : List ℕ) (x : ℕ) (gs : List SrcGroup) → most_sum s x gs ≤ occurs x (all_addresses gs)
unfolding most_sum all_addresses occurs
most_sum-few s x [] = omega arith
most_sum-few s x (g ∷ gs) = omega (arith, due-few s g x, most_sum-few s x gs, occurs-append x g.channels (all_addresses gs))

due-sum-one : (s : List ℕ) (x : ℕ) (gs : List SrcGroup) → occurs x (all_addresses gs) ≤ 1 → {g : SrcGroup} → In g gs → In x g.channels
    → due_sum s x gs ≡ due s g x
unfolding due_sum all_addresses occurs
due-sum-one s x [] once {g = g} x4 i = elim x4 [ ]
due-sum-one s x (h ∷ gs) once here i =
    omega (arith, due-sum-few s x gs, occurs-append x h.channels (all_addresses gs), occurs_in x h.channels i)
due-sum-one s x (h ∷ gs) once {g = g} (there j) i =
    let k : 1 ≤ occurs x (all_addresses gs) = omega (arith, own-within x gs j, occurs_in x g.channels i) in
    omega (arith, due-few s h x, occurs-append x h.channels (all_addresses gs), due-sum-one s x gs (omega (arith, occurs-append x h.channels (all_addresses gs))) j i)

-- ---- the whole plan
unfoldable pub column_channels : List Column → List ℕ
column_channels [] = []
column_channels (c ∷ cs) = c.channel ∷ column_channels cs

channels_count : (x : ℕ) (cs : List Column) → occurs x (column_channels cs) ≡ columns_of x cs
unfolding occurs column_channels columns_of same
channels_count x [] = refl
channels_count x (c ∷ cs) = omega (arith, channels_count x cs)

channels_length : (cs : List Column) → length (column_channels cs) ≡ length cs
unfolding column_channels
channels_length [] = refl
channels_length (c ∷ cs) = ap suc (channels_length cs)

times-columns : (x : ℕ) (cs : List Column) → times_of x cs ≤ columns_of x cs
unfolding times_of columns_of same
times-columns x [] = omega arith
times-columns x (c ∷ cs) = go c.is_time_lem (times-columns x cs)
  where
    go : (t : Bool) → times_of x cs ≤ columns_of x cs → pick t (same c.channel x) 0 + times_of x cs ≤ same c.channel x + columns_of x cs
    go true h = omega arith
    go false h = omega arith

omissions_count : (x : ℕ) (os : List Omission) → occurs x (omission_addresses os) ≡ omissions_of x os
unfolding occurs omission_addresses omissions_of same
omissions_count x [] = refl
omissions_count x (o ∷ os) = omega (arith, omissions_count x os)

omissions_length : (os : List Omission) → length (omission_addresses os) ≡ length os
unfolding omission_addresses
omissions_length [] = refl
omissions_length (o ∷ os) = ap suc (omissions_length os)

-- a column made of x
record MadeOf (x : ℕ) (cs : List Column) : Type 0 where
  pub column : Column
  pub is_in : In column cs
  pub made : column.channel ≡ x

made_of : (x : ℕ) (cs : List Column) → In x (column_channels cs) → MadeOf x cs
unfolding column_channels
made_of x [] i = absurd (in_none i)
made_of x (c ∷ cs) here = record { column = c; is_in = here; made = refl }
made_of x (c ∷ cs) (there i) = let r = made_of x cs i in record { column = r.column; is_in = there r.is_in; made = r.made }

all_channels_in : (x : ℕ) (gs : List SrcGroup) {g : SrcGroup} → In g gs → In x g.channels → 1 ≤ occurs x (all_channels gs)
unfolding all_channels
all_channels_in x [] {g = g} x3 i = elim x3 [ ]
all_channels_in x (h ∷ gs) here i = omega (arith, occurs-append x h.channels (all_channels gs), occurs_in x h.channels i)
all_channels_in x (h ∷ gs) (there j) i = omega (arith, occurs-append x h.channels (all_channels gs), all_channels_in x gs j i)

signal_within : (cs : List Column) (c : Column) → In c cs → size_of_signal c.signal_of ≤ signals_of cs
unfolding signals_of
signal_within [] c x' = elim x' [ ]
signal_within (d ∷ cs) c here = omega arith
signal_within (d ∷ cs) c (there i) = omega (arith, signal_within cs c i)

abbrev empty_plan : ℕ → Plan
empty_plan n = record { columns = []; omissions = []; fragments = n }

module _ (rs : Rules) (s : List ℕ) (all : List SrcGroup) (bys : List ℕ) (n : ℕ) (p : Plan) (once : (x : ℕ) → occurs x (all_addresses all) ≤ 1)
    (nonzero : occurs 0 (all_addresses all) ≡ 0) (sound : Sound s all bys) (few : n ≤ 1024) (e : plan rs s n all bys ≡ ok p) where
  plan_done : GroupsDone rs s all bys n all (empty_plan n) p
  unfolding plan times_at signals_of column_at
  plan_done =
      groups_done rs s all bys n once sound all (λ g i. i) (empty_plan n) p
      (record { sourced = λ c i. absurd (in_none i); omitted = λ o i. absurd (in_none i); named = λ c i. absurd (in_none i); before = λ j k c q. absurd (none≢some q); times_once = λ a. omega arith; signals = omega arith; few = few }) e

  pub plan-known : Planned rs s all bys n p
  plan-known = plan_done.planned

  -- a time column made of a channel of g is g's, so the channel is g's master, for which none stands
  times_master : (g : SrcGroup) → In g all → (x : ℕ) → In x g.channels → (c : Column) → In c p.columns → c.is_time_lem ≡ true → c.channel ≡ x
      → (c.group ≡ g) × (master_of s g ≡ some x) × (stand_in g.at all bys ≡ 0)
  times_master g i x j c k t q =
      let w = plan-known.sourced c k in
      let z : c.group ≡ g = channel-group all once x w.group_in i (rw q at w.channel_in) j in
      let m = timed_master rs s all bys c w t in
      (z, ap (master_of s) (sym z) ∙ m.0 ∙ ap some q, ap (λ (h : SrcGroup). stand_in h.at all bys) (sym z) ∙ m.1)

  plan-total : (g : SrcGroup) → In g all → is_storage s g.at ≡ false → (x : ℕ) → In x g.channels
      → total x p ≡ others (own_master (master_of s g)) x g.channels + times_of x p.columns
  unfolding total times_of columns_of omissions_of
  plan-total g i f x j =
      omega (arith, plan_done.totals x (λ h k q. channel_no_group all once x i j k q), due-sum-one s x all (once x) i j, due-stored s g x f)

  -- "every channel .. is one column or one omission", but for a master that another stands for
  module _ (g : SrcGroup) (i : In g all) (f : is_storage s g.at ≡ false) (x : ℕ) (j : In x g.channels) where
    -- no master
    pub once_masterless : master_of s g ≡ none → columns_of x p.columns + omissions_of x p.omissions ≡ 1
    unfolding total
    once_masterless q =
        let positive : x ≡ 0 → ⊥ = λ z. omega (arith, nonzero, occurs_in 0 (own_addresses g) (there (rw z at j)), own-within 0 all i) in
        let none-timed : times_of x p.columns ≡ 0 =
        times_none x p.columns (λ c k t r. none≢some (sym q ∙ (times_master g i x j c k t r).1)) in
        let rest : others (own_master (master_of s g)) x g.channels ≡ occurs x g.channels = rw q (others_else 0 x g.channels positive) in
        omega (arith, plan-total g i f x j, channel_once all once x i j)

    -- another channel than the master
    pub once_other : (m : ℕ) → master_of s g ≡ some m → (x ≡ m → ⊥) → columns_of x p.columns + omissions_of x p.omissions ≡ 1
    unfolding total
    once_other m q z =
        let none-timed : times_of x p.columns ≡ 0 =
        times_none x p.columns (λ c k t r. z (some_same (sym (times_master g i x j c k t r).1 ∙ q))) in
        let rest : others (own_master (master_of s g)) x g.channels ≡ occurs x g.channels = rw q (others_else m x g.channels z) in
        omega (arith, plan-total g i f x j, channel_once all once x i j)

    -- the master, for which none stands
    once_master : master_of s g ≡ some x → stand_in g.at all bys ≡ 0 → columns_of x p.columns + omissions_of x p.omissions ≡ 1
    unfolding total
    once_master q y =
        let mine : 1 ≤ times_of x p.columns = plan_done.own g x i q y in
        let single : times_of x p.columns ≤ times_at g.at p.columns =
        times-within x g.at p.columns (λ c k t r. ap (λ (h : SrcGroup). h.at) (times_master g i x j c k t r).0) in
        let rest : others (own_master (master_of s g)) x g.channels ≡ 0 = rw q (others-own x g.channels) in
        omega (arith, plan-total g i f x j, plan-known.times_once g.at)

    -- the master, for which another stands
    pub none-stood : master_of s g ≡ some x → (stand_in g.at all bys ≡ 0 → ⊥) → columns_of x p.columns + omissions_of x p.omissions ≡ 0
    unfolding total
    none-stood q y =
        let none-timed : times_of x p.columns ≡ 0 = times_none x p.columns (λ c k t r. y (times_master g i x j c k t r).2) in
        let rest : others (own_master (master_of s g)) x g.channels ≡ 0 = rw q (others-own x g.channels) in
        omega (arith, plan-total g i f x j)

    pub plan_most : columns_of x p.columns + omissions_of x p.omissions ≤ 1
    plan_most = go (master_of s g) refl
      where
        go : (o : Option ℕ) → master_of s g ≡ o → columns_of x p.columns + omissions_of x p.omissions ≤ 1
        go none q = omega (arith, once_masterless q)
        go (some m) q =
            or_not x m
            (λ z. or_not (stand_in g.at all bys) 0
            (λ y. omega (arith, once_master (q ∙ ap some (sym z)) y))
            (λ y. omega (arith, none-stood (q ∙ ap some (sym z)) y)))
            (λ z. omega (arith, once_other m q z))

    -- where none stands for the group
    pub plan_once : stand_in g.at all bys ≡ 0 → columns_of x p.columns + omissions_of x p.omissions ≡ 1
    plan_once y = go (master_of s g) refl
      where
        go : (o : Option ℕ) → master_of s g ≡ o → columns_of x p.columns + omissions_of x p.omissions ≡ 1
        go none q = once_masterless q
        go (some m) q = or_not x m (λ z. once_master (q ∙ ap some (sym z)) y) (λ z. once_other m q z)

  -- "nothing else is a column"
  pub plan-source : (c : Column) → In c p.columns → In c.group all × (is_storage s c.group.at ≡ false) × In c.channel c.group.channels
  plan-source c i = let w = plan-known.sourced c i in (w.group_in, w.stored, w.channel_in)

  -- every column fits its group's records
  pub plan-fits : (c : Column) → In c p.columns → fits s c.group.at c.channel ≡ true
  plan-fits c i = (plan-known.sourced c i).fitting

  -- the master that stands for a group's is a time column
  pub plan_stands : (g : SrcGroup) (m : ℕ) → In g all → master_of s g ≡ some m → (stand_in g.at all bys ≡ 0 → ⊥) → (o : StoodBy s all bys g)
      → 1 ≤ times_of o.theirs p.columns
  plan_stands = plan_done.stands

  -- a time column is the only one of its channel
  pub plan-single : (c : Column) → In c p.columns → c.is_time_lem ≡ true → columns_of c.channel p.columns ≡ 1
  plan-single c i t =
      let w = plan-known.sourced c i in
      let m = timed_master rs s all bys c w t in
      let h = plan_once c.group w.group_in w.stored c.channel w.channel_in m.1 in
      omega (arith, times_in c.channel p.columns c i t refl, times-columns c.channel p.columns)

  -- no more columns than channels
  pub plan-few : length p.columns ≤ length (all_channels all)
  plan-few =
      let h = no_longer (column_channels p.columns) (all_channels all) each in
      omega (arith, channels_length p.columns)
    where
      each : (x : ℕ) → occurs x (column_channels p.columns) ≤ occurs x (all_channels all)
      each x = go (occurs x (column_channels p.columns)) refl
        where
          go : (k : ℕ) → occurs x (column_channels p.columns) ≡ k → occurs x (column_channels p.columns) ≤ occurs x (all_channels all)
          go zero q = omega arith
          go (suc k) q =
              let r = made_of x p.columns (in_occurs x (column_channels p.columns) (omega arith)) in
              let w = plan-known.sourced r.column r.is_in in
              let i : In x r.column.group.channels = rw r.made at w.channel_in in
              omega (
                arith,
                channels_count x p.columns,
                plan_most r.column.group w.group_in w.stored x i,
                all_channels_in x all w.group_in i,
              )

  -- the fragments of signal data and of the walk together keep within the limit
  pub plan_signals : (c : Column) → In c p.columns → n + size_of_signal c.signal_of ≤ 1024
  plan_signals c i = omega (arith, plan-known.signals, plan-known.few, signal_within p.columns c i)

  -- every omission is about a group or a channel, each at most once
  pub plan-omitted : (x : ℕ) → omissions_of x p.omissions ≤ occurs x (all_addresses all)
  unfolding total times_of columns_of omissions_of
  plan-omitted x = omega (arith, plan_done.most x, most_sum-few s x all, times-columns x p.columns)

  pub plan-few_omissions : length p.omissions ≤ length (all_addresses all)
  plan-few_omissions =
      let h = no_longer (omission_addresses p.omissions) (all_addresses all) (λ x. omega (arith, plan-omitted x, omissions_count x p.omissions)) in
      omega (arith, omissions_length p.omissions)
