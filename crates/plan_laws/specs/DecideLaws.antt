-- What is known of masters and of a channel that becomes a column.
use Prim.Native.Nat.{ℕ, ◌+◌, ◌≤◌}
use Rattle.std.specs.Prelude.{List, [], ◌∷◌, ◌≡◌, Bool, true, false, ◌⊎◌, eqb}
use Rattle.std.proofs.Math.Path.{refl}
use Rattle.std.proofs.Common.{sym, ap, ◌∙◌, subst, inl, inr, arith, eqb-true, eq-eqb, ne_eqb}
use Rattle.std.proofs.Math.Option.{Option, none, some}
use Rattle.base.specs.Choice.{pick, if_eq}
use Rattle.base.specs.ChoiceLaws.{eq_first, eq_yes, eq_no}
use Rattle.base.specs.Checked.{Checked, ok, refused, Verdict, fine}
use Rattle.mdf.specs.Block.{kind_cg, kind_cn, kind_at, link_at, header_in}
use Rattle.mdf.specs.Chain.{Chain.signal, Found, found, stopped, limits, chain}
use Rattle.mdf.specs.Group.{is_storage}
use Rattle.plan.specs.Table.{treatment}
use Rattle.plan.specs.Channel.{channel_type, fits, is_master_type, both, either}
use Rattle.plan.specs.Photos.{photos_in}
use Rattle.plan.specs.Columns.{kind_ca, SrcGroup, first_master, master_of, remote_link, group_at, TimeOf, time, untimed, differs, on_master, on_group, stand_in, standing, remote_time, time_of, Signal, no_signal, signal_data, Decision, omitted, kept, kept_signal, unfit, further_master, omitted_type, composed, signal_link, stored_at, decide_chain, unless, decide, size_of_signal}
use Rattle.result.specs.Member.{In, here, there}
use Rattle.result.specs.Recording.{leads_to, has_signal, reason_for, SignalDue}
use Rattle.result.specs.Recording as recording
use Rattle.plan_laws.specs.Answers.{refused≢ok, ok_same, with_ok, eq_cases, pick_cases, or_not}
use Rattle.plan_laws.specs.ChainLaws.{chain_fits}
use Rattle.plan_laws.specs.Lists.{in_none}

pub none≢some : {A : Type 0} {x : A} → ◌≡◌ {A = Option A} none (some x) → ⊥
none≢some e = let z : ◌≡◌ {A = ℕ} 0 1 = cc in omega arith

pub some_same : {A : Type 0} {x y : A} → ◌≡◌ {A = Option A} (some x) (some y) → x ≡ y
some_same e = cc

pub both_true : (a b : Bool) → both a b ≡ true → (a ≡ true) × (b ≡ true)
both_true true b e = (refl, e)
both_true false b e = let z : ◌≡◌ {A = ℕ} 0 1 = cc in absurd (omega arith)

-- ---- masters

pub record IsMaster (s : List ℕ) (g : ℕ) (cs : List ℕ) (m : ℕ) : Type 0 where
  pub is_in : In m cs
  pub typed : is_master_type s m ≡ true
  pub fitting : fits s g m ≡ true
  pub first : recording.IsMaster s g cs m

-- it stands first, or after a channel that is none
master_here : (s : List ℕ) (g : ℕ) (cs : List ℕ) (c m : ℕ) → c ≡ m → both (is_master_type s c) (fits s g c) ≡ true → IsMaster s g (c ∷ cs) m
master_here s g cs c m e t =
    let b = both_true (is_master_type s c) (fits s g c) t in
    subst (IsMaster s g (c ∷ cs)) e
    (record {
      is_in = here;
      typed = b.0;
      fitting = b.1;
      first = record { before = []; after = cs; place = refl; typed = b.0; fitting = b.1; first = λ d i. absurd (in_none i) };
    })

master_later : (s : List ℕ) (g : ℕ) (cs : List ℕ) (c m : ℕ) → both (is_master_type s c) (fits s g c) ≡ false → IsMaster s g cs m → IsMaster s g (c ∷ cs) m
master_later s g cs c m n r =
    record {
      is_in = there r.is_in;
      typed = r.typed;
      fitting = r.fitting;
      first = record {
        before = c ∷ r.first.before;
        after = r.first.after;
        place = ap (λ (l : List ℕ). c ∷ l) r.first.place;
        typed = r.typed;
        fitting = r.fitting;
        first = before;
      };
    }
  where
    before : (d : ℕ) → In d (c ∷ r.first.before) → both (is_master_type s d) (fits s g d) ≡ false
    before d here = n
    before d (there i) = r.first.first d i

pub first_master_lem : (s : List ℕ) (g : ℕ) (cs : List ℕ) (m : ℕ) → first_master s g cs ≡ some m → IsMaster s g cs m
unfolding first_master
first_master_lem s g [] m e = absurd (none≢some e)
first_master_lem s g (c ∷ cs) m e =
    pick_cases (both (is_master_type s c) (fits s g c)) (some c) (first_master s g cs) e
    (λ t q. master_here s g cs c m (some_same q) t)
    (λ n q. master_later s g cs c m n (first_master_lem s g cs m q))

-- a group with a master is no VLSD storage group, and its master is one of its channels
pub record HasMaster (s : List ℕ) (g : SrcGroup) (m : ℕ) : Type 0 where
  pub stored : is_storage s g.at ≡ false
  pub master : IsMaster s g.at g.channels m

pub master_known : (s : List ℕ) (g : SrcGroup) (m : ℕ) → master_of s g ≡ some m → HasMaster s g m
unfolding master_of
master_known s g m e =
    pick_cases (is_storage s g.at) none (first_master s g.at g.channels) e
    (λ _ q. absurd (none≢some q))
    (λ f q. record { stored = f; master = first_master_lem s g.at g.channels m q })

pub group_at_lem : (a : ℕ) (gs : List SrcGroup) (t : SrcGroup) → group_at a gs ≡ some t → In t gs × (t.at ≡ a)
unfolding group_at
group_at_lem a [] t e = absurd (none≢some e)
group_at_lem a (g ∷ gs) t e =
    eq_cases g.at a (some g) (group_at a gs) e
    (λ p q. let r : g ≡ t = some_same q in (subst (λ (h : SrcGroup). In h (g ∷ gs)) r here, ap (λ (h : SrcGroup). h.at) (sym r) ∙ p))
    (λ _ q. let r = group_at_lem a gs t q in (there r.0, r.1))

-- the group that stands for t: one of the groups, with a master, as many records, and none stands for it
pub record StoodBy (s : List ℕ) (all : List SrcGroup) (bys : List ℕ) (t : SrcGroup) : Type 0 where
  pub by : SrcGroup
  pub is_in : In by all
  pub found : group_at (stand_in t.at all bys) all ≡ some by
  pub theirs : ℕ
  pub master : master_of s by ≡ some theirs
  pub as_many : by.records ≡ t.records
  pub itself : stand_in by.at all bys ≡ 0

-- each group that another stands for has such a one
abbrev pub Sound : List ℕ → List SrcGroup → List ℕ → Type 0
Sound s all bys = (t : SrcGroup) → In t all → (stand_in t.at all bys ≡ 0 → ⊥) → StoodBy s all bys t

-- the group whose master a group has or uses, or that stands for it
pub record Timed (s : List ℕ) (all : List SrcGroup) (bys : List ℕ) (g t : SrcGroup) (m : ℕ) : Type 0 where
  pub is_in : In t all
  pub master : master_of s t ≡ some m
  pub as_many : t.records ≡ g.records
  pub itself : stand_in t.at all bys ≡ 0

pub time≢untimed : {t : SrcGroup} {m : ℕ} → untimed ≡ time t m → ⊥
time≢untimed e = let z : ◌≡◌ {A = ℕ} 0 1 = cc in omega arith

pub time≢differs : {t : SrcGroup} {m : ℕ} → differs ≡ time t m → ⊥
time≢differs e = let z : ◌≡◌ {A = ℕ} 0 1 = cc in omega arith

pub time_same : {t u : SrcGroup} {m n : ℕ} → time t m ≡ time u n → (t ≡ u) × (m ≡ n)
time_same e = (cc, cc)

-- none stands for t
pub standing_itself : (s : List ℕ) (all : List SrcGroup) (bys : List ℕ) (t : SrcGroup) (m : ℕ) → stand_in t.at all bys ≡ 0 → standing s all bys t m ≡ time t m
unfolding standing
standing_itself s all bys t m e = sym (eq_yes _ _ _ _ e refl)

-- another does
pub standing-other : (s : List ℕ) (all : List SrcGroup) (bys : List ℕ) (t : SrcGroup) (m : ℕ) → (stand_in t.at all bys ≡ 0 → ⊥)
    → (o : StoodBy s all bys t) → standing s all bys t m ≡ time o.by o.theirs
unfolding standing
standing-other s all bys t m e o = sym (eq_no _ _ _ _ e (rw (o.found, o.master)))

-- one or the other, for a group g with as many records as t
standing-known : (s : List ℕ) (all : List SrcGroup) (bys : List ℕ) → Sound s all bys → (g t u : SrcGroup) (m k : ℕ) → In t all → master_of s t ≡ some m
    → t.records ≡ g.records → standing s all bys t m ≡ time u k → Timed s all bys g u k
standing-known s all bys sound g t u m k i q a e =
    or_not (stand_in t.at all bys) 0
    (λ z.
    let c = time_same (sym (standing_itself s all bys t m z) ∙ e) in
    subst (λ (v : SrcGroup). Timed s all bys g v k) c.0 (record { is_in = i; master = q ∙ ap some c.1; as_many = a; itself = z }))
    (λ z.
    let o = sound t i z in
    let c = time_same (sym (standing-other s all bys t m z o) ∙ e) in
    subst (λ (v : SrcGroup). Timed s all bys g v k) c.0
    (record { is_in = o.is_in; master = o.master ∙ ap some c.1; as_many = o.as_many ∙ a; itself = o.itself }))

-- a master gives a time
pub standing-timed : (s : List ℕ) (all : List SrcGroup) (bys : List ℕ) → Sound s all bys → (t : SrcGroup) (m : ℕ) → In t all
    → (u : SrcGroup) × (k : ℕ) × (standing s all bys t m ≡ time u k)
standing-timed s all bys sound t m i =
    or_not (stand_in t.at all bys) 0
    (λ z. (t, m, standing_itself s all bys t m z))
    (λ z. let o = sound t i z in (o.by, o.theirs, standing-other s all bys t m z o))

module _ (s : List ℕ) (all : List SrcGroup) (bys : List ℕ) (sound : Sound s all bys) where
  remote-known : (g t : SrcGroup) (m : ℕ) → remote_time s all bys g ≡ time t m → Timed s all bys g t m
  unfolding remote_time
  remote-known g t m e = group (group_at (remote_link s g.at) all) refl e
    where
      Rest : SrcGroup → Option ℕ → TimeOf
      Rest h o = on_master o untimed (λ x. if_eq h.records g.records (standing s all bys h x) differs)

      master : (h : SrcGroup) → In h all → (o : Option ℕ) → master_of s h ≡ o → Rest h o ≡ time t m → Timed s all bys g t m
      master h i none q r = absurd (time≢untimed r)
      master h i (some x) q r = let b = eq_first _ _ _ _ r time≢differs in standing-known s all bys sound g h t x m i q b.0 b.1

      group : (o : Option SrcGroup) → group_at (remote_link s g.at) all ≡ o → on_group o untimed (λ h. Rest h (master_of s h)) ≡ time t m → Timed s all bys g t m
      group none q r = absurd (time≢untimed r)
      group (some h) q r = master h (group_at_lem _ all h q).0 (master_of s h) refl r

  pub time_known : (g t : SrcGroup) (m : ℕ) → In g all → time_of s all bys g ≡ time t m → Timed s all bys g t m
  unfolding time_of
  time_known g t m i e = go (master_of s g) refl e
    where
      go : (o : Option ℕ) → master_of s g ≡ o → on_master o (remote_time s all bys g) (λ x. standing s all bys g x) ≡ time t m → Timed s all bys g t m
      go none q r = remote-known g t m r
      go (some x) q r = standing-known s all bys sound g g t x m i q refl r

-- a group with a master of its own uses it, or the one that stands for it
pub time_own : (s : List ℕ) (all : List SrcGroup) (bys : List ℕ) (g : SrcGroup) (m : ℕ) → master_of s g ≡ some m → time_of s all bys g ≡ standing s all bys g m
unfolding time_of
time_own s all bys g m e = rw e

-- ---- channels that become columns
omitted≢kept : {r : ℕ} {d : Signal} → ◌≡◌ {A = Checked Decision} (ok (omitted r)) (ok (kept d)) → ⊥
omitted≢kept e = let z : ◌≡◌ {A = ℕ} 0 1 = cc in omega arith

kept_same : {d e : Signal} → ◌≡◌ {A = Checked Decision} (ok (kept d)) (ok (kept e)) → d ≡ e
kept_same e = cc

-- ---- the tests in order

-- a test that gives no reason, and what follows it
past : (v : Checked ℕ) (rest : Checked Decision) {d : Decision} → unless v rest ≡ ok d → (r : ℕ) × (v ≡ ok r) × (if_eq r 0 rest (ok (omitted r)) ≡ ok d)
unfolding unless
past (ok r) rest e = (r, refl, e)
past (refused x p) rest e = absurd (refused≢ok e)

-- a kept channel passed the test
passed : (v : Checked ℕ) (rest : Checked Decision) {k : Signal} → unless v rest ≡ ok (kept k) → (v ≡ ok 0) × (rest ≡ ok (kept k))
passed v rest e =
    let p = past v rest e in
    let q = eq_first _ _ _ _ p.2 omitted≢kept in
    (p.1 ∙ ap ok q.0, q.1)

-- signal data is what the chain at CN link 6 lists; n fragments were found before
abbrev pub SignalKnown : List ℕ → List ℕ → ℕ → ℕ → Signal → Type 0
SignalKnown table s n c no_signal = has_signal table s c ≡ true → link_at s c 5 ≡ 0
SignalKnown table s n c (signal_data fs) = (has_signal table s c ≡ true) × (chain signal limits s n (link_at s c 5) ≡ found fs)

-- link 6 of a channel with signal data; 0 of any other
link_has : (table s : List ℕ) (c : ℕ) → has_signal table s c ≡ true → signal_link table s c ≡ link_at s c 5
unfolding has_signal signal_link if_eq
link_has table s c h = go (eqb (channel_type s c) 1) (eqb (treatment table (channel_type s c)) 2) h
  where
    go : (a b : Bool) → both a (pick b false true) ≡ true → pick a (pick b 0 (link_at s c 5)) 0 ≡ link_at s c 5
    go true true e = let z : ◌≡◌ {A = ℕ} 0 1 = cc in absurd (omega arith)
    go true false e = refl
    go false b e = let z : ◌≡◌ {A = ℕ} 0 1 = cc in absurd (omega arith)

link-lacks : (table s : List ℕ) (c : ℕ) → has_signal table s c ≡ false → signal_link table s c ≡ 0
unfolding has_signal signal_link if_eq
link-lacks table s c h = go (eqb (channel_type s c) 1) (eqb (treatment table (channel_type s c)) 2) h
  where
    go : (a b : Bool) → both a (pick b false true) ≡ false → pick a (pick b 0 (link_at s c 5)) 0 ≡ 0
    go true true e = refl
    go true false e = let z : ◌≡◌ {A = ℕ} 0 1 = cc in absurd (omega arith)
    go false b e = refl

true_or : (b : Bool) → (b ≡ true) ⊎ (b ≡ false)
true_or true = inl refl
true_or false = inr refl

signal_kept_lem : (table s : List ℕ) (n c : ℕ) (d : Signal) (v : Found) → has_signal table s c ≡ true → chain signal limits s n (link_at s c 5) ≡ v → kept_signal v ≡ ok (kept d)
    → SignalKnown table s n c d
signal_kept_lem table s n c d (found fs) t q e = subst (SignalKnown table s n c) (kept_same e) (t, q)
signal_kept_lem table s n c d (stopped number place fs) t q e = absurd (refused≢ok e)

chain-decided : (table s : List ℕ) (n c : ℕ) (d : Signal) → decide_chain s n (signal_link table s c) ≡ ok (kept d) → SignalKnown table s n c d
unfolding decide_chain
chain-decided table s n c d e =
    eq_cases (signal_link table s c) 0 _ _ e
    (λ z q. subst (SignalKnown table s n c) (kept_same q) (λ h. sym (link_has table s c h) ∙ z))
    (λ z q. led (true_or (has_signal table s c)) z q)
  where
    led : (has_signal table s c ≡ true) ⊎ (has_signal table s c ≡ false) → (signal_link table s c ≡ 0 → ⊥)
        → kept_signal (chain signal limits s n (signal_link table s c)) ≡ ok (kept d) → SignalKnown table s n c d
    led (inl h) z q = signal_kept_lem table s n c d _ h refl (rw (link_has table s c h) at q)
    led (inr h) z q = absurd (z (link-lacks table s c h))

pub record KeptAs (photos : Bool) (table s : List ℕ) (n g c : ℕ) (d : Signal) : Type 0 where
  pub fitting : fits s g c ≡ true
  pub not_master : is_master_type s c ≡ false
  pub referred : photos_in photos s c ≡ fine
  pub signal : SignalKnown table s n c d

fit_known : (s : List ℕ) (g c : ℕ) → ◌≡◌ {A = Checked ℕ} (ok (unfit s g c)) (ok 0) → fits s g c ≡ true
unfolding unfit
fit_known s g c e = go (fits s g c) (ok_same e)
  where
    go : (b : Bool) → ◌≡◌ {A = ℕ} (pick b 0 2) 0 → b ≡ true
    go true q = refl
    go false q = absurd (omega (arith, q))

no_master_lem : (s : List ℕ) (c : ℕ) → ◌≡◌ {A = Checked ℕ} (ok (further_master s c)) (ok 0) → is_master_type s c ≡ false
unfolding further_master
no_master_lem s c e = go (is_master_type s c) (ok_same e)
  where
    go : (b : Bool) → ◌≡◌ {A = ℕ} (pick b 3 0) 0 → b ≡ false
    go true q = absurd (omega (arith, q))
    go false q = refl

pub decide-kept : (photos : Bool) (table s : List ℕ) (n g c : ℕ) (d : Signal) → decide photos table s n g c ≡ ok (kept d) → KeptAs photos table s n g c d
unfolding decide
decide-kept photos table s n g c d e =
    let type = passed _ _ e in
    let chosen = passed _ _ type.1 in
    let fit = passed _ _ chosen.1 in
    let master = passed _ _ fit.1 in
    let composition = passed _ _ master.1 in
    let storage = passed _ _ composition.1 in
    with_ok (photos_in photos s c) _ storage.1 (λ _ h e.
    record { fitting = fit_known s g c fit.0; not_master = no_master_lem s c master.0; referred = h; signal = chain-decided table s n c d e })

pub kept-due : (table s : List ℕ) (n c : ℕ) (d : Signal) → SignalKnown table s n c d → SignalDue table s c d
kept-due table s n c no_signal k = k
kept-due table s n c (signal_data fs) k = (k.0, n, k.1)

-- a master has none
pub master_unsigned : (table s : List ℕ) (m : ℕ) → is_master_type s m ≡ true → SignalDue table s m no_signal
unfolding is_master_type has_signal
master_unsigned table s m h t =
    let one : channel_type s m ≡ 1 = eqb-true (channel_type s m) 1 (both_true _ _ t).0 in
    let g : either (eqb 1 2) (eqb 1 3) ≡ true = rw one at h in
    let z : ◌≡◌ {A = ℕ} 0 1 = cc in
    absurd (omega arith)

-- ---- reasons

leads_none : (s : List ℕ) (a k : ℕ) → a ≡ 0 → leads_to s a k ≡ false
unfolding leads_to
leads_none s a k e = sym (eq_yes _ _ _ _ e refl)

leads_as : (s : List ℕ) (a k : ℕ) → (a ≡ 0 → ⊥) → leads_to s a k ≡ eqb (kind_at s a) k
unfolding leads_to
leads_as s a k n = sym (eq_no _ _ _ _ n refl)

-- the decision is the reason r, or no reason
abbrev pub Reasoned : ℕ → Decision → Type 0
Reasoned r (omitted k) = (k ≡ r) × (k ≡ 0 → ⊥)
Reasoned r (kept d) = r ≡ 0

-- a test and what follows it give the first reason of both
first_reason : (v : Checked ℕ) (rest : Checked Decision) (d : Decision) (a b : ℕ) → unless v rest ≡ ok d
    → ((r : ℕ) → v ≡ ok r → r ≡ a) → (rest ≡ ok d → Reasoned b d) → Reasoned (if_eq a 0 b a) d
first_reason v rest d a b e f g =
    let p = past v rest e in
    eq_cases p.0 0 _ _ p.2
    (λ z q. subst (λ (x : ℕ). Reasoned x d) (eq_yes _ _ _ _ (sym (f p.0 p.1) ∙ z) refl) (g q))
    (λ z q. subst (Reasoned (if_eq a 0 b a)) (ok_same q)
    (f p.0 p.1 ∙ eq_no _ _ _ _ (λ y. z (f p.0 p.1 ∙ y)) refl, z))

-- the parts of `reasonFor`
abbrev composed_reason : List ℕ → ℕ → ℕ
composed_reason s c = pick (leads_to s (link_at s c 1) kind_ca) 5 (pick (leads_to s (link_at s c 1) kind_cn) 6 0)

abbrev stored_reason : List ℕ → List ℕ → ℕ → ℕ
stored_reason table s c = pick (both (has_signal table s c) (leads_to s (link_at s c 5) kind_cg)) 7 0

composed_reason_lem : (s : List ℕ) (c r : ℕ) → composed s c ≡ ok r → r ≡ composed_reason s c
unfolding composed if_eq
composed_reason_lem s c r e =
    or_not (link_at s c 1) 0
    (λ z. sym (ok_same (rw (eq-eqb (link_at s c 1) 0 z) at e)) ∙ rw (leads_none s (link_at s c 1) kind_ca z, leads_none s (link_at s c 1) kind_cn z))
    (λ z. with_ok (header_in s (link_at s c 1)) _ (rw (ne_eqb (link_at s c 1) 0 z) at e) (λ _ _ q.
    sym (ok_same q) ∙ rw (leads_as s (link_at s c 1) kind_ca z, leads_as s (link_at s c 1) kind_cn z)))

stored_reason_lem : (table s : List ℕ) (c r : ℕ) → stored_at s (signal_link table s c) ≡ ok r → r ≡ stored_reason table s c
unfolding stored_at if_eq
stored_reason_lem table s c r e = led (true_or (has_signal table s c))
  where
    led : (has_signal table s c ≡ true) ⊎ (has_signal table s c ≡ false) → r ≡ stored_reason table s c
    led (inl h) =
        let e' = rw (link_has table s c h) at e in
        or_not (link_at s c 5) 0
        (λ z. sym (ok_same (rw (eq-eqb (link_at s c 5) 0 z) at e')) ∙ rw (h, leads_none s (link_at s c 5) kind_cg z))
        (λ z. with_ok (header_in s (link_at s c 5)) _ (rw (ne_eqb (link_at s c 5) 0 z) at e') (λ _ _ q.
        sym (ok_same q) ∙ rw (h, leads_as s (link_at s c 5) kind_cg z)))
    led (inr h) = sym (ok_same (rw (link-lacks table s c h) at e)) ∙ rw h

chain_reason : (s : List ℕ) (n a : ℕ) (d : Decision) → decide_chain s n a ≡ ok d → Reasoned 0 d
unfolding decide_chain
chain_reason s n a d e =
    eq_cases a 0 _ _ e
    (λ _ q. subst (Reasoned 0) (ok_same q) refl)
    (λ _ q. go (chain signal limits s n a) q)
  where
    go : (v : Found) → kept_signal v ≡ ok d → Reasoned 0 d
    go (found fs) q = subst (Reasoned 0) (ok_same q) refl
    go (stopped number place fs) q = absurd (refused≢ok q)

-- what planning decides of a channel is the reason that the papers give
pub decide_reason : (photos : Bool) (table s : List ℕ) (n g c : ℕ) (d : Decision) → decide photos table s n g c ≡ ok d → Reasoned (reason_for table s g c) d
unfolding decide reason_for unfit further_master omitted_type if_eq
decide_reason photos table s n g c d e =
    subst (λ (x : ℕ). Reasoned x d)
    (first (eqb (treatment table (channel_type s c)) 4) (eqb (treatment table (channel_type s c)) 8) (fits s g c) (is_master_type s c)
    (leads_to s (link_at s c 1) kind_ca) (leads_to s (link_at s c 1) kind_cn) (both (has_signal table s c) (leads_to s (link_at s c 5) kind_cg)))
    (first_reason _ _ d _ _ e (λ r q. sym (ok_same q)) (λ e.
    first_reason _ _ d _ _ e (λ r q. sym (ok_same q)) (λ e.
    first_reason _ _ d _ _ e (λ r q. sym (ok_same q)) (λ e.
    first_reason _ _ d _ _ e (λ r q. sym (ok_same q)) (λ e.
    first_reason _ _ d _ _ e (composed_reason_lem s c) (λ e.
    first_reason _ _ d _ _ e (stored_reason_lem table s c) (λ e.
    with_ok (photos_in photos s c) _ e (λ _ _ e. chain_reason s n (signal_link table s c) d e))))))))
  where
    -- the first reason that holds
    first : (four eight fit master array structure storage : Bool)
        → ◌≡◌ {A = ℕ} (if_eq (pick four 4 0) 0 (if_eq (pick eight 8 0) 0 (if_eq (pick fit 0 2) 0 (if_eq (pick master 3 0) 0
        (if_eq (pick array 5 (pick structure 6 0)) 0 (if_eq (pick storage 7 0) 0 0 (pick storage 7 0)) (pick array 5 (pick structure 6 0))) (pick master 3 0))
        (pick fit 0 2)) (pick eight 8 0)) (pick four 4 0))
        (pick four 4 (pick eight 8 (pick fit (pick master 3 (pick array 5 (pick structure 6 (pick storage 7 0)))) 2)))
    first true e f m a t s = refl
    first false true f m a t s = refl
    first false false false m a t s = refl
    first false false true true a t s = refl
    first false false true false true t s = refl
    first false false true false false true s = refl
    first false false true false false false true = refl
    first false false true false false false false = refl

-- within the limit of fragments
pub signal_few : (table s : List ℕ) (n c : ℕ) (d : Signal) → n ≤ 1024 → SignalKnown table s n c d → n + size_of_signal d ≤ 1024
signal_few table s n c no_signal h k = omega arith
signal_few table s n c (signal_data fs) h k = chain_fits signal limits s n (link_at s c 5) fs h k.1
