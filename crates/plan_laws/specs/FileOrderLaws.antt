-- Signal columns and omissions stand in file order, and each group whose remote master has another count has an omission.
use Rattle.std.specs.Prelude.{ℕ, ◌≤◌, List, [], ◌∷◌, ◌++◌, Bool, true, false, ◌≡◌, refl}
use Rattle.std.proofs.Common.{append-nil, append_assoc, sym, ap, ◌∙◌, subst, arith}
use Rattle.std.proofs.Math.Option.{Option, none, some}
use Rattle.base.specs.Choice.{pick}
use Rattle.base.specs.Checked.{ok}
use Rattle.mdf.specs.Group.{is_storage}
use Rattle.plan.specs.Rules.{Rules}
use Rattle.plan.specs.Photos.{photos_of}
use Rattle.plan.specs.Columns.{SrcGroup, TimeOf, time, untimed, differs, time_of, Column, Omission, Plan, with_omission, time_column, on_planned, with_column, time_on, with_time, new_time_in, Decision, omitted, kept, decide, size_of_signal, with_decision, plan_channels, plan_timed, plan_group, plan_groups, plan, omission_addresses}
use Rattle.result.specs.Member.{In, here, there}
use Rattle.result.specs.Recording.{Differs, Among, file_places, signal_channels}
use Rattle.plan_laws.specs.Answers.{ok_same, true≢false, with_ok, eq_cases, pick_cases}
use Rattle.plan_laws.specs.Lists.{in_left, in_right, in_none, occurs}
use Rattle.plan_laws.specs.GroupLaws.{all_addresses}
use Rattle.plan_laws.specs.MasterLaws.{differs_time}
use Rattle.plan_laws.specs.DecideLaws.{time≢differs}

-- ---- lists with some left out
nothing_among : (l : List ℕ) → Among [] l
nothing_among [] = Among.nothing
nothing_among (a ∷ l) = Among.left (nothing_among l)

among_append : {l m k n : List ℕ} → Among l m → Among k n → Among (l ++ k) (m ++ n)
among_append Among.nothing y = y
among_append (Among.left x) y = Among.left (among_append x y)
among_append (Among.next x) y = Among.next (among_append x y)

addresses-append : (os us : List Omission) → omission_addresses (os ++ us) ≡ omission_addresses os ++ omission_addresses us
unfolding omission_addresses
addresses-append [] us = refl
addresses-append (o ∷ os) us = ap (λ (l : List ℕ). o.at ∷ l) (addresses-append os us)

channels_append : (cs ds : List Column) → signal_channels (cs ++ ds) ≡ signal_channels cs ++ signal_channels ds
unfolding signal_channels
channels_append [] ds = refl
channels_append (c ∷ cs) ds =
    ap (λ (l : List ℕ). pick c.is_time_lem [] (c.channel ∷ []) ++ l) (channels_append cs ds)
    ∙ sym (append_assoc (pick c.is_time_lem [] (c.channel ∷ [])) (signal_channels cs) (signal_channels ds))

-- ---- from plan p to plan q: omissions more, whose addresses are among l in order, and signal columns likewise
record More (p q : Plan) (l : List ℕ) : Type 0 where
  more : List Omission
  is : q.omissions ≡ p.omissions ++ more
  among : Among (omission_addresses more) l
  channels : List ℕ
  signals : signal_channels q.columns ≡ signal_channels p.columns ++ channels
  among_channels : Among channels l

no_more : (p q : Plan) (l : List ℕ) → p ≡ q → More p q l
unfolding omission_addresses
no_more p q l e =
    record {
      more = [];
      is = ap (λ (r : Plan). r.omissions) (sym e) ∙ sym (append-nil p.omissions);
      among = nothing_among l;
      channels = [];
      signals = ap (λ (r : Plan). signal_channels r.columns) (sym e) ∙ sym (append-nil (signal_channels p.columns));
      among_channels = nothing_among l;
    }

-- one omission, then those of the rest
omitted-more : (p q : Plan) (a r : ℕ) (l : List ℕ) → More (with_omission a r p) q l → More p q (a ∷ l)
unfolding omission_addresses
omitted-more p q a r l m =
    record {
      more = record { at = a; reason = r } ∷ m.more;
      is = m.is ∙ append_assoc p.omissions (record { at = a; reason = r } ∷ []) m.more;
      among = Among.next m.among;
      channels = m.channels;
      signals = m.signals;
      among_channels = Among.left m.among_channels;
    }

-- one signal column, then those of the rest
kept_more : (p q : Plan) (c : Column) (n : ℕ) (l : List ℕ) → c.is_time_lem ≡ false → More (with_column c n p) q l → More p q (c.channel ∷ l)
unfolding signal_channels
kept_more p q c n l f m =
    let e : signal_channels (p.columns ++ (c ∷ [])) ≡ signal_channels p.columns ++ (c.channel ∷ []) = channels_append p.columns (c ∷ []) ∙ rw f in
    record {
      more = m.more;
      is = m.is;
      among = Among.left m.among;
      channels = c.channel ∷ m.channels;
      signals = m.signals ∙ ap (λ (x : List ℕ). x ++ m.channels) e ∙ append_assoc (signal_channels p.columns) (c.channel ∷ []) m.channels;
      among_channels = Among.next m.among_channels;
    }

left-more : {p q : Plan} {l : List ℕ} (a : ℕ) → More p q l → More p q (a ∷ l)
left-more a m =
    record {
      more = m.more;
      is = m.is;
      among = Among.left m.among;
      channels = m.channels;
      signals = m.signals;
      among_channels = Among.left m.among_channels;
    }

decided-more : (g : SrcGroup) (m : Option ℕ) (c : ℕ) (refs : List ℕ) (p q : Plan) (d : Decision) (l : List ℕ) → More (with_decision g m c refs p d) q l → More p q (c ∷ l)
decided-more g m c refs p q (omitted r) l h = omitted-more p q c r l h
decided-more g m c refs p q (kept d) l h = kept_more p q _ (size_of_signal d) l refl h

channels_more : (rs : Rules) (s : List ℕ) (g : SrcGroup) (own : ℕ) (m : Option ℕ) (cs : List ℕ) (p q : Plan) → plan_channels rs s g own m cs p ≡ ok q → More p q cs
unfolding plan_channels
channels_more rs s g own m [] p q e = no_more p q [] (ok_same e)
channels_more rs s g own m (c ∷ cs) p q e =
    eq_cases c own _ _ e
    (λ _ r. left-more c (channels_more rs s g own m cs p q r))
    (λ _ r. with_ok (decide rs.photos rs.table s p.fragments g.at c) _ r (λ d _ r. decided-more g m c _ p q d cs (channels_more rs s g own m cs (with_decision g m c (photos_of rs.photos s c) p d) q r)))

-- a time column is no omission and no signal
record TimeMore (p q : Plan) : Type 0 where
  omissions : q.omissions ≡ p.omissions
  channels : signal_channels q.columns ≡ signal_channels p.columns

new_more : (c : Column) (p : Plan) → c.is_time_lem ≡ true → TimeMore p (with_column c 0 p)
unfolding signal_channels
new_more c p e = record { omissions = refl; channels = channels_append p.columns (c ∷ []) ∙ rw e (append-nil (signal_channels p.columns)) }

time_more : (photos : Bool) (s : List ℕ) (t : SrcGroup) (m : ℕ) (p : Plan) → TimeMore p (with_time photos s t m p)
unfolding with_time
time_more photos s t m p = go (time_column t.at 0 p.columns)
  where
    go : (o : Option ℕ) → TimeMore p (on_planned o (with_column (time_on photos s t m) 0 p) p)
    go none = new_more (time_on photos s t m) p refl
    go (some k) = record { omissions = refl; channels = refl }

-- of a group; its own omission comes first
record GroupMore (s : List ℕ) (all : List SrcGroup) (bys : List ℕ) (g : SrcGroup) (p q : Plan) : Type 0 where
  given : More p q (g.at ∷ g.channels)
  differing : is_storage s g.at ≡ false → time_of s all bys g ≡ differs → In (record { at = g.at; reason = 1 }) q.omissions

untimed≢differs : untimed ≡ differs → ⊥
untimed≢differs e = let z : ◌≡◌ {A = ℕ} 0 1 = cc in omega arith

timed-more : (rs : Rules) (s : List ℕ) (all : List SrcGroup) (bys : List ℕ) (g : SrcGroup) (p q : Plan) (o : TimeOf) → time_of s all bys g ≡ o → plan_timed rs s g o p ≡ ok q → GroupMore s all bys g p q
unfolding omitted-more
timed-more rs s all bys g p q (time t m) o e =
    with_ok (new_time_in rs.photos s t m p) _ e (λ _ _ e.
    let r = channels_more rs s g _ _ g.channels (with_time rs.photos s t m p) q e in
    let a = time_more rs.photos s t m p in
    record {
      given = left-more g.at (record {
        more = r.more;
        is = r.is ∙ ap (λ (l : List Omission). l ++ r.more) a.omissions;
        among = r.among;
        channels = r.channels;
        signals = r.signals ∙ ap (λ (l : List ℕ). l ++ r.channels) a.channels;
        among_channels = r.among_channels;
      });
      differing = λ _ d. absurd (time≢differs (sym d ∙ o));
    })
timed-more rs s all bys g p q untimed o e =
    record { given = left-more g.at (channels_more rs s g _ none g.channels p q e); differing = λ _ d. absurd (untimed≢differs (sym o ∙ d)) }
timed-more rs s all bys g p q differs o e =
    let r = omitted-more p q g.at 1 g.channels (channels_more rs s g _ none g.channels (with_omission g.at 1 p) q e) in
    record { given = r; differing = λ _ _. subst (In _) (sym r.is) (in_right p.omissions here) }

group-more : (rs : Rules) (s : List ℕ) (all : List SrcGroup) (bys : List ℕ) (g : SrcGroup) (p q : Plan) → plan_group rs s all bys g p ≡ ok q → GroupMore s all bys g p q
unfolding plan_group
group-more rs s all bys g p q e =
    pick_cases (is_storage s g.at) _ _ e
    (λ b r. record { given = no_more p q (g.at ∷ g.channels) (ok_same r); differing = λ f _. absurd (true≢false (sym b ∙ f)) })
    (λ _ r. timed-more rs s all bys g p q (time_of s all bys g) refl r)

record GroupsMore (s : List ℕ) (all : List SrcGroup) (bys : List ℕ) (gs : List SrcGroup) (p q : Plan) : Type 0 where
  given : More p q (file_places gs)
  differing : (g : SrcGroup) → In g gs → is_storage s g.at ≡ false → time_of s all bys g ≡ differs → In (record { at = g.at; reason = 1 }) q.omissions

groups_more : (rs : Rules) (s : List ℕ) (all : List SrcGroup) (bys : List ℕ) (gs : List SrcGroup) (p q : Plan) → plan_groups rs s all bys gs p ≡ ok q → GroupsMore s all bys gs p q
unfolding plan_groups file_places
groups_more rs s all bys [] p q e = record { given = no_more p q [] (ok_same e); differing = λ g i. absurd (in_none i) }
groups_more rs s all bys (g ∷ gs) p q e =
    with_ok (plan_group rs s all bys g p) _ e (λ u b r.
    let h = group-more rs s all bys g p u b in
    let k = groups_more rs s all bys gs u q r in
    record {
      given = record {
        more = h.given.more ++ k.given.more;
        is = k.given.is ∙ ap (λ (l : List Omission). l ++ k.given.more) h.given.is ∙ append_assoc p.omissions h.given.more k.given.more;
        among = subst (λ (l : List ℕ). Among l (file_places (g ∷ gs))) (sym (addresses-append h.given.more k.given.more)) (among_append h.given.among k.given.among);
        channels = h.given.channels ++ k.given.channels;
        signals = k.given.signals ∙ ap (λ (l : List ℕ). l ++ k.given.channels) h.given.signals
            ∙ append_assoc (signal_channels p.columns) h.given.channels k.given.channels;
        among_channels = among_append h.given.among_channels k.given.among_channels;
      };
      differing = each h k;
    })
  where
    each : {u : Plan} → GroupMore s all bys g p u → GroupsMore s all bys gs u q → (j : SrcGroup) → In j (g ∷ gs) → is_storage s j.at ≡ false → time_of s all bys j ≡ differs
        → In (record { at = j.at; reason = 1 }) q.omissions
    each h k j here f d = subst (In _) (sym k.given.is) (in_left k.given.more (h.differing f d))
    each h k j (there i) f d = k.differing j i f d

-- the whole plan
pub record InOrder (s : List ℕ) (all : List SrcGroup) (p : Plan) : Type 0 where
  pub columns : Among (signal_channels p.columns) (file_places all)
  pub omissions : Among (omission_addresses p.omissions) (file_places all)
  pub differing : (g : SrcGroup) → In g all → is_storage s g.at ≡ false → Differs s all g → In (record { at = g.at; reason = 1 }) p.omissions

pub plan_in_order : (rs : Rules) (s : List ℕ) (n : ℕ) (all : List SrcGroup) (bys : List ℕ) (p : Plan) → ((x : ℕ) → occurs x (all_addresses all) ≤ 1)
    → plan rs s n all bys ≡ ok p → InOrder s all p
unfolding plan signal_channels
plan_in_order rs s n all bys p once e =
    let r = groups_more rs s all bys all _ p e in
    record {
      columns = subst (λ (l : List ℕ). Among l (file_places all)) (sym r.given.signals) r.given.among_channels;
      omissions = subst (λ (l : List Omission). Among (omission_addresses l) (file_places all)) (sym r.given.is) r.given.among;
      differing = λ g i f d. r.differing g i f (differs_time s all bys once g f d);
    }
