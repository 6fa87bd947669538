-- Planning with bare groups gives the plan with bare columns, and the same words.
use Rattle.std.specs.Prelude.{ℕ, ◌+◌, List, [], ◌∷◌, ◌++◌, Bool, true, false, ◌≡◌, refl, eqb}
use Rattle.std.proofs.Math.Option.{Option, none, some}
use Rattle.std.proofs.Common.{ap, ◌∙◌}
use Rattle.base.specs.Choice.{pick, if_eq}
use Rattle.base.specs.Checked.{Checked, ok, refused, and_then, Verdict}
use Rattle.mdf.specs.Group.{is_storage}
use Rattle.plan.specs.Rules.{Rules}
use Rattle.plan.specs.Photos.{photos_of}
use Rattle.plan.specs.Columns.{SrcGroup, Column, Plan, on_planned, Decision, omitted, kept, TimeOf, time, untimed, differs, master_of, group_at, stand_in, standing, remote_link, on_group, on_master, remote_time, time_of, time_column, with_column, with_omission, time_on, with_time, new_time_in, decide, with_decision, own_master, plan_channels, plan_timed, plan_group, plan_groups, plan, size_of_signal}
use Rattle.work_words.specs.PlanWords.{column_words, columns_words, signal_fragments, laid_plan}
use Rattle.planning.specs.Bare.{bare, bares, bare_column, bare_columns, bare_plan, bare_checked, bare_group, bare_time}

group-bare : (a : ℕ) (gs : List SrcGroup) → group_at a (bares gs) ≡ bare_group (group_at a gs)
unfolding group_at bares if_eq
group-bare a [] = refl
group-bare a (g ∷ gs) = rw (group-bare a gs) (go (eqb g.at a))
  where
    go : (t : Bool) → pick t (some (bare g)) (bare_group (group_at a gs)) ≡ bare_group (pick t (some g) (group_at a gs))
    go true = refl
    go false = refl

master_bare : (s : List ℕ) (g : SrcGroup) → master_of s (bare g) ≡ master_of s g
unfolding master_of
master_bare s g = refl

stand-bare : (a : ℕ) (gs : List SrcGroup) (bys : List ℕ) → stand_in a (bares gs) bys ≡ stand_in a gs bys
unfolding stand_in bares
stand-bare a [] bys = refl
stand-bare a (g ∷ gs) [] = refl
stand-bare a (g ∷ gs) (b ∷ bys) = rw (stand-bare a gs bys)

standing-bare : (s : List ℕ) (all : List SrcGroup) (bys : List ℕ) (g : SrcGroup) (m : ℕ)
    → standing s (bares all) bys (bare g) m ≡ bare_time (standing s all bys g m)
unfolding standing if_eq
standing-bare s all bys g m =
    rw (stand-bare g.at all bys, group-bare (stand_in g.at all bys) all)
    (go (group_at (stand_in g.at all bys) all) (eqb (stand_in g.at all bys) 0))
  where
    by : (t : SrcGroup) (o : Option ℕ) → on_master o untimed (λ k. time (bare t) k) ≡ bare_time (on_master o untimed (λ k. time t k))
    by t none = refl
    by t (some k) = refl

    other : (o : Option SrcGroup)
        → on_group (bare_group o) untimed (λ u. on_master (master_of s u) untimed (λ k. time u k))
        ≡ bare_time (on_group o untimed (λ u. on_master (master_of s u) untimed (λ k. time u k)))
    other none = refl
    other (some t) = rw (master_bare s t) (by t (master_of s t))

    go : (o : Option SrcGroup) (b : Bool)
        → pick b (time (bare g) m) (on_group (bare_group o) untimed (λ u. on_master (master_of s u) untimed (λ k. time u k)))
        ≡ bare_time (pick b (time g m) (on_group o untimed (λ u. on_master (master_of s u) untimed (λ k. time u k))))
    go o true = refl
    go o false = other o

remote-bare : (s : List ℕ) (all : List SrcGroup) (bys : List ℕ) (g : SrcGroup) → remote_time s (bares all) bys (bare g) ≡ bare_time (remote_time s all bys g)
unfolding remote_time if_eq
remote-bare s all bys g = rw (group-bare (remote_link s g.at) all) (go (group_at (remote_link s g.at) all))
  where
    at : (t : SrcGroup) (m : ℕ) (b : Bool) → pick b (standing s (bares all) bys (bare t) m) differs ≡ bare_time (pick b (standing s all bys t m) differs)
    at t m true = standing-bare s all bys t m
    at t m false = refl

    by : (t : SrcGroup) (o : Option ℕ)
        → on_master o untimed (λ m. pick (eqb t.records g.records) (standing s (bares all) bys (bare t) m) differs)
        ≡ bare_time (on_master o untimed (λ m. pick (eqb t.records g.records) (standing s all bys t m) differs))
    by t none = refl
    by t (some m) = at t m (eqb t.records g.records)

    go : (o : Option SrcGroup)
        → on_group (bare_group o) untimed (λ t. on_master (master_of s t) untimed (λ m. pick (eqb t.records g.records) (standing s (bares all) bys t m) differs))
        ≡ bare_time (on_group o untimed (λ t. on_master (master_of s t) untimed (λ m. pick (eqb t.records g.records) (standing s all bys t m) differs)))
    go none = refl
    go (some t) = rw (master_bare s t) (by t (master_of s t))

time_bare : (s : List ℕ) (all : List SrcGroup) (bys : List ℕ) (g : SrcGroup) → time_of s (bares all) bys (bare g) ≡ bare_time (time_of s all bys g)
unfolding time_of
time_bare s all bys g = rw (master_bare s g, remote-bare s all bys g) (go (master_of s g))
  where
    go : (o : Option ℕ) → on_master o (bare_time (remote_time s all bys g)) (λ m. standing s (bares all) bys (bare g) m)
        ≡ bare_time (on_master o (remote_time s all bys g) (λ m. standing s all bys g m))
    go none = refl
    go (some m) = standing-bare s all bys g m

column-bare : (g k : ℕ) (cs : List Column) → time_column g k (bare_columns cs) ≡ time_column g k cs
unfolding time_column bare_columns
column-bare g k [] = refl
column-bare g k (c ∷ cs) = rw (column-bare g (k + 1) cs)

append-bare : (cs ds : List Column) → bare_columns (cs ++ ds) ≡ bare_columns cs ++ bare_columns ds
unfolding bare_columns
append-bare [] ds = refl
append-bare (c ∷ cs) ds = rw (append-bare cs ds)

one-bare : (c : Column) → bare_columns (c ∷ []) ≡ bare_column c ∷ []
unfolding bare_columns
one-bare c = refl

added-bare : (c : Column) (n : ℕ) (p : Plan) → with_column (bare_column c) n (bare_plan p) ≡ bare_plan (with_column c n p)
added-bare c n p = rw (append-bare p.columns (c ∷ []), one-bare c)

decided-bare : (g : SrcGroup) (m : Option ℕ) (c : ℕ) (refs : List ℕ) (p : Plan) (d : Decision)
    → with_decision (bare g) m c refs (bare_plan p) d ≡ bare_plan (with_decision g m c refs p d)
decided-bare g m c refs p (omitted r) = refl
decided-bare g m c refs p (kept d) = added-bare (record { group = g; channel = c; is_time_lem = false; master = m; signal_of = d; photos = refs }) (size_of_signal d) p

timed-bare : (photos : Bool) (s : List ℕ) (t : SrcGroup) (m : ℕ) (p : Plan) → with_time photos s (bare t) m (bare_plan p) ≡ bare_plan (with_time photos s t m p)
unfolding with_time
timed-bare photos s t m p = rw (column-bare t.at 0 p.columns) (go (time_column t.at 0 p.columns))
  where
    go : (o : Option ℕ) → on_planned o (with_column (bare_column (time_on photos s t m)) 0 (bare_plan p)) (bare_plan p)
        ≡ bare_plan (on_planned o (with_column (time_on photos s t m) 0 p) p)
    go none = added-bare (time_on photos s t m) 0 p
    go (some k) = refl

tested_bare : (photos : Bool) (s : List ℕ) (t : SrcGroup) (m : ℕ) (p : Plan) → new_time_in photos s (bare t) m (bare_plan p) ≡ new_time_in photos s t m p
unfolding new_time_in
tested_bare photos s t m p = rw (column-bare t.at 0 p.columns)

then_bare : (v : Verdict) (a b : Checked Plan) → a ≡ bare_checked b → and_then v (λ _. a) ≡ bare_checked (and_then v (λ _. b))
then_bare (ok u) a b e = e
then_bare (refused x y) a b e = refl

channels_bare : (rs : Rules) (s : List ℕ) (g : SrcGroup) (own : ℕ) (m : Option ℕ) (cs : List ℕ) (p : Plan)
    → plan_channels rs s (bare g) own m cs (bare_plan p) ≡ bare_checked (plan_channels rs s g own m cs p)
unfolding plan_channels if_eq
channels_bare rs s g own m [] p = refl
channels_bare rs s g own m (c ∷ cs) p =
    go (λ d. ap (plan_channels rs s (bare g) own m cs) (decided-bare g m c (photos_of rs.photos s c) p d) ∙ channels_bare rs s g own m cs (with_decision g m c (photos_of rs.photos s c) p d))
    (channels_bare rs s g own m cs p) (eqb c own) (decide rs.photos rs.table s p.fragments g.at c)
  where
    go : ((d : Decision) → plan_channels rs s (bare g) own m cs (with_decision (bare g) m c (photos_of rs.photos s c) (bare_plan p) d) ≡ bare_checked (plan_channels rs s g own m cs (with_decision g m c (photos_of rs.photos s c) p d)))
        → plan_channels rs s (bare g) own m cs (bare_plan p) ≡ bare_checked (plan_channels rs s g own m cs p)
        → (t : Bool) (o : Checked Decision)
        → pick t (plan_channels rs s (bare g) own m cs (bare_plan p)) (and_then o (λ d. plan_channels rs s (bare g) own m cs (with_decision (bare g) m c (photos_of rs.photos s c) (bare_plan p) d)))
        ≡ bare_checked (pick t (plan_channels rs s g own m cs p) (and_then o (λ d. plan_channels rs s g own m cs (with_decision g m c (photos_of rs.photos s c) p d))))
    go f h true o = h
    go f h false (ok d) = f d
    go f h false (refused x y) = refl

planned-bare : (rs : Rules) (s : List ℕ) (all : List SrcGroup) (bys : List ℕ) (g : SrcGroup) (p : Plan) → plan_group rs s (bares all) bys (bare g) (bare_plan p) ≡ bare_checked (plan_group rs s all bys g p)
unfolding plan_group
planned-bare rs s all bys g p = rw (time_bare s all bys g) (go (is_storage s g.at) (time_of s all bys g))
  where
    by : (o : TimeOf) → plan_timed rs s (bare g) (bare_time o) (bare_plan p) ≡ bare_checked (plan_timed rs s g o p)
    by untimed = rw (master_bare s g) (channels_bare rs s g (own_master (master_of s g)) none g.channels p)
    by differs = rw (master_bare s g) (channels_bare rs s g (own_master (master_of s g)) none g.channels (with_omission g.at 1 p))
    by (time t m) =
        let q = with_time rs.photos s t m p in
        rw (master_bare s g, timed-bare rs.photos s t m p, tested_bare rs.photos s t m p, column-bare t.at 0 q.columns)
        (then_bare (new_time_in rs.photos s t m p) _ _ (channels_bare rs s g (own_master (master_of s g)) (time_column t.at 0 q.columns) g.channels q))

    go : (b : Bool) (o : TimeOf) → pick b (ok (bare_plan p)) (plan_timed rs s (bare g) (bare_time o) (bare_plan p)) ≡ bare_checked (pick b (ok p) (plan_timed rs s g o p))
    go true o = refl
    go false o = by o

pub groups_bare : (rs : Rules) (s : List ℕ) (all : List SrcGroup) (bys : List ℕ) (gs : List SrcGroup) (p : Plan)
    → plan_groups rs s (bares all) bys (bares gs) (bare_plan p) ≡ bare_checked (plan_groups rs s all bys gs p)
unfolding plan_groups bares
groups_bare rs s all bys [] p = refl
groups_bare rs s all bys (g ∷ gs) p = rw (planned-bare rs s all bys g p) (go (λ q. groups_bare rs s all bys gs q) (plan_group rs s all bys g p))
  where
    go : ((q : Plan) → plan_groups rs s (bares all) bys (bares gs) (bare_plan q) ≡ bare_checked (plan_groups rs s all bys gs q)) → (o : Checked Plan)
        → and_then (bare_checked o) (λ q. plan_groups rs s (bares all) bys (bares gs) q) ≡ bare_checked (and_then o (λ q. plan_groups rs s all bys gs q))
    go f (ok q) = f q
    go f (refused x y) = refl

pub plan-bare : (rs : Rules) (s : List ℕ) (n : ℕ) (all : List SrcGroup) (bys : List ℕ) → plan rs s n (bares all) bys ≡ bare_checked (plan rs s n all bys)
unfolding plan bare_columns
plan-bare rs s n all bys = groups_bare rs s all bys all (record { columns = []; omissions = []; fragments = n })

-- ---- the same words, and the same data stage
words-bare : (n : ℕ) (cs : List Column) → columns_words n (bare_columns cs) ≡ columns_words n cs
unfolding columns_words column_words bare_columns
words-bare n [] = refl
words-bare n (c ∷ cs) = rw (words-bare (n + size_of_signal c.signal_of) cs)

pub laid-bare : (n : ℕ) (p : Plan) (w : List ℕ) → laid_plan n (bare_plan p) w ≡ laid_plan n p w
unfolding laid_plan
laid-bare n p w = rw (words-bare n p.columns)

pub signals_bare : (cs : List Column) → signal_fragments (bare_columns cs) ≡ signal_fragments cs
unfolding signal_fragments bare_columns
signals_bare [] = refl
signals_bare (c ∷ cs) = rw (signals_bare cs)
