-- Lists of columns and omissions that grow at the end: counts, numbers, time columns.
use Rattle.std.specs.Prelude.{ℕ, zero, suc, ◌+◌, ◌≤◌, List, [], ◌∷◌, ◌++◌, ◌≡◌, refl, Bool, true, false, eqb}
use Rattle.std.proofs.Common.{sym, ◌∙◌, arith}
use Rattle.std.proofs.Math.Option.{Option, none, some}
use borrow.Author.Tests.{eqb-true, eq-eqb, ne_eqb}
use Rattle.base.specs.Choice.{pick}
use Rattle.plan.specs.Channel.{both}
use Rattle.plan.specs.Columns.{SrcGroup, TimeOf, time, untimed, differs, time_of, Column, Omission, time_column, size_of_signal}
use Rattle.result.specs.Guarantee.{In, here, there, columns_of, omissions_of, column_at, IsTime}
use Rattle.plan_laws.specs.Answers.{pick_cases, or_not}
use Rattle.plan_laws.specs.Lists.{same, same_yes, same_no}
use Rattle.plan_laws.specs.DecideLaws.{none≢some, some_same, both_true}

-- ---- counts

-- 1 for a time column of the group at a
abbrev time_at : ℕ → Column → ℕ
time_at a c = pick (both c.is_time_lem (eqb c.group.at a)) 1 0

-- the time columns of the group at a
unfoldable pub times_at : ℕ → List Column → ℕ
times_at a [] = 0
times_at a (c ∷ cs) = time_at a c + times_at a cs

-- the time columns made of channel x
unfoldable pub times_of : ℕ → List Column → ℕ
times_of x [] = 0
times_of x (c ∷ cs) = pick c.is_time_lem (same c.channel x) 0 + times_of x cs

-- the fragments of signal data
unfoldable pub signals_of : List Column → ℕ
signals_of [] = 0
signals_of (c ∷ cs) = size_of_signal c.signal_of + signals_of cs

pub times-at-append : (a : ℕ) (cs ds : List Column) → times_at a (cs ++ ds) ≡ times_at a cs + times_at a ds
unfolding times_at
times-at-append a [] ds = omega arith
times-at-append a (c ∷ cs) ds = omega (arith, times-at-append a cs ds)

pub times-append : (x : ℕ) (cs ds : List Column) → times_of x (cs ++ ds) ≡ times_of x cs + times_of x ds
unfolding times_of
times-append x [] ds = omega arith
times-append x (c ∷ cs) ds = omega (arith, times-append x cs ds)

pub signals_append : (cs ds : List Column) → signals_of (cs ++ ds) ≡ signals_of cs + signals_of ds
unfolding signals_of
signals_append [] ds = omega arith
signals_append (c ∷ cs) ds = omega (arith, signals_append cs ds)

pub columns-append : (x : ℕ) (cs ds : List Column) → columns_of x (cs ++ ds) ≡ columns_of x cs + columns_of x ds
unfolding columns_of
columns-append x [] ds = omega arith
columns-append x (c ∷ cs) ds = omega (arith, columns-append x cs ds)

pub omissions_append : (x : ℕ) (os us : List Omission) → omissions_of x (os ++ us) ≡ omissions_of x os + omissions_of x us
unfolding omissions_of
omissions_append x [] us = omega arith
omissions_append x (o ∷ os) us = omega (arith, omissions_append x os us)

-- ---- one more
pub column-more : (x : ℕ) (cs : List Column) (c : Column) → columns_of x (cs ++ (c ∷ [])) ≡ columns_of x cs + same c.channel x
unfolding columns_of same
column-more x cs c = columns-append x cs (c ∷ []) ∙ omega arith

pub omission_more : (x : ℕ) (os : List Omission) (o : Omission) → omissions_of x (os ++ (o ∷ [])) ≡ omissions_of x os + same o.at x
unfolding omissions_of same
omission_more x os o = omissions_append x os (o ∷ []) ∙ omega arith

pub signals_more : (cs : List Column) (c : Column) → signals_of (cs ++ (c ∷ [])) ≡ signals_of cs + size_of_signal c.signal_of
unfolding signals_of
signals_more cs c = signals_append cs (c ∷ []) ∙ omega arith

-- a signal column is no time column
module _ (cs : List Column) (c : Column) (signal : c.is_time_lem ≡ false) where
  pub times-at_signal : (a : ℕ) → times_at a (cs ++ (c ∷ [])) ≡ times_at a cs
  unfolding times_at
  times-at_signal a = times-at-append a cs (c ∷ []) ∙ rw signal (omega arith)

  pub times_signal : (x : ℕ) → times_of x (cs ++ (c ∷ [])) ≡ times_of x cs
  unfolding times_of
  times_signal x = times-append x cs (c ∷ []) ∙ rw signal (omega arith)

module _ (cs : List Column) (c : Column) (timed : c.is_time_lem ≡ true) where
  pub times-at-here : (a : ℕ) → c.group.at ≡ a → times_at a (cs ++ (c ∷ [])) ≡ times_at a cs + 1
  unfolding times_at
  times-at-here a e = times-at-append a cs (c ∷ []) ∙ rw (timed, eq-eqb c.group.at a e) (omega arith)

  pub times-at-other : (a : ℕ) → (c.group.at ≡ a → ⊥) → times_at a (cs ++ (c ∷ [])) ≡ times_at a cs
  unfolding times_at
  times-at-other a n = times-at-append a cs (c ∷ []) ∙ rw (timed, ne_eqb c.group.at a n) (omega arith)

  pub times-timed : (x : ℕ) → times_of x (cs ++ (c ∷ [])) ≡ times_of x cs + same c.channel x
  unfolding times_of
  times-timed x = times-append x cs (c ∷ []) ∙ rw timed (omega arith)

pub times_in : (x : ℕ) (cs : List Column) (c : Column) → In c cs → c.is_time_lem ≡ true → c.channel ≡ x → 1 ≤ times_of x cs
unfolding times_of
times_in x [] c x4 t e = elim x4 [ ]
times_in x (d ∷ cs) c here t e = rw (t, same_yes d.channel x e) (omega arith)
times_in x (d ∷ cs) c (there i) t e = omega (arith, times_in x cs c i t e)

pub times_none : (x : ℕ) (cs : List Column) → ((c : Column) → In c cs → c.is_time_lem ≡ true → c.channel ≡ x → ⊥) → times_of x cs ≡ 0
unfolding times_of
times_none x [] h = refl
times_none x (c ∷ cs) h = go (times_none x cs (λ d i. h d (there i))) c.is_time_lem refl
  where
    go : times_of x cs ≡ 0 → (t : Bool) → c.is_time_lem ≡ t → pick c.is_time_lem (same c.channel x) 0 + times_of x cs ≡ 0
    go ih true e = rw e (omega (arith, ih, same_no c.channel x (h c here e)))
    go ih false e = rw e (omega (arith, ih))

-- time columns made of x are those of the group at a
pub times-within : (x a : ℕ) (cs : List Column) → ((c : Column) → In c cs → c.is_time_lem ≡ true → c.channel ≡ x → c.group.at ≡ a)
    → times_of x cs ≤ times_at a cs
unfolding times_of times_at
times-within x a [] h = omega arith
times-within x a (c ∷ cs) h = go (times-within x a cs (λ d i. h d (there i))) c.is_time_lem refl
  where
    go : times_of x cs ≤ times_at a cs → (t : Bool) → c.is_time_lem ≡ t
        → pick c.is_time_lem (same c.channel x) 0 + times_of x cs ≤ time_at a c + times_at a cs
    go ih true e =
        or_not c.channel x
        (λ q. rw (e, eq-eqb c.group.at a (h c here e q)) (omega (arith, ih, same_yes c.channel x q)))
        (λ q. rw (e, same_no c.channel x q) (omega (arith, ih)))
    go ih false e = rw e (omega (arith, ih))

-- ---- numbers of columns
pub column-later : (k : ℕ) (cs ds : List Column) {d : Column} → column_at k cs ≡ some d → column_at k (cs ++ ds) ≡ some d
unfolding column_at
column-later k [] ds e = absurd (none≢some e)
column-later zero (c ∷ cs) ds e = e
column-later (suc k) (c ∷ cs) ds e = column-later k cs ds e

-- the time column that was looked for
pub record TimeFound (g k : ℕ) (cs : List Column) (n : ℕ) : Type 0 where
  pub index : ℕ
  pub number : n ≡ k + index
  pub column : Column
  pub place : column_at index cs ≡ some column
  pub is_in : In column cs
  pub timed : column.is_time_lem ≡ true
  pub of_group : column.group.at ≡ g

pub time_found : (g k : ℕ) (cs : List Column) (n : ℕ) → time_column g k cs ≡ some n → TimeFound g k cs n
unfolding time_column column_at
time_found g k [] n e = absurd (none≢some e)
time_found g k (c ∷ cs) n e =
    pick_cases (both c.is_time_lem (eqb c.group.at g)) _ _ e
    (λ t q. let b = both_true c.is_time_lem (eqb c.group.at g) t in
    record { index = 0; number = omega (arith, some_same q); column = c; place = refl; is_in = here; timed = b.0; of_group = eqb-true c.group.at g b.1 })
    (λ _ q. let r = time_found g (k + 1) cs n q in
    record {
      index = suc r.index;
      number = omega (arith, r.number);
      column = r.column;
      place = r.place;
      is_in = there r.is_in;
      timed = r.timed;
      of_group = r.of_group;
    })

pub time_missing : (g k : ℕ) (cs : List Column) → time_column g k cs ≡ none → times_at g cs ≡ 0
unfolding time_column times_at
time_missing g k [] e = refl
time_missing g k (c ∷ cs) e =
    pick_cases (both c.is_time_lem (eqb c.group.at g)) _ _ e
    (λ _ q. absurd (none≢some (sym q)))
    (λ t q. rw t (omega (arith, time_missing g (k + 1) cs q)))

-- a time column of channel x, with its number
pub record TimePlace (x : ℕ) (cs : List Column) : Type 0 where
  pub number : ℕ
  pub column : Column
  pub place : column_at number cs ≡ some column
  pub is_in : In column cs
  pub timed : column.is_time_lem ≡ true
  pub of_channel : column.channel ≡ x

pub times_place : (x : ℕ) (cs : List Column) → 1 ≤ times_of x cs → TimePlace x cs
unfolding times_of column_at
times_place x [] h = absurd (omega arith)
times_place x (c ∷ cs) h = go (times_place x cs) c.is_time_lem refl
  where
    later : TimePlace x cs → TimePlace x (c ∷ cs)
    later r = record { number = suc r.number; column = r.column; place = r.place; is_in = there r.is_in; timed = r.timed; of_channel = r.of_channel }

    go : (1 ≤ times_of x cs → TimePlace x cs) → (t : Bool) → c.is_time_lem ≡ t → TimePlace x (c ∷ cs)
    go more true t =
        or_not c.channel x
        (λ e. record { number = 0; column = c; place = refl; is_in = here; timed = t; of_channel = e })
        (λ e. later (more (omega (arith, same_no c.channel x e, rw t at h))))
    go more false t = later (more (omega (arith, rw t at h)))

-- ---- masters named, in a list that grows

-- by what planning decides of the group
abbrev pub TimeDue : List Column → Column → TimeOf → Type 0
TimeDue cs c (time t m) = (k : ℕ) × (d : Column) × (c.master ≡ some k) × IsTime cs k t m c.group.records d
TimeDue cs c untimed = c.master ≡ none
TimeDue cs c differs = c.master ≡ none

abbrev pub NamesTime : List ℕ → List SrcGroup → List ℕ → List Column → Column → Bool → Type 0
NamesTime s all bys cs c true = c.master ≡ none
NamesTime s all bys cs c false = TimeDue cs c (time_of s all bys c.group)

due-later : (cs ds : List Column) (c : Column) (o : TimeOf) → TimeDue cs c o → TimeDue (cs ++ ds) c o
due-later cs ds c (time t m) h = (
  h.0,
  h.1,
  h.2,
  record {
    there = column-later h.0 cs ds h.3.there;
    timed = h.3.timed;
    of_group = h.3.of_group;
    of_channel = h.3.of_channel;
    as_many = h.3.as_many;
  },
)
due-later cs ds c untimed h = h
due-later cs ds c differs h = h

pub named-later : (s : List ℕ) (all : List SrcGroup) (bys : List ℕ) (cs ds : List Column) (c : Column) (t : Bool) → NamesTime s all bys cs c t
    → NamesTime s all bys (cs ++ ds) c t
named-later s all bys cs ds c true h = h
named-later s all bys cs ds c false h = due-later cs ds c (time_of s all bys c.group) h

-- what is due of a signal column with n records that names m
abbrev pub GivenDue : List Column → Option ℕ → ℕ → TimeOf → Type 0
GivenDue cs m n (time t x) = (k : ℕ) × (d : Column) × (m ≡ some k) × IsTime cs k t x n d
GivenDue cs m n untimed = m ≡ none
GivenDue cs m n differs = m ≡ none

pub given-due : (cs : List Column) (c : Column) (o : TimeOf) → GivenDue cs c.master c.group.records o → TimeDue cs c o
given-due cs c (time t m) h = h
given-due cs c untimed h = h
given-due cs c differs h = h

pub given-later : (cs ds : List Column) (m : Option ℕ) (n : ℕ) (o : TimeOf) → GivenDue cs m n o → GivenDue (cs ++ ds) m n o
given-later cs ds m n (time t x) h = (
  h.0,
  h.1,
  h.2,
  record {
    there = column-later h.0 cs ds h.3.there;
    timed = h.3.timed;
    of_group = h.3.of_group;
    of_channel = h.3.of_channel;
    as_many = h.3.as_many;
  },
)
given-later cs ds m n untimed h = h
given-later cs ds m n differs h = h
