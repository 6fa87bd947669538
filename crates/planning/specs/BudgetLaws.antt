-- Time columns in a list that grows, and the groups that wait for one.
use Rattle.std.specs.Prelude.{ℕ, suc, ◌+◌, ◌≤◌, List, [], ◌∷◌, ◌++◌, Bool, true, false, ◌≡◌, refl, length, eqb}
use Rattle.std.proofs.Math.Option.{Option, none, some}
use Rattle.std.proofs.Common.{sym, ap, le_refl, arith, eq-eqb}
use Rattle.base.specs.Choice.{pick}
use Rattle.plan.specs.Channel.{both}
use Rattle.plan.specs.Columns.{SrcGroup, Column, master_of, time_column}
use Rattle.result.specs.Guarantee.{In, here, there}
use Rattle.plan_laws.specs.DecideLaws.{none≢some}
use Rattle.planning.specs.Timing.{lack, waiting}

-- ---- the time column after one column more
pub time_later : (g k : ℕ) (cs ds : List Column) (n : ℕ) → time_column g k cs ≡ some n → time_column g k (cs ++ ds) ≡ some n
unfolding time_column
time_later g k [] ds n e = absurd (none≢some e)
time_later g k (c ∷ cs) ds n e = go (both c.is_time_lem (eqb c.group.at g)) (time_later g (k + 1) cs ds n) e
  where
    go : (t : Bool) → (time_column g (k + 1) cs ≡ some n → time_column g (k + 1) (cs ++ ds) ≡ some n)
        → pick t (some k) (time_column g (k + 1) cs) ≡ some n → pick t (some k) (time_column g (k + 1) (cs ++ ds)) ≡ some n
    go true ih q = q
    go false ih q = ih q

pub time_plain : (g k : ℕ) (cs : List Column) (c : Column) → c.is_time_lem ≡ false → time_column g k (cs ++ (c ∷ [])) ≡ time_column g k cs
unfolding time_column
time_plain g k [] c e = rw e
time_plain g k (d ∷ cs) c e = rw (time_plain g (k + 1) cs c e)

pub time_added : (g k : ℕ) (cs : List Column) (c : Column) → time_column g k cs ≡ none → c.is_time_lem ≡ true → c.group.at ≡ g
    → time_column g k (cs ++ (c ∷ [])) ≡ some (k + length cs)
unfolding time_column
time_added g k [] c e t a = let z : k ≡ k + 0 = omega arith in rw (t, eq-eqb c.group.at g a) (ap some z)
time_added g k (d ∷ cs) c e t a = go (both d.is_time_lem (eqb d.group.at g)) (λ q. time_added g (k + 1) cs c q t a) e
  where
    go : (b : Bool) → (time_column g (k + 1) cs ≡ none → time_column g (k + 1) (cs ++ (c ∷ [])) ≡ some (k + 1 + length cs))
        → pick b (some k) (time_column g (k + 1) cs) ≡ none
        → pick b (some k) (time_column g (k + 1) (cs ++ (c ∷ []))) ≡ some (k + suc (length cs))
    go true ih q = absurd (none≢some (sym q))
    go false ih q = let z : k + 1 + length cs ≡ k + suc (length cs) = omega arith in rw (← z) (ih q)

-- ---- those that wait
lack-none : (o t : Option ℕ) → lack o t ≤ lack o none
lack-none none t = omega arith
lack-none (some m) none = omega arith
lack-none (some m) (some k) = omega arith

lack-later : (o : Option ℕ) (g : ℕ) (cs ds : List Column) → lack o (time_column g 0 (cs ++ ds)) ≤ lack o (time_column g 0 cs)
lack-later o g cs ds = go (time_column g 0 cs) refl
  where
    go : (t : Option ℕ) → time_column g 0 cs ≡ t → lack o (time_column g 0 (cs ++ ds)) ≤ lack o t
    go none q = lack-none o _
    go (some n) q = rw (time_later g 0 cs ds n q) (le_refl _)

pub waiting-later : (s : List ℕ) (cs ds : List Column) (gs : List SrcGroup) → waiting s (cs ++ ds) gs ≤ waiting s cs gs
unfolding waiting
waiting-later s cs ds [] = omega arith
waiting-later s cs ds (g ∷ gs) =
    let a = lack-later (master_of s g) g.at cs ds in
    let b = waiting-later s cs ds gs in
    omega arith

pub waiting-plain : (s : List ℕ) (cs : List Column) (c : Column) (gs : List SrcGroup) → c.is_time_lem ≡ false
    → waiting s (cs ++ (c ∷ [])) gs ≡ waiting s cs gs
unfolding waiting
waiting-plain s cs c [] e = refl
waiting-plain s cs c (g ∷ gs) e = rw (time_plain g.at 0 cs c e, waiting-plain s cs c gs e)

-- a time column more: one group less waits
pub waiting_fewer : (s : List ℕ) (cs : List Column) (c : Column) (gs : List SrcGroup) {t : SrcGroup} {m : ℕ} → In t gs → master_of s t ≡ some m
    → time_column t.at 0 cs ≡ none → c.is_time_lem ≡ true → c.group.at ≡ t.at → waiting s (cs ++ (c ∷ [])) gs + 1 ≤ waiting s cs gs
unfolding waiting
waiting_fewer s cs c [] {t = t} {m = m} x5 e q y a = elim x5 [ ]
waiting_fewer s cs c (g ∷ gs) here e q y a =
    let z : lack (master_of s g) (time_column g.at 0 (cs ++ (c ∷ []))) ≡ 0 = rw (e, time_added g.at 0 cs c q y a) in
    let l : lack (master_of s g) (time_column g.at 0 cs) ≡ 1 = rw (e, q) in
    let b = waiting-later s cs (c ∷ []) gs in
    omega arith
waiting_fewer s cs c (g ∷ gs) (there i) e q y a =
    let l = lack-later (master_of s g) g.at cs (c ∷ []) in
    let b = waiting_fewer s cs c gs i e q y a in
    omega arith
