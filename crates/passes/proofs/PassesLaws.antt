-- The laws of shares and passes: each job gets at least its base, none past its cap or what it has left, all together what they may take and at most
-- U, and what is left over in cell order. And whatever passes and calls there are, each job stands where calls on it alone have brought it.
use Rattle.std.specs.Prelude.{ℕ, zero, suc, ◌+◌, ◌*◌, ◌-◌, ◌/◌, ◌≤◌, ◌<◌, min, List, [], ◌∷◌, ◌++◌, map, ◌≡◌, get_or, replicate}
use Rattle.std.proofs.Common.{append-nil, append_assoc, subst, ◌∙◌, ⊎_elim, suc-mul, mul_comm, div-mul-le_self, arith}
use Rattle.std.proofs.Math.Option.{Option, none, some}
use Rattle.std.proofs.Math.Path.{refl, sym, ap}
use Rattle.std.proofs.Math.Nat.{zero-sub}
use Rattle.std.proofs.Math.ListN.{length, get_elem?, take}
use Rattle.base.specs.Choice.{if_lt}
use Rattle.base.specs.ChoiceLaws.{lt_yes, lt_no, eq_yes, eq_no}
use Rattle.base.specs.Blit.{blit}
use Rattle.base.specs.Checked.{Checked, ok, refused, Verdict, fine}
use Rattle.stores.specs.Cases.{eq_or_ne}
use Rattle.stores.specs.Stores.{steps_of, Op, step, Running, begun, does, run}
use Rattle.stores.proofs.RunLaws.{run-append, run_grows, run_finished, run-cut, step_stores, step_reaches}
use Rattle.stores.specs.RunLaws.{ran}
use Rattle.passes.specs.Passes.{Job, unfinished, base, bases, more, given, shares, counted, capped, allowed, shared, Task, Cell, fresh, called_with, advanced, on_by, left_of, jobs_of, advanced_by, passed_by, passed, called, Event, begins, calls, passes, happens, after}
use Rattle.passes.specs.PassesLaws.{Alone, beginning}

-- ---- sums

-- what a pass gives
unfoldable pub total : List ℕ → ℕ
total [] = 0
total (k ∷ ks) = k + total ks

-- what jobs may take
unfoldable pub takeable : List Job → ℕ
takeable [] = 0
takeable (j ∷ js) = min j.cap j.left + takeable js

bases-takeable : (q : ℕ) (js : List Job) → bases q js ≤ takeable js
unfolding bases takeable
bases-takeable q [] = omega arith
bases-takeable q (j ∷ js) = omega (arith, bases-takeable q js)

pub unfinished-none : (j : Job) (js : List Job) → j.left ≡ 0 → unfinished (j ∷ js) ≡ unfinished js
unfolding unfinished
unfinished-none j js e = sym (eq_yes _ _ _ _ e refl)

pub unfinished-one : (j : Job) (js : List Job) → (j.left ≡ 0 → ⊥) → unfinished (j ∷ js) ≡ suc (unfinished js)
unfolding unfinished
unfinished-one j js e = sym (eq_no _ _ _ _ e refl)

-- a finished job's base is 0, and another's is at most q
bases_least : (q : ℕ) (js : List Job) → bases q js ≤ unfinished js * q
unfolding bases unfinished
bases_least q [] = omega arith
bases_least q (j ∷ js) =
    let more : bases q js ≤ unfinished js * q = bases_least q js in
    ⊎_elim (λ e. rw (unfinished-none j js e) (omega (arith, e)))
    (λ e. rw (unfinished-one j js e, suc-mul) (omega arith)) (eq_or_ne j.left 0)

-- the bases are within U
pub bases-within : (u : ℕ) (js : List Job) → bases (u / unfinished js) js ≤ u
bases-within u js =
    omega (
      arith,
      bases_least (u / unfinished js) js,
      mul_comm (unfinished js) (u / unfinished js),
      div-mul-le_self u (unfinished js),
    )

apart : (b m c n : ℕ) → b ≤ m → c ≤ n → (m + n) - (b + c) ≡ (m - b) + (n - c)
apart b m c n h g = omega arith

added : (b d r c e : ℕ) → (b + min r d) + (c + min (r - d) e) ≡ (b + c) + min r (d + e)
added b d r c e = omega arith

given-total : (q rest : ℕ) (js : List Job) → total (given q rest js) ≡ bases q js + min rest (takeable js - bases q js)
unfolding total given bases takeable
given-total q rest [] = omega arith
given-total q rest (j ∷ js) =
    let d : ℕ = takeable js - bases q js in
    let w : bases q js ≤ takeable js = bases-takeable q js in
    let z : base q j ≤ min j.cap j.left = omega arith in
    let e : (min j.cap j.left + takeable js) - (base q j + bases q js) ≡ more q j + d = apart _ _ _ _ z w in
    rw (given-total q (rest - more q j) js, e) (added (base q j) (more q j) rest (bases q js) d)

-- a pass holds nothing back
pub shares-total : (u : ℕ) (js : List Job) → total (shares u js) ≡ min u (takeable js)
unfolding shares
shares-total u js =
    let q : ℕ = u / unfinished js in
    omega (arith, given-total q (u - bases q js) js, bases-takeable q js, bases-within u js)

-- "the pass gives at most U"
pub shares_most : (u : ℕ) (js : List Job) → total (shares u js) ≤ u
shares_most u js = omega (arith, shares-total u js)

-- ---- each job's share

given-length : (q rest : ℕ) (js : List Job) → length (given q rest js) ≡ length js
unfolding given
given-length q rest [] = refl
given-length q rest (j ∷ js) = ap suc (given-length q (rest - more q j) js)

pub shares-length : (u : ℕ) (js : List Job) → length (shares u js) ≡ length js
unfolding shares
shares-length u js = given-length _ _ js

none≢some : {A : Type 0} {x : A} → ◌≡◌ {A = Option A} none (some x) → ⊥
none≢some e = let z : ◌≡◌ {A = ℕ} 0 1 = cc in omega arith

some_same : {A : Type 0} {x y : A} → ◌≡◌ {A = Option A} (some x) (some y) → x ≡ y
some_same e = cc

-- between its base and what it may take
given-one : (q rest : ℕ) (js : List Job) (i : ℕ) (j : Job) → get_elem? js i ≡ some j
    → (base q j ≤ get_or (given q rest js) i 0) × (get_or (given q rest js) i 0 ≤ min j.cap j.left)
unfolding given
given-one q rest [] i j e = absurd (none≢some e)
given-one q rest (h ∷ js) zero j e = rw (← some_same e) (omega arith, omega arith)
given-one q rest (h ∷ js) (suc i) j e = given-one q (rest - more q h) js i j e

-- where a job gets less than it may take, nothing is left over for a later one
given_out : (q : ℕ) (js : List Job) (i : ℕ) (j : Job) → get_elem? js i ≡ some j → get_or (given q 0 js) i 0 ≡ base q j
unfolding given
given_out q [] i j e = absurd (none≢some e)
given_out q (h ∷ js) zero j e = rw (← some_same e) (omega arith)
given_out q (h ∷ js) (suc i) j e = rw (zero-sub) (given_out q js i j e)

used_up : (b m r : ℕ) → b + min r (m - b) < m → r - (m - b) ≡ 0
used_up b m r h = omega arith

given_order : (q rest : ℕ) (js : List Job) (i k : ℕ) (j l : Job) → i < k → get_elem? js i ≡ some j → get_elem? js k ≡ some l
    → get_or (given q rest js) i 0 < min j.cap j.left → get_or (given q rest js) k 0 ≡ base q l
unfolding given
given_order q rest [] i k j l h a b less = absurd (none≢some a)
given_order q rest (g ∷ js) i zero j l h a b less = absurd (omega arith)
given_order q rest (g ∷ js) zero (suc k) j l h a b less =
    let s : g ≡ j = some_same a in
    let z : rest - more q g ≡ 0 =
    used_up (base q g) _ rest (subst (λ (x : Job). base q g + min rest (more q g) < min x.cap x.left) (sym s) less) in
    rw z (given_out q js k l b)
given_order q rest (g ∷ js) (suc i) (suc k) j l h a b less = given_order q (rest - more q g) js i k j l (omega arith) a b less

module _ (u : ℕ) (js : List Job) (i : ℕ) (j : Job) (e : get_elem? js i ≡ some j) where
  -- "Every unfinished job gets at least the smallest of its cap, what it has left, and U divided by the unfinished jobs, rounded down"
  pub share_least : min j.cap (min j.left (u / unfinished js)) ≤ get_or (shares u js) i 0
  unfolding shares
  share_least = (given-one _ _ js i j e).0

  -- "None exceeds its cap or what it has left"
  pub share_cap : get_or (shares u js) i 0 ≤ j.cap
  unfolding shares
  share_cap = omega (arith, (given-one (u / unfinished js) (u - bases (u / unfinished js) js) js i j e).1)

  pub share_left : get_or (shares u js) i 0 ≤ j.left
  unfolding shares
  share_left = omega (arith, (given-one (u / unfinished js) (u - bases (u / unfinished js) js) js i j e).1)

  -- a finished job gets none
  pub share_finished : j.left ≡ 0 → get_or (shares u js) i 0 ≡ 0
  share_finished z = omega (arith, share_left)

  -- "Stores left over go to jobs in cell order, to each all it may take": past a job that gets less, each has its base and no more
  pub share_order : (k : ℕ) (l : Job) → i < k → get_elem? js k ≡ some l → get_or (shares u js) i 0 < min j.cap j.left
      → get_or (shares u js) k 0 ≡ min l.cap (min l.left (u / unfinished js))
  unfolding shares
  share_order k l h b less = given_order _ _ js i k j l h e b less

-- a pass that has stores to give, and a job that may take one, gives one
takeable-some : (js : List Job) (i : ℕ) (j : Job) → get_elem? js i ≡ some j → min j.cap j.left ≤ takeable js
unfolding takeable
takeable-some [] i j e = absurd (none≢some e)
takeable-some (h ∷ js) zero j e = rw (← some_same e) (omega arith)
takeable-some (h ∷ js) (suc i) j e = omega (arith, takeable-some js i j e)

pub shares-some : (u : ℕ) (js : List Job) (i : ℕ) (j : Job) → get_elem? js i ≡ some j → 0 < u → 0 < j.cap → 0 < j.left → 0 < total (shares u js)
shares-some u js i j e a b c = omega (arith, shares-total u js, takeable-some js i j e)

-- ---- refusals

module _ (u : ℕ) (js : List Job) where
  -- "31 when there is no job or more than eight"
  pub shared-none : length js ≡ 0 → shared u js ≡ refused 31 0
  unfolding shared allowed counted
  shared-none e = rw (← eq_yes (length js) 0 (refused 31 0) (if_lt 8 (length js) (refused 31 0) fine) e refl) refl

  pub shared-over : 8 < length js → shared u js ≡ refused 31 0
  unfolding shared allowed counted
  shared-over h =
      rw (← eq_no (length js) 0 (refused 31 0) (if_lt 8 (length js) (refused 31 0) fine) (λ e. omega (arith, e)) (lt_yes _ _ _ _ h refl)) refl

  module _ (some' : (length js ≡ 0) → ⊥) (few : length js ≤ 8) where
    few-counted : counted (length js) ≡ fine
    unfolding counted
    few-counted = sym (eq_no _ _ _ _ some' (lt_no _ _ _ _ few refl))

    -- "then 32 when U or a cap is 0"
    pub shared-nothing : u ≡ 0 → shared u js ≡ refused 32 0
    unfolding shared allowed
    shared-nothing e = rw (few-counted, ← eq_yes u 0 (refused 32 0) (capped js) e refl) refl

    pub shared_uncapped : (u ≡ 0 → ⊥) → capped js ≡ refused 32 0 → shared u js ≡ refused 32 0
    unfolding shared allowed
    shared_uncapped e c = rw (few-counted, ← eq_no u 0 (refused 32 0) (capped js) e refl, c) refl

    pub shared-fine : (u ≡ 0 → ⊥) → capped js ≡ fine → shared u js ≡ ok (shares u js)
    unfolding shared allowed
    shared-fine e c = rw (few-counted, ← eq_no u 0 (refused 32 0) (capped js) e refl, c) refl

pub uncapped_here : (j : Job) (js : List Job) → j.cap ≡ 0 → capped (j ∷ js) ≡ refused 32 0
unfolding capped
uncapped_here j js e = sym (eq_yes _ _ _ _ e refl)

pub capped-on : (j : Job) (js : List Job) → (j.cap ≡ 0 → ⊥) → capped (j ∷ js) ≡ capped js
unfolding capped
capped-on j js e = sym (eq_no _ _ _ _ e refl)

-- any cap of 0
pub uncapped : (js : List Job) (i : ℕ) (j : Job) → get_elem? js i ≡ some j → j.cap ≡ 0 → capped js ≡ refused 32 0
uncapped [] i j e z = absurd (none≢some e)
uncapped (h ∷ js) zero j e z = uncapped_here h js (ap (λ (x : Job). x.cap) (some_same e) ∙ z)
uncapped (h ∷ js) (suc i) j e z =
    ⊎_elim (λ a. uncapped_here h js a) (λ a. capped-on h js a ∙ uncapped js i j e z) (eq_or_ne h.cap 0)

-- where there is none, every cap is above 0
pub all-capped : (js : List Job) → capped js ≡ fine → (i : ℕ) (j : Job) → get_elem? js i ≡ some j → 0 < j.cap
all-capped js c i j e = ⊎_elim (λ z. absurd (refused≢fine (sym (uncapped js i j e z) ∙ c))) (λ z. omega (arith, z)) (eq_or_ne j.cap 0)
  where
    refused≢fine : ◌≡◌ {A = Verdict} (refused 32 0) fine → ⊥
    refused≢fine e = let z : ◌≡◌ {A = ℕ} 0 1 = cc in omega arith

-- ---- a job on its own

-- what calls on job c, and on no other, have made of it
pub record Went (c d : Cell) : Type 0 where
  pub same : d.task ≡ c.task
  pub calls : List Op
  pub reached : d.running ≡ run c.task.made c.task.words calls c.running

pub advanced-run : (f words : List ℕ) (k : ℕ) (r : Running) → advanced f words k r ≡ run f words (replicate k step) r
unfolding advanced run
advanced-run f words zero r = refl
advanced-run f words (suc k) r = advanced-run f words k (does f words step r)

went_not : (c : Cell) → Went c c
unfolding run
went_not c = record { same = refl; calls = []; reached = refl }

went_called : (o : Op) (c : Cell) → Went c (called_with o c)
unfolding run
went_called o c = record { same = refl; calls = o ∷ []; reached = refl }

went_on : (k : ℕ) (c : Cell) → Went c (on_by k c)
went_on k c = record { same = refl; calls = replicate k step; reached = advanced-run _ _ k _ }

alone-fresh : (t : Task) → Alone (fresh t)
unfolding run
alone-fresh t = record { calls = []; reached = refl }

alone_went : {c d : Cell} → Alone c → Went c d → Alone d
alone_went {c} {d} a w = record { calls = a.calls ++ w.calls; reached = is }
  where
    is : d.running ≡ ran d.task.made d.task.words d.task.out d.task.list (a.calls ++ w.calls)
    is =
        rw w.same
        (w.reached
        ∙ ap (run c.task.made c.task.words w.calls) a.reached
        ∙ sym (run-append c.task.made c.task.words a.calls w.calls (begun c.task.out c.task.list)))

-- ---- all jobs

-- job number i of cs, and what became of it
pub record Was (cs : List Cell) (i : ℕ) (d : Cell) : Type 0 where
  pub cell : Cell
  pub there : get_elem? cs i ≡ some cell
  pub went : Went cell d

was_same : (cs : List Cell) (i : ℕ) (d : Cell) → get_elem? cs i ≡ some d → Was cs i d
was_same cs i d e = record { cell = d; there = e; went = went_not d }

was_later : {c : Cell} {cs : List Cell} {i : ℕ} {d : Cell} → Was cs i d → Was (c ∷ cs) (suc i) d
was_later w = record { cell = w.cell; there = w.there; went = w.went }

called_was : (k : ℕ) (o : Op) (cs : List Cell) (i : ℕ) (d : Cell) → get_elem? (called k o cs) i ≡ some d → Was cs i d
unfolding called
called_was k o [] i d e = absurd (none≢some e)
called_was zero o (c ∷ cs) zero d e = record { cell = c; there = refl; went = subst (Went c) (some_same e) (went_called o c) }
called_was zero o (c ∷ cs) (suc i) d e = was_same (c ∷ cs) (suc i) d e
called_was (suc k) o (c ∷ cs) zero d e = was_same (c ∷ cs) zero d e
called_was (suc k) o (c ∷ cs) (suc i) d e = was_later (called_was k o cs i d e)

advanced_was : (ks : List ℕ) (cs : List Cell) (i : ℕ) (d : Cell) → get_elem? (advanced_by ks cs) i ≡ some d → Was cs i d
unfolding advanced_by
advanced_was ks [] i d e = absurd (none≢some e)
advanced_was [] (c ∷ cs) i d e = was_same (c ∷ cs) i d e
advanced_was (k ∷ ks) (c ∷ cs) zero d e = record { cell = c; there = refl; went = subst (Went c) (some_same e) (went_on k c) }
advanced_was (k ∷ ks) (c ∷ cs) (suc i) d e = was_later (advanced_was ks cs i d e)

passed_was : (v : Checked (List ℕ)) (cs : List Cell) (i : ℕ) (d : Cell) → get_elem? (passed_by v cs) i ≡ some d → Was cs i d
passed_was (ok ks) cs i d e = advanced_was ks cs i d e
passed_was (refused n p) cs i d e = was_same cs i d e

-- every job of a list
abbrev pub AllAlone : List Cell → Type 0
AllAlone cs = (i : ℕ) (c : Cell) → get_elem? cs i ≡ some c → Alone c

alone_was : {cs : List Cell} {i : ℕ} {d : Cell} → AllAlone cs → Was cs i d → Alone d
alone_was {cs} {i} {d} a w = alone_went (a i w.cell w.there) w.went

joined-alone : (cs : List Cell) (t : Task) → AllAlone cs → AllAlone (cs ++ (fresh t ∷ []))
joined-alone [] t a zero c e = subst Alone (some_same e) (alone-fresh t)
joined-alone [] t a (suc i) c e = absurd (none≢some e)
joined-alone (h ∷ cs) t a zero c e = a zero c e
joined-alone (h ∷ cs) t a (suc i) c e = joined-alone cs t (λ k d q. a (suc k) d q) i c e

happens-alone : (e : Event) (cs : List Cell) → AllAlone cs → AllAlone (happens e cs)
unfolding happens passed
happens-alone (begins t) cs a = joined-alone cs t a
happens-alone (calls k o) cs a = λ i d e. alone_was a (called_was k o cs i d e)
happens-alone (passes u caps) cs a = λ i d e. alone_was a (passed_was (shared u (jobs_of caps cs)) cs i d e)

after-alone : (es : List Event) (cs : List Cell) → AllAlone cs → AllAlone (after es cs)
unfolding after
after-alone [] cs a = a
after-alone (e ∷ es) cs a = after-alone es (happens e cs) (happens-alone e cs a)

-- "Any sequence of passes": whatever begins, is called for and is given in passes, each job stands where calls on it alone have brought it
pub all-alone : (es : List Event) → AllAlone (after es [])
all-alone es = after-alone es [] (λ i c e. absurd (none≢some e))

module _ (es : List Event) (i : ℕ) (c : Cell) (e : get_elem? (after es []) i ≡ some c) where
  abbrev t : Task
  t = c.task

  -- "each finished cell the file it would have had alone", and the list: those made in one go
  pub job_finished : 8 ≤ length t.made → left_of c ≡ 0 → (c.running.file ≡ blit 0 t.made t.out) × (c.running.list ≡ blit 0 t.words t.list)
  unfolding left_of
  job_finished h z =
      let a : Alone c = all-alone es i c e in
      let n : c.running.state.next ≡ (ran t.made t.words t.out t.list a.calls).state.next = ap (λ (r : Running). r.state.next) a.reached in
      let g = run_finished t.made t.words t.out t.list a.calls h (omega (arith, z, n)) in
      (ap (λ (r : Running). r.file) a.reached ∙ g.0, ap (λ (r : Running). r.list) a.reached ∙ g.1)

  -- and those of any calls that finish it where there is no other job
  pub job_as_alone : (os : List Op) → 8 ≤ length t.made → left_of c ≡ 0
      → steps_of (length t.made) ≤ (ran t.made t.words t.out t.list os).state.next
      → (c.running.file ≡ (ran t.made t.words t.out t.list os).file) × (c.running.list ≡ (ran t.made t.words t.out t.list os).list)
  job_as_alone os h z l =
      let f = job_finished h z in
      let g = run_finished t.made t.words t.out t.list os h l in
      (f.0 ∙ sym g.0, f.1 ∙ sym g.1)

  -- one that isn't finished, once a store was made: its first eight bytes are zero, and the list is as it was
  pub job-cut : 8 ≤ length t.out → 0 < left_of c → 1 ≤ c.running.high → (take 8 c.running.file ≡ replicate 8 0) × (c.running.list ≡ t.list)
  unfolding left_of
  job-cut h l k =
      let a : Alone c = all-alone es i c e in
      let n : c.running.state.next ≡ (ran t.made t.words t.out t.list a.calls).state.next = ap (λ (r : Running). r.state.next) a.reached in
      let m : c.running.high ≡ (ran t.made t.words t.out t.list a.calls).high = ap (λ (r : Running). r.high) a.reached in
      let g = run-cut t.made t.words t.out t.list a.calls h (omega (arith, l, n)) (omega (arith, k, m)) in
      (ap (λ (r : Running). take 8 r.file) a.reached ∙ g.0, ap (λ (r : Running). r.list) a.reached ∙ g.1)

-- ---- which job is which

abbrev pub tasks : List Cell → List Task
tasks cs = map (λ (c : Cell). c.task) cs

called-tasks : (k : ℕ) (o : Op) (cs : List Cell) → tasks (called k o cs) ≡ tasks cs
unfolding called
called-tasks k o [] = refl
called-tasks zero o (c ∷ cs) = refl
called-tasks (suc k) o (c ∷ cs) = ap {B = List Task} (λ r. c.task ∷ r) (called-tasks k o cs)

advanced-tasks : (ks : List ℕ) (cs : List Cell) → tasks (advanced_by ks cs) ≡ tasks cs
unfolding advanced_by
advanced-tasks ks [] = refl
advanced-tasks [] (c ∷ cs) = refl
advanced-tasks (k ∷ ks) (c ∷ cs) = ap {B = List Task} (λ r. c.task ∷ r) (advanced-tasks ks cs)

passed-tasks : (v : Checked (List ℕ)) (cs : List Cell) → tasks (passed_by v cs) ≡ tasks cs
passed-tasks (ok ks) cs = advanced-tasks ks cs
passed-tasks (refused n p) cs = refl

joined-tasks : (cs : List Cell) (t : Task) → tasks (cs ++ (fresh t ∷ [])) ≡ tasks cs ++ (t ∷ [])
joined-tasks [] t = refl
joined-tasks (c ∷ cs) t = ap {B = List Task} (λ r. c.task ∷ r) (joined-tasks cs t)

-- each job keeps its number, its file and its lists
pub after-tasks : (es : List Event) (cs : List Cell) → tasks (after es cs) ≡ tasks cs ++ beginning es
unfolding after happens passed beginning
after-tasks [] cs = sym (append-nil (tasks cs))
after-tasks (begins t ∷ es) cs =
    after-tasks es (cs ++ (fresh t ∷ [])) ∙ rw (joined-tasks cs t) (append_assoc (tasks cs) (t ∷ []) (beginning es))
after-tasks (calls i o ∷ es) cs = after-tasks es (called i o cs) ∙ rw (called-tasks i o cs) refl
after-tasks (passes u caps ∷ es) cs =
    after-tasks es (passed_by (shared u (jobs_of caps cs)) cs) ∙ rw (passed-tasks (shared u (jobs_of caps cs)) cs) refl

task_there : (cs : List Cell) (i : ℕ) (t : Task) → get_elem? (tasks cs) i ≡ some t → (c : Cell) × (get_elem? cs i ≡ some c) × (c.task ≡ t)
task_there [] i t e = absurd (none≢some e)
task_there (c ∷ cs) zero t e = (c, refl, some_same e)
task_there (c ∷ cs) (suc i) t e = task_there cs i t e

-- the job that began as number i is there as number i
pub job_there : (es : List Event) (i : ℕ) (t : Task) → get_elem? (beginning es) i ≡ some t
    → (c : Cell) × (get_elem? (after es []) i ≡ some c) × (c.task ≡ t)
job_there es i t e = task_there (after es []) i t (ap (λ (l : List Task). get_elem? l i) (after-tasks es []) ∙ e)

-- ---- a job goes on

-- what became of job c, number i of cs
pub record Becomes (c : Cell) (i : ℕ) (cs : List Cell) : Type 0 where
  pub cell : Cell
  pub there : get_elem? cs i ≡ some cell
  pub went : Went c cell

becomes_same : (c : Cell) (i : ℕ) (cs : List Cell) → get_elem? cs i ≡ some c → Becomes c i cs
becomes_same c i cs e = record { cell = c; there = e; went = went_not c }

becomes_later : {c d : Cell} {i : ℕ} {cs : List Cell} → Becomes c i cs → Becomes c (suc i) (d ∷ cs)
becomes_later b = record { cell = b.cell; there = b.there; went = b.went }

called_becomes : (k : ℕ) (o : Op) (cs : List Cell) (i : ℕ) (c : Cell) → get_elem? cs i ≡ some c → Becomes c i (called k o cs)
unfolding called
called_becomes k o [] i c e = absurd (none≢some e)
called_becomes zero o (d ∷ cs) zero c e =
    record { cell = called_with o d; there = refl; went = subst (λ (x : Cell). Went x (called_with o d)) (some_same e) (went_called o d) }
called_becomes zero o (d ∷ cs) (suc i) c e = becomes_same c (suc i) _ e
called_becomes (suc k) o (d ∷ cs) zero c e = becomes_same c zero _ e
called_becomes (suc k) o (d ∷ cs) (suc i) c e = becomes_later (called_becomes k o cs i c e)

advanced_becomes : (ks : List ℕ) (cs : List Cell) (i : ℕ) (c : Cell) → get_elem? cs i ≡ some c → Becomes c i (advanced_by ks cs)
unfolding advanced_by
advanced_becomes ks [] i c e = absurd (none≢some e)
advanced_becomes [] (d ∷ cs) i c e = becomes_same c i _ e
advanced_becomes (k ∷ ks) (d ∷ cs) zero c e =
    record { cell = on_by k d; there = refl; went = subst (λ (x : Cell). Went x (on_by k d)) (some_same e) (went_on k d) }
advanced_becomes (k ∷ ks) (d ∷ cs) (suc i) c e = becomes_later (advanced_becomes ks cs i c e)

passed_becomes : (v : Checked (List ℕ)) (cs : List Cell) (i : ℕ) (c : Cell) → get_elem? cs i ≡ some c → Becomes c i (passed_by v cs)
passed_becomes (ok ks) cs i c e = advanced_becomes ks cs i c e
passed_becomes (refused n p) cs i c e = becomes_same c i cs e

joined_there : (cs ds : List Cell) (i : ℕ) (c : Cell) → get_elem? cs i ≡ some c → get_elem? (cs ++ ds) i ≡ some c
joined_there [] ds i c e = absurd (none≢some e)
joined_there (d ∷ cs) ds zero c e = e
joined_there (d ∷ cs) ds (suc i) c e = joined_there cs ds i c e

happens_becomes : (e : Event) (cs : List Cell) (i : ℕ) (c : Cell) → get_elem? cs i ≡ some c → Becomes c i (happens e cs)
unfolding happens passed
happens_becomes (begins t) cs i c e = becomes_same c i _ (joined_there cs (fresh t ∷ []) i c e)
happens_becomes (calls k o) cs i c e = called_becomes k o cs i c e
happens_becomes (passes u caps) cs i c e = passed_becomes (shared u (jobs_of caps cs)) cs i c e

went_then : {b c d : Cell} → Went b c → Went c d → Went b d
went_then {b} {c} {d} v w =
    record {
      same = w.same ∙ v.same;
      calls = v.calls ++ w.calls;
      reached = w.reached
          ∙ rw v.same (ap (run b.task.made b.task.words w.calls) v.reached)
          ∙ sym (run-append b.task.made b.task.words v.calls w.calls b.running);
    }

-- from wherever the jobs stand, whatever happens: each keeps its number, and calls on it alone lead on
pub after_becomes : (es : List Event) (cs : List Cell) (i : ℕ) (c : Cell) → get_elem? cs i ≡ some c → Becomes c i (after es cs)
unfolding after
after_becomes [] cs i c e = becomes_same c i cs e
after_becomes (v ∷ es) cs i c e =
    let b : Becomes c i (happens v cs) = happens_becomes v cs i c e in
    let d : Becomes b.cell i (after es (happens v cs)) = after_becomes es (happens v cs) i b.cell b.there in
    record { cell = d.cell; there = d.there; went = went_then b.went d.went }

-- the furthest position reached never goes back
pub went_grows : {c d : Cell} → Went c d → c.running.high ≤ d.running.high
went_grows {c} {d} w =
    omega (arith, run_grows c.task.made c.task.words w.calls c.running, ap (λ (r : Running). r.high) w.reached)

-- once a job was given a store, a store was made
pub given_reaches : (c : Cell) (k : ℕ) → Alone c → 1 ≤ (on_by (suc k) c).running.high
given_reaches c k a =
    let t : Task = c.task in
    let r : (on_by (suc k) c).running ≡ ran t.made t.words t.out t.list (a.calls ++ (step ∷ replicate k step)) =
    advanced-run t.made t.words (suc k) c.running
    ∙ ap (run t.made t.words (step ∷ replicate k step)) a.reached
    ∙ sym (run-append t.made t.words a.calls (step ∷ replicate k step) (begun t.out t.list)) in
    omega (arith, step_reaches t.made t.words t.out t.list a.calls (replicate k step), ap (λ (x : Running). x.high) r)

-- ---- a pass makes as many stores as it gives

advanced-next : (f words : List ℕ) (k : ℕ) (r : Running) → k ≤ steps_of (length f) - r.state.next → (advanced f words k r).state.next ≡ r.state.next + k
unfolding advanced
advanced-next f words zero r h = omega arith
advanced-next f words (suc k) r h =
    let q : Running = does f words step r in
    let n : q.state.next ≡ r.state.next + 1 = rw (step_stores f words r (omega arith)) refl in
    advanced-next f words k q (omega arith) ∙ omega arith

-- k stores further, so many fewer are left
pub on-next : (k : ℕ) (c : Cell) → k ≤ left_of c → ((on_by k c).running.state.next ≡ c.running.state.next + k) × (left_of (on_by k c) + k ≡ left_of c)
unfolding left_of
on-next k c h =
    let n = advanced-next c.task.made c.task.words k c.running h in
    (n, omega arith)

-- job number i goes on by share number i
advanced-one : (ks : List ℕ) (cs : List Cell) (i : ℕ) (c : Cell) → i < length ks → get_elem? cs i ≡ some c
    → get_elem? (advanced_by ks cs) i ≡ some (on_by (get_or ks i 0) c)
unfolding advanced_by
advanced-one ks [] i c h e = absurd (none≢some e)
advanced-one [] (d ∷ cs) i c h e = absurd (omega arith)
advanced-one (k ∷ ks) (d ∷ cs) zero c h e = ap {B = Option Cell} (λ (x : Cell). some (on_by k x)) (some_same e)
advanced-one (k ∷ ks) (d ∷ cs) (suc i) c h e = advanced-one ks cs i c (omega arith) e

jobs_one : (caps : List ℕ) (cs : List Cell) (i : ℕ) (c : Cell) → get_elem? cs i ≡ some c
    → get_elem? (jobs_of caps cs) i ≡ some (record { cap = get_or caps i 0; left = left_of c })
unfolding jobs_of
jobs_one caps [] i c e = absurd (none≢some e)
jobs_one [] (d ∷ cs) zero c e = ap {B = Option Job} (λ (x : Cell). some (record { cap = 0; left = left_of x })) (some_same e)
jobs_one [] (d ∷ cs) (suc i) c e = jobs_one [] cs i c e
jobs_one (k ∷ ks) (d ∷ cs) zero c e = ap {B = Option Job} (λ (x : Cell). some (record { cap = k; left = left_of x })) (some_same e)
jobs_one (k ∷ ks) (d ∷ cs) (suc i) c e = jobs_one ks cs i c e

there_within : {A : Type 0} (l : List A) (i : ℕ) (x : A) → get_elem? l i ≡ some x → i < length l
there_within [] i x e = absurd (none≢some e)
there_within (y ∷ l) zero x e = omega arith
there_within (y ∷ l) (suc i) x e = omega (arith, there_within l i x e)

module _ (u : ℕ) (caps : List ℕ) (cs : List Cell) (i : ℕ) (c : Cell) (e : get_elem? cs i ≡ some c) where
  abbrev js : List Job
  js = jobs_of caps cs

  abbrev j : Job
  j = record { cap = get_or caps i 0; left = left_of c }

  -- what becomes of it in a pass that isn't refused
  pub passed-one : shared u js ≡ ok (shares u js) → get_elem? (passed u caps cs) i ≡ some (on_by (get_or (shares u js) i 0) c)
  unfolding passed
  passed-one s =
      let w : i < length (shares u js) = omega (arith, shares-length u js, there_within js i j (jobs_one caps cs i c e)) in
      rw s (advanced-one (shares u js) cs i c w e)

  -- and it makes each store of its share
  pub passed-next : ((on_by (get_or (shares u js) i 0) c).running.state.next ≡ c.running.state.next + get_or (shares u js) i 0)
      × (left_of (on_by (get_or (shares u js) i 0) c) + get_or (shares u js) i 0 ≡ left_of c)
  passed-next = on-next (get_or (shares u js) i 0) c (share_left u js i j (jobs_one caps cs i c e))
