-- What all calls of a conversion in steps leave together, by their contracts alone: whatever calls are made, state, file and list are those of the
-- definition, and so document 02's sentences hold of them.
use Rattle.std.specs.Prelude.{ℕ, zero, suc, ◌+◌, ◌*◌, ◌≤◌, ◌<◌, min, List, [], ◌∷◌, ◌++◌, ◌≡◌, refl, replicate, Ok}
use Rattle.std.proofs.Math.Logic.{⊎_elim}
use Rattle.std.proofs.Common.{sym, ap, ◌∙◌, arith}
use Rattle.std.proofs.Math.Path.{subst}
use Rattle.std.proofs.Math.ListN.{length}
use Rattle.std.proofs.lemmas.List.{length-replicate}
use Rattle.base.specs.Blit.{blit}
use Rattle.base.specs.BlitLaws.{length-blit}
use Rattle.base.specs.ChoiceLaws.{lt_no}
use Rattle.base.specs.Checked.{Checked, ok, refused, fine}
use Rattle.plan.specs.Columns.{omission_words}
use Rattle.result.specs.Result.{Args, Decided, file_of, decided, answer, work_in, convert}
use Rattle.result.specs.Guarantee.{Guaranteed}
use Rattle.plan_laws.specs.Known.{Known, decided-known}
use Rattle.guarantee.specs.Theorem.{AllBytes, guaranteed}
use Rattle.stores.specs.Cases.{lt_or_le}
use Rattle.stores.specs.Stores.{steps_of, store_of, stored, State, naming, recalling, Op, step, name, recall, Running, begun, onward, moved, does, run}
use Rattle.stores.proofs.StoresLaws.{steps_some, one-run}
use Rattle.stores.specs.StoresLaws.{OneRun}
use Rattle.stores.specs.RunLaws as calls
use Rattle.stores.proofs.RunLaws.{named_late, recalled_late, holds-begun, under, holds-step, holds_name, holds_recall, step_stores, step_further, run_finished}
use Rattle.stores_laws.specs.Passing.{Passing}
use Rattle.stores_laws.specs.Steps.{file-length, file_least, in_steps, finished, cut_list, cut-decided, cut-answer, cut-convert}
use Rattle.positions.specs.Held.{state_of}
use Rattle.writing.specs.Answer.{file_for}
use Rattle.writing.specs.FinishLaws.{stands_words}
use Rattle.steps.specs.declared.conversion.Conversion.{Conversion}
use Rattle.steps.specs.declared.position.Position.{Position}
use Rattle.writing.specs.declared.convert.Report.{Report}
use Rattle.placing.specs.Decision.{four}
use Rattle.steps.specs.Conversion.{positions_of, at_positions}
use Rattle.steps.specs.Steps.{cleared, list_for, Holds, Starts, running_of, Steps, Lent, lent, all_cleared, Bounded, PositionAs}
use Rattle.steps.specs.StepsLaws.{holds_named}
use Rattle.steps_guarantee.specs.Calls.{Between, state_in, call_in, HoldsIn, Finished, Unfinished, Begun, StepsIn, Stepped, Moves, told_of, Call, Calls, no_call, call, number_of, Refuses}

-- ---- what the code ensures are calls: `begin` that accepts, `step`, `name` and `recall`
abbrev between : Conversion → Lent → List ℕ → List ℕ → Between
between k l file list = record { conversion = k; words = l; file = file; list = list }

module _ (x : Args) (file list : List ℕ) (v f w m p q : List ℕ) where
  pub begun-by : (a b c d e i : List ℕ) (k : Conversion) (r : Report) → Starts x (length file) (length list) a b c d e i (Ok (record { conversion = k; report = r })) v f w m p q
      → Begun x (between k (lent v f w m p q) file list)
  begun-by a b c d e i k r h = record { work = four a b c d; accepted = h.1 }

  module _ (k : Conversion) where
    pub step_by : (r : Conversion) (v' f' w' m' p' q' file' list' : List ℕ)
        → (Holds (call_in x k) k v f w m p q → k.file_size ≤ length file → 2 * k.omissions + 1 ≤ length list
        → Steps (call_in x k) k file list r v' f' w' m' p' q' file' list')
        → Bounded k r file file' list list' (lent v f w m p q) (lent v' f' w' m' p' q')
        → Call x step (between k (lent v f w m p q) file list) (between r (lent v' f' w' m' p' q') file' list')
    step_by r v' f' w' m' p' q' file' list' h b = record { right = h; bounded = b }

    pub name_by : (n : ℕ) (r : Position) → PositionAs (naming k.steps n (state_of (positions_of k))) k r
        → Call x (name n) (between k (lent v f w m p q) file list) (between r.conversion (lent v f w m p q) file list)
    name_by n r h = record { answered = r; right = h; conversion = refl; words = refl; file = refl; list = refl }

    pub recall_by : (n : ℕ) (r : Position) → PositionAs (recalling k.steps n (state_of (positions_of k))) k r
        → Call x (recall n) (between k (lent v f w m p q) file list) (between r.conversion (lent v f w m p q) file list)
    recall_by n r h = record { answered = r; right = h; conversion = refl; words = refl; file = refl; list = refl }

-- ---- words of zeros
cleared-again : (w : List ℕ) → cleared (cleared w) ≡ cleared w
cleared-again w = ap (λ (n : ℕ). replicate n 0) (length-replicate (length w) 0)

all-again : (l : Lent) → all_cleared (all_cleared l) ≡ all_cleared l
all-again l =
    rw (
      cleared-again l.source,
      cleared-again l.fragments,
      cleared-again l.columns,
      cleared-again l.copies,
      cleared-again l.stretches,
      cleared-again l.offsets,
    )

zeros_are : (l : Lent) {l' : Lent} → l' ≡ all_cleared l → l' ≡ all_cleared l'
zeros_are l e = e ∙ sym (all-again l) ∙ ap all_cleared (sym e)

-- ---- after every call

-- the finished file of the call x, and the words of its list
abbrev made : Args → List ℕ
made x = file_for x (decided x)

abbrev omitted : Args → List ℕ
omitted x = list_for (decided x)

-- the plan stands, and file and list have room
record Ready (x : Args) (a : Between) : Type 0 where
  holds : HoldsIn x a.conversion a.words
  file_fits : a.conversion.file_size ≤ length a.file
  list_fits : 2 * a.conversion.omissions + 1 ≤ length a.list

-- state, file and list are those of the definition; until the last store the plan stands, and after it every word is zero
record Follows (x : Args) (out list : List ℕ) (a : Between) (r : Running) : Type 0 where
  runs : running_of a.conversion a.file a.list r.high ≡ r
  sound : calls.Holds (made x) (omitted x) out list r
  call : call_in x a.conversion ≡ x
  steps : a.conversion.steps ≡ steps_of (length (made x))
  ready : Unfinished a → Ready x a
  zeros : Finished a → a.words ≡ all_cleared a.words

module _ {x : Args} {out list : List ℕ} {a : Between} {r : Running} (h : Follows x out list a r) where
  next_is : a.conversion.next ≡ r.state.next
  next_is = ap (λ (z : Running). z.state.next) h.runs

  -- nothing changed
  same : {b : Between} → b.conversion ≡ a.conversion → b.words ≡ a.words → b.file ≡ a.file → b.list ≡ a.list → Follows x out list b r
  same {b} e w f l =
      record {
        runs = rw (e, f, l) h.runs;
        sound = h.sound;
        call = rw e h.call;
        steps = rw e h.steps;
        ready = λ g. let t = h.ready (rw e at g) in record { holds = rw (e, w) t.holds; file_fits = rw (e, f) t.file_fits; list_fits = rw (e, l) t.list_fits };
        zeros = λ g. rw w (h.zeros (rw e at g));
      }

  -- ---- a step
  module _ {b : Between} (s : Stepped x a b) where
    steps_in : StepsIn x a b
    steps_in = subst (λ (y : Args). StepsIn y a b) h.call s.right

    steps_as : Unfinished a
        → Steps x a.conversion a.file a.list b.conversion b.words.source b.words.fragments b.words.columns b.words.copies
        b.words.stretches b.words.offsets b.file b.list
    steps_as lt = let t = h.ready lt in steps_in t.holds t.file_fits t.list_fits

    file-kept : length b.file ≡ length a.file
    file-kept = let o = s.bounded.store in ap length o.is ∙ length-blit o.at o.bytes a.file

    follows_onward : Unfinished a → Follows x out list b (does (made x) (omitted x) step r)
    follows_onward lt =
        let t = h.ready lt in
        let on = s.bounded.onward lt in
        let n : b.conversion.next ≡ a.conversion.next + 1 = ap (λ (k : Conversion). k.next) on in
        let m : b.conversion.steps ≡ a.conversion.steps = ap (λ (k : Conversion). k.steps) on in
        record {
          runs = subst
              (λ (z : Running). running_of b.conversion b.file b.list (does (made x) (omitted x) step z).high ≡ does (made x) (omitted x) step z)
              h.runs ((steps_as lt).runs r.high);
          sound = holds-step (made x) (omitted x) out list h.sound;
          call = ap (call_in x) on ∙ h.call;
          steps = m ∙ h.steps;
          ready = λ g.
              let before : a.conversion.next + 1 < a.conversion.steps = omega (arith, g, n, m) in
              record {
                holds = (steps_as lt).holds before;
                file_fits = omega (arith, ap (λ (k : Conversion). k.file_size) on, file-kept, t.file_fits);
                list_fits = omega (arith, ap (λ (k : Conversion). k.omissions) on, ap length (s.bounded.before before).0, t.list_fits);
              };
          zeros = λ g. zeros_are a.words (s.bounded.last (omega (arith, lt, g, n, m)));
        }

    follows_further : Finished a → Follows x out list b (does (made x) (omitted x) step r)
    follows_further le =
        let e = s.bounded.further le in
        let d = step_further (made x) (omitted x) r (omega (arith, le, next_is, h.steps)) in
        rw d (same e.0 e.3 e.1 e.2)

    follows_step : Follows x out list b (does (made x) (omitted x) step r)
    follows_step = ⊎_elim follows_onward follows_further (lt_or_le a.conversion.next a.conversion.steps)

  -- ---- a position named or recalled
  moved_same : {b : Between} {number place : ℕ} → Moves (refused number place) a b → Follows x out list b r
  moved_same m = same (m.conversion ∙ m.right.1) m.words m.file m.list

  moved_to : (s : State) {b : Between} → Moves (ok s) a b → Unfinished a → s.next < a.conversion.steps
      → calls.Holds (made x) (omitted x) out list (moved r (ok s)) → Follows x out list b (moved r (ok s))
  moved_to s {b} m lt below sound =
      let t = h.ready lt in
      let e : b.conversion ≡ at_positions a.conversion (positions_of b.conversion) =
      m.conversion ∙ m.right.2 ∙ ap (λ (k : Conversion). at_positions a.conversion (positions_of k)) (sym m.conversion) in
      let state : state_in b ≡ s = ap (λ (k : Conversion). state_of (positions_of k)) m.conversion ∙ m.right.1 in
      let n : b.conversion.next ≡ s.next = ap (λ (z : State). z.next) state in
      let u : b.conversion.steps ≡ a.conversion.steps = ap (λ (k : Conversion). k.steps) e in
      record {
        runs = ap (λ (z : State). record { state = z; file = b.file; list = b.list; high = r.high }) state
            ∙ ap (λ (z : List ℕ). record { state = s; file = z; list = b.list; high = r.high }) (m.file ∙ ap (λ (z : Running). z.file) h.runs)
            ∙ ap (λ (z : List ℕ). record { state = s; file = r.file; list = z; high = r.high }) (m.list ∙ ap (λ (z : Running). z.list) h.runs);
        sound = sound;
        call = ap (call_in x) e ∙ h.call;
        steps = u ∙ h.steps;
        ready = λ g.
            record {
              holds = rw m.words (holds_named t.holds e);
              file_fits = omega (arith, ap (λ (k : Conversion). k.file_size) e, ap length m.file, t.file_fits);
              list_fits = omega (arith, ap (λ (k : Conversion). k.omissions) e, ap length m.list, t.list_fits);
            };
        zeros = λ g. absurd (omega (arith, g, n, u, below));
      }

  moved_as : (v : Checked State) {b : Between} → Moves v a b → Unfinished a → calls.Holds (made x) (omitted x) out list (moved r v)
      → Follows x out list b (moved r v)
  moved_as (refused number place) m lt sound = moved_same m
  moved_as (ok s) m lt sound =
      let below = under (made x) (omitted x) out list h.sound (omega (arith, lt, next_is, h.steps)) in
      moved_to s m lt (omega (arith, sound.reached, below, h.steps)) sound

  state_is : state_in a ≡ r.state
  state_is = ap (λ (z : Running). z.state) h.runs

  module _ (n : ℕ) where
    -- what the code decides on is what the definition decides on
    naming_as : naming a.conversion.steps n (state_in a) ≡ naming (steps_of (length (made x))) n r.state
    naming_as = ap (λ (k : ℕ). naming k n (state_in a)) h.steps ∙ ap (naming (steps_of (length (made x))) n) state_is

    recalling_as : recalling a.conversion.steps n (state_in a) ≡ recalling (steps_of (length (made x))) n r.state
    recalling_as = ap (λ (k : ℕ). recalling k n (state_in a)) h.steps ∙ ap (recalling (steps_of (length (made x))) n) state_is

    follows_name : {b : Between} → Call x (name n) a b → Follows x out list b (does (made x) (omitted x) (name n) r)
    unfolding does
    follows_name {b} c =
        let m : Moves (naming (steps_of (length (made x))) n r.state) a b = subst (λ (v : Checked State). Moves v a b) naming_as c in
        ⊎_elim (λ lt. moved_as (naming (steps_of (length (made x))) n r.state) m lt (holds_name (made x) (omitted x) out list n h.sound))
        (λ le.
        let late = named_late (steps_of (length (made x))) n r.state (omega (arith, le, next_is, h.steps)) in
        subst (λ (v : Checked State). Follows x out list b (moved r v)) (sym late) (moved_same (subst (λ (v : Checked State). Moves v a b) late m)))
        (lt_or_le a.conversion.next a.conversion.steps)

    follows_recall : {b : Between} → Call x (recall n) a b → Follows x out list b (does (made x) (omitted x) (recall n) r)
    unfolding does
    follows_recall {b} c =
        let m : Moves (recalling (steps_of (length (made x))) n r.state) a b = subst (λ (v : Checked State). Moves v a b) recalling_as c in
        ⊎_elim (λ lt. moved_as (recalling (steps_of (length (made x))) n r.state) m lt (holds_recall (made x) (omitted x) out list n h.sound))
        (λ le.
        let late = recalled_late (steps_of (length (made x))) n r.state (omega (arith, le, next_is, h.steps)) in
        subst (λ (v : Checked State). Follows x out list b (moved r v)) (sym late) (moved_same (subst (λ (v : Checked State). Moves v a b) late m)))
        (lt_or_le a.conversion.next a.conversion.steps)

  -- ---- any call
  follows_call : (o : Op) {b : Between} → Call x o a b → Follows x out list b (does (made x) (omitted x) o r)
  follows_call step c = follows_step c
  follows_call (name n) c = follows_name n c
  follows_call (recall n) c = follows_recall n c

follows_calls : (x : Args) (out list : List ℕ) (os : List Op) {a b : Between} {r : Running} → Follows x out list a r → Calls x os a b
    → Follows x out list b (run (made x) (omitted x) os r)
unfolding run
follows_calls x out list [] h no_call = h
follows_calls x out list (o ∷ os) h (call b c cs) = follows_calls x out list os (follows_call h o c) cs

-- steps alone go on by one each, up to the last store
steps_onward : (x : Args) (n : ℕ) {a b : Between} → Calls x (replicate n step) a b → a.conversion.next ≤ a.conversion.steps
    → (b.conversion.next ≡ min (a.conversion.next + n) a.conversion.steps) × (b.conversion.steps ≡ a.conversion.steps)
steps_onward x zero no_call h = (omega (arith, h), refl)
steps_onward x (suc n) {a} (call c s cs) h =
    ⊎_elim
    (λ lt.
    let on = s.bounded.onward lt in
    let k : c.conversion.next ≡ a.conversion.next + 1 = ap (λ (z : Conversion). z.next) on in
    let m : c.conversion.steps ≡ a.conversion.steps = ap (λ (z : Conversion). z.steps) on in
    let t = steps_onward x n cs (omega (arith, lt, k, m)) in
    (omega (arith, t.0, k, m), t.1 ∙ m))
    (λ le.
    let on = (s.bounded.further le).0 in
    let k : c.conversion.next ≡ a.conversion.next = ap (λ (z : Conversion). z.next) on in
    let m : c.conversion.steps ≡ a.conversion.steps = ap (λ (z : Conversion). z.steps) on in
    let t = steps_onward x n cs (omega (arith, h, k, m)) in
    (omega (arith, t.0, k, m, le), t.1 ∙ m))
    (lt_or_le a.conversion.next a.conversion.steps)

-- calls after calls are calls
pub calls_append : {x : Args} {os bs : List Op} {a b c : Between} → Calls x os a b → Calls x bs b c → Calls x (os ++ bs) a c
calls_append no_call t = t
calls_append (call b s cs) t = call b s (calls_append cs t)

number_is : (v : Checked State) {a b : Between} (m : Moves v a b) → m.answered.number ≡ number_of v
number_is (ok s) m = m.right.0
number_is (refused number place) m = m.right.0

-- ---- what was begun
module _ {x : Args} {a : Between} (g : Begun x a) where
  abbrev d : Decided
  d = told_of g

  known : Known x d
  known = decided-known x d g.accepted.holds.stands.by.is

  made_is : made x ≡ file_of x d.laid_out
  made_is = ap (file_for x) g.accepted.holds.stands.by.is

  steps_first : a.conversion.steps ≡ steps_of d.laid_out.file_size_lem
  steps_first = g.accepted.holds.steps ∙ ap steps_of g.accepted.holds.stands.by.numbered.file_size_lem

  file_steps_of : steps_of (length (file_of x d.laid_out)) ≡ steps_of d.laid_out.file_size_lem
  file_steps_of = ap steps_of (file-length x d known)

  steps_made : a.conversion.steps ≡ steps_of (length (made x))
  steps_made = steps_first ∙ ap steps_of (sym (ap length made_is ∙ file-length x d known))

  -- what was decided is the answer of the conversion in one go
  pub begun-answer : answer x (length a.file) (length a.list) ≡ ok (told_of g)
  unfolding answer
  begun-answer =
      let st = g.accepted.holds.stands in
      let fits : d.laid_out.file_size_lem ≤ length a.file = omega (arith, g.accepted.file_fits, st.by.numbered.file_size_lem) in
      let lists : length (omission_words d.planned.omissions) ≤ length a.list = omega (arith, g.accepted.list_fits, stands_words st) in
      rw st.by.is (sym (lt_no _ _ _ _ fits (lt_no _ _ _ _ lists refl)))

  follows_begun : Follows x a.file a.list a (begun a.file a.list)
  follows_begun =
      let n : a.conversion.next ≡ 0 = ap (λ (z : State). z.next) g.accepted.first in
      record {
        runs = ap (λ (z : State). record { state = z; file = a.file; list = a.list; high = 0 }) g.accepted.first;
        sound = holds-begun (made x) (omitted x) a.file a.list;
        call = g.accepted.call;
        steps = steps_made;
        ready = λ h. record { holds = g.accepted.holds; file_fits = g.accepted.file_fits; list_fits = g.accepted.list_fits };
        zeros = λ h. absurd (omega (arith, h, n, steps_first, steps_some d.laid_out.file_size_lem));
      }

  module _ {os : List Op} {b : Between} (c : Calls x os a b) where
    follows : Follows x a.file a.list b (run (made x) (omitted x) os (begun a.file a.list))
    follows = follows_calls x a.file a.list os follows_begun c

    running_is : running_of b.conversion b.file b.list (run (made x) (omitted x) os (begun a.file a.list)).high
        ≡ in_steps x d a.file a.list os
    running_is =
        follows.runs ∙ ap (λ (v : Checked Decided). run (file_for x v) (list_for v) os (begun a.file a.list)) g.accepted.holds.stands.by.is

    -- state, file and list are those of the definition
    pub calls_run : (state_in b ≡ (in_steps x (told_of g) a.file a.list os).state) × (b.file ≡ (in_steps x (told_of g) a.file a.list os).file)
        × (b.list ≡ (in_steps x (told_of g) a.file a.list os).list)
    calls_run =
        (ap (λ (z : Running). z.state) running_is, ap (λ (z : Running). z.file) running_is, ap (λ (z : Running). z.list) running_is)

    -- "the number of steps is known before the first", from the size
    pub calls_known : b.conversion.steps ≡ steps_of (told_of g).laid_out.file_size_lem
    calls_known = follows.steps ∙ sym steps_made ∙ steps_first

    next_in : b.conversion.next ≡ (in_steps x d a.file a.list os).state.next
    next_in = ap (λ (z : State). z.next) calls_run.0

    at_most : b.conversion.next ≤ b.conversion.steps
    at_most = omega (arith, next_is follows, follows.sound.reached, follows.sound.most, follows.steps)

    -- "after the last it is the file made in one go", and so is the list
    pub calls_finished : Finished b → (work : List (List ℕ)) → work_in work ≡ fine
        → (b.file ≡ (convert x a.file a.list work).output) × (b.list ≡ (convert x a.file a.list work).list)
    calls_finished h work w =
        let f = finished x d a.file a.list begun-answer os work w (omega (arith, h, calls_known, next_in)) in
        (calls_run.1 ∙ f.0, calls_run.2 ∙ f.1)

    -- demand 3 of them
    pub calls_guaranteed : Finished b → AllBytes x.image → Guaranteed x (told_of g) b.file b.list
    calls_guaranteed h bytes =
        let f = run_finished (file_of x d.laid_out) (omission_words d.planned.omissions) a.file a.list os
        (omega (arith, file-length x d known, file_least x d known)) (omega (arith, h, calls_known, next_in, file_steps_of)) in
        subst (λ (l : List ℕ). Guaranteed x d b.file l) (sym (calls_run.2 ∙ f.1))
        (subst (λ (z : List ℕ). Guaranteed x d z (blit 0 (omission_words d.planned.omissions) a.list)) (sym (calls_run.1 ∙ f.0))
        (guaranteed x a.file a.list d bytes begun-answer))

    -- and every lent word is zero
    pub calls_words : Finished b → b.words ≡ all_cleared b.words
    calls_words = follows.zeros

    -- "each making one store of 1 to 4,096 bytes": the next, over the file
    pub calls_store : {e : Between} → Stepped x b e → Unfinished b
        → (e.file ≡ stored (file_of x (told_of g).laid_out) b.conversion.next b.file)
        × OneRun (file_of x (told_of g).laid_out) (store_of (file_of x (told_of g).laid_out) b.conversion.next)
    calls_store {e} s lt =
        let r = (steps_as follows s lt).runs 0 in
        let q = step_stores (made x) (omitted x) (running_of b.conversion b.file b.list 0) (omega (arith, lt, follows.steps)) in (
          ap (λ (z : Running). z.file) (r ∙ q) ∙ ap (λ (f : List ℕ). stored f b.conversion.next b.file) made_is,
          one-run (file_of x d.laid_out) b.conversion.next (omega (arith, file-length x d known, file_least x d known)),
        )

    -- "a further one stores nothing", and changes nothing
    pub calls_further : {e : Between} → Stepped x b e → Finished b
        → (e.conversion ≡ b.conversion) × (e.file ≡ b.file) × (e.list ≡ b.list) × (e.words ≡ b.words)
    calls_further s le = s.bounded.further le

    -- 29 and 30 are answered where the definition has them
    pub calls_name : (n : ℕ) {e : Between} (m : Call x (name n) b e)
        → m.answered.number ≡ number_of (naming (steps_of (told_of g).laid_out.file_size_lem) n (in_steps x (told_of g) a.file a.list os).state)
    calls_name n m =
        number_is (naming b.conversion.steps n (state_in b)) m
        ∙ ap (λ (k : ℕ). number_of (naming k n (state_in b))) calls_known
        ∙ ap (λ (z : State). number_of (naming (steps_of d.laid_out.file_size_lem) n z)) calls_run.0

    pub calls_recall : (n : ℕ) {e : Between} (m : Call x (recall n) b e)
        → m.answered.number ≡ number_of (recalling (steps_of (told_of g).laid_out.file_size_lem) n (in_steps x (told_of g) a.file a.list os).state)
    calls_recall n m =
        number_is (recalling b.conversion.steps n (state_in b)) m
        ∙ ap (λ (k : ℕ). number_of (recalling k n (state_in b))) calls_known
        ∙ ap (λ (z : State). number_of (recalling (steps_of d.laid_out.file_size_lem) n z)) calls_run.0

  -- "Without returns the number of steps is known before the first": so many steps finish, and fewer don't
  pub calls_steps : (n : ℕ) {b : Between} → Calls x (replicate n step) a b → b.conversion.next ≡ min n (steps_of (told_of g).laid_out.file_size_lem)
  calls_steps n c =
      let k : a.conversion.next ≡ 0 = ap (λ (z : State). z.next) g.accepted.first in
      let s = steps_onward x n c (omega (arith, k)) in
      omega (arith, s.0, k, steps_first)

  pub calls_enough : (n : ℕ) {b : Between} → Calls x (replicate n step) a b → steps_of (told_of g).laid_out.file_size_lem ≤ n → Finished b
  calls_enough n c h = omega (arith, h, calls_steps n c, calls_known c)

  pub calls_fewer : (n : ℕ) {b : Between} → Calls x (replicate n step) a b → n < steps_of (told_of g).laid_out.file_size_lem → Unfinished b
  calls_fewer n c h = omega (arith, h, calls_steps n c, calls_known c)

  -- "Going on from one gives the same final file": wherever it stands, as many steps as are left finish
  module _ {os : List Op} {b : Between} (c : Calls x os a b) (n : ℕ) {e : Between} (t : Calls x (replicate n step) b e)
      (enough : b.conversion.steps ≤ b.conversion.next + n) where
    pub goes_finished : Finished e
    goes_finished = let s = steps_onward x n t (at_most c) in omega (arith, s.0, s.1, enough)

    pub goes_on_lem : (work : List (List ℕ)) → work_in work ≡ fine
        → (e.file ≡ (convert x a.file a.list work).output) × (e.list ≡ (convert x a.file a.list work).list)
    goes_on_lem = calls_finished (calls_append c t) goes_finished

  -- "A cut after any store but the last leaves a file that the converter, called with arguments that pass 1, 2, 26, 27 and 3, refuses with 5"; and the
  -- list is as it was
  module _ (os more : List Op) {b : Between} (c : Calls x (os ++ step ∷ more) a b) (lt : Unfinished b) where
    left : (in_steps x d a.file a.list (os ++ step ∷ more)).state.next < steps_of d.laid_out.file_size_lem
    left = omega (arith, lt, calls_known c, next_in c)

    pub calls_cut : (y : Args) → y.image ≡ b.file → Passing y → Refuses y
    calls_cut y is p =
        let i = is ∙ (calls_run c).1 in
        record {
          decides = cut-decided x d a.file a.list begun-answer os more left y i p;
          answers = cut-answer x d a.file a.list begun-answer os more left y i p;
          converts = cut-convert x d a.file a.list begun-answer os more left y i p;
        }

    pub calls_list : b.list ≡ a.list
    calls_list = (calls_run c).2 ∙ cut_list x d a.file a.list begun-answer os more left
