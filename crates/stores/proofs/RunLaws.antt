-- The laws of calls: after any of them the file holds the stores up to the furthest position reached. So a conversion that finished left the file
-- and the list made in one go, and one that did not has its first eight bytes cleared.
use Prim.Native.Nat.{ℕ, zero, suc, ◌+◌, ◌≤◌, ◌<◌, min, max}
use mathlib.Core.List.{List, [], ◌∷◌, ◌++◌}
use Rattle.std.proofs.Math.Option.{Option, none, some}
use Rattle.std.specs.Prelude.{◌≡◌, take, replicate}
use Rattle.std.proofs.Math.Path.{refl, sym, ap, subst}
use Rattle.std.proofs.Common.{◌∙◌}
use Rattle.std.proofs.Math.Logic.{⊎_elim}
use native.Mathlib.Omega.{arith}
use Rattle.std.proofs.Math.ListN.{length}
use Rattle.base.specs.Choice.{if_lt, if_eq}
use Rattle.base.specs.ChoiceLaws.{lt_yes, lt_no, le_yes, le_no, eq_yes, eq_no}
use Rattle.base.specs.Blit.{blit}
use Rattle.base.specs.Checked.{Checked, ok, refused}
use Rattle.stores.specs.Cases.{lt_or_le, eq_or_ne}
use Rattle.stores.specs.Stores.{steps_of, stored_to, Named, named, State, given, sought, naming, returned, recalling, Op, step, name, recall, Running, begun, listed, onward, moved, does, run}
use Rattle.stores.proofs.StoresLaws.{length-stored_to, steps_some, again, whole, first_eight}
use Rattle.stores.specs.RunLaws.{Holds, ran}

-- ---- names

module _ (n : ℕ) (h : Named) (hs : List Named) where
  sought-here : h.called ≡ n → sought n (h ∷ hs) ≡ some h.at
  unfolding sought
  sought-here e = sym (eq_yes _ _ _ _ e refl)

  sought-on : (h.called ≡ n → ⊥) → sought n (h ∷ hs) ≡ sought n hs
  unfolding sought
  sought-on e = sym (eq_no _ _ _ _ e refl)

  given-here : (k : ℕ) → h.called ≡ n → given n k (h ∷ hs) ≡ named n k ∷ hs
  unfolding given
  given-here k e = sym (eq_yes _ _ _ _ e refl)

  given-on : (k : ℕ) → (h.called ≡ n → ⊥) → given n k (h ∷ hs) ≡ h ∷ given n k hs
  unfolding given
  given-on k e = sym (eq_no _ _ _ _ e refl)

-- a name leads to where it was given last
pub sought-given : (n k : ℕ) (hs : List Named) → sought n (given n k hs) ≡ some k
unfolding given
sought-given n k [] = sought-here n (named n k) [] refl
sought-given n k (h ∷ hs) =
    let more : sought n (given n k hs) ≡ some k = sought-given n k hs in
    ⊎_elim (λ e. ap (sought n) (given-here n h hs k e) ∙ sought-here n (named n k) hs refl)
    (λ e. ap (sought n) (given-on n h hs k e) ∙ sought-on n h (given n k hs) e ∙ more) (eq_or_ne h.called n)

-- and the others stay
pub sought-other : (m n k : ℕ) (hs : List Named) → (n ≡ m → ⊥) → sought m (given n k hs) ≡ sought m hs
unfolding given
sought-other m n k [] d = sought-on m (named n k) [] d
sought-other m n k (h ∷ hs) d =
    let more : sought m (given n k hs) ≡ sought m hs = sought-other m n k hs d in
    ⊎_elim
    (λ e. ap (sought m) (given-here n h hs k e) ∙ sought-on m (named n k) hs d ∙ sym (sought-on m h hs (λ q. d (sym e ∙ q))))
    (λ e.
    ap (sought m) (given-on n h hs k e)
    ∙ ⊎_elim (λ q. sought-here m h (given n k hs) q ∙ sym (sought-here m h hs q))
    (λ q. sought-on m h (given n k hs) q ∙ more ∙ sym (sought-on m h hs q)) (eq_or_ne h.called m))
    (eq_or_ne h.called n)

pub none≢some : {k : ℕ} → ◌≡◌ {A = Option ℕ} none (some k) → ⊥
none≢some e = let z : ◌≡◌ {A = ℕ} 0 1 = cc in omega arith

some_same : {j k : ℕ} → ◌≡◌ {A = Option ℕ} (some j) (some k) → j ≡ k
some_same e = cc

-- a new name is one more, a name given again is none
pub length_new : (n k : ℕ) (hs : List Named) → sought n hs ≡ none → length (given n k hs) ≡ suc (length hs)
unfolding given
length_new n k [] e = refl
length_new n k (h ∷ hs) e =
    ⊎_elim (λ q. absurd (none≢some (sym e ∙ sought-here n h hs q)))
    (λ q. ap length (given-on n h hs k q) ∙ ap suc (length_new n k hs (sym (sought-on n h hs q) ∙ e))) (eq_or_ne h.called n)

pub length-again : (n j k : ℕ) (hs : List Named) → sought n hs ≡ some j → length (given n k hs) ≡ length hs
unfolding sought
length-again n j k [] e = absurd (none≢some e)
length-again n j k (h ∷ hs) e =
    ⊎_elim (λ q. ap length (given-here n h hs k q))
    (λ q. ap length (given-on n h hs k q) ∙ ap suc (length-again n j k hs (sym (sought-on n h hs q) ∙ e))) (eq_or_ne h.called n)

-- ---- refusals

module _ (steps n : ℕ) (s : State) where
  -- "when a position is named or recalled after the last store"
  pub named_late : steps ≤ s.next → naming steps n s ≡ refused 30 0
  unfolding naming
  named_late h = sym (le_yes _ _ _ _ h refl)

  pub recalled_late : steps ≤ s.next → recalling steps n s ≡ refused 30 0
  unfolding recalling
  recalled_late h = sym (le_yes _ _ _ _ h refl)

  -- "when a fifth name is given"
  pub named_fifth : length s.held ≡ 4 → sought n s.held ≡ none → naming steps n s ≡ refused 30 0
  unfolding naming
  named_fifth h e =
      let five : length (given n s.next s.held) ≡ 5 = length_new n s.next s.held e ∙ ap suc h in
      ⊎_elim (λ a. sym (le_no _ _ _ _ a (lt_yes _ _ _ _ (omega arith) refl))) (λ a. sym (le_yes _ _ _ _ a refl)) (lt_or_le s.next steps)

  pub named-fine : s.next < steps → length (given n s.next s.held) ≤ 4
      → naming steps n s ≡ ok (record { next = s.next; held = given n s.next s.held })
  unfolding naming
  named-fine a b = sym (le_no _ _ _ _ a (lt_no _ _ _ _ b refl))

  -- "29 when a position is recalled that was never named"
  pub recalled_none : s.next < steps → sought n s.held ≡ none → recalling steps n s ≡ refused 29 0
  unfolding recalling
  recalled_none a e = sym (le_no _ _ _ _ a (sym (ap (returned s) e)))

  pub recalled_fine : (k : ℕ) → s.next < steps → sought n s.held ≡ some k → recalling steps n s ≡ ok (record { next = k; held = s.held })
  unfolding recalling
  recalled_fine k a e = sym (le_no _ _ _ _ a (sym (ap (returned s) e)))

-- ---- what holds after every call, for a file out and a list at the beginning

module _ (f words out list : List ℕ) where
  pub holds-begun : Holds f words out list (begun out list)
  unfolding stored_to steps_of sought
  holds-begun =
      record {
        file = refl;
        reached = omega arith;
        most = omega arith;
        done = λ h. absurd (omega arith);
        held = λ n k e. absurd (none≢some e);
        few = omega arith;
        unlisted = λ h. refl;
        listed = λ h. absurd (omega arith);
      }

  -- the furthest is behind the last store where the next is
  pub under : {r : Running} → Holds f words out list r → r.state.next < steps_of (length f) → r.high < steps_of (length f)
  under {r} o h =
      ⊎_elim (λ a. a) (λ a. let b : steps_of (length f) ≤ r.state.next = o.done a in absurd (omega arith)) (lt_or_le r.high (steps_of (length f)))

  -- a step that makes a store again
  holds-again : {r : Running} → Holds f words out list r → r.state.next < r.high → r.high < steps_of (length f)
      → Holds f words out list (onward f words r)
  unfolding listed
  holds-again {r} o a b =
      let m : max r.high (r.state.next + 1) ≡ r.high = omega arith in
      let l : if_eq (r.state.next + 1) (steps_of (length f)) (blit 0 words r.list) r.list ≡ r.list = sym (eq_no _ _ _ _ (λ e. omega arith) refl) in
      record {
        file = rw (m, o.file) (again f out r.state.next r.high a b);
        reached = omega arith;
        most = rw m o.most;
        done = λ h. absurd (omega arith);
        held = rw m o.held;
        few = o.few;
        unlisted = λ h. l ∙ o.unlisted b;
        listed = λ h. absurd (omega arith);
      }

  -- a step that makes the next store for the first time
  holds-onward : {r : Running} → Holds f words out list r → r.state.next ≡ r.high → r.high < steps_of (length f)
      → Holds f words out list (onward f words r)
  unfolding listed stored_to
  holds-onward {r} o a b =
      let m : max r.high (r.state.next + 1) ≡ suc r.high = omega arith in
      record {
        file = rw (m, a, o.file) refl;
        reached = omega arith;
        most = omega arith;
        done = λ h. omega arith;
        held = λ n k e. let g = o.held n k e in (omega arith, g.1);
        few = o.few;
        unlisted = λ h. sym (eq_no _ _ _ _ (λ e. omega arith) refl) ∙ o.unlisted b;
        listed = λ h. sym (eq_yes _ _ _ _ (omega arith) refl) ∙ ap (blit 0 words) (o.unlisted b);
      }

  pub holds-step : {r : Running} → Holds f words out list r → Holds f words out list (does f words step r)
  unfolding does
  holds-step {r} o = ⊎_elim going (λ h. subst (Holds f words out list) (lt_no _ _ _ _ h refl) o) (lt_or_le r.state.next (steps_of (length f)))
    where
      going : r.state.next < steps_of (length f)
          → Holds f words out list (if_lt r.state.next (steps_of (length f)) (onward f words r) r)
      going h =
          let b : r.high < steps_of (length f) = under o h in
          let c : r.state.next ≤ r.high = o.reached in
          subst (Holds f words out list) (lt_yes _ _ _ _ h refl)
          (⊎_elim (λ a. holds-again o a b) (λ a. holds-onward o (omega arith) b) (lt_or_le r.state.next r.high))

  -- a position named, where that is accepted
  holds_named : {r : Running} (n : ℕ) → Holds f words out list r → r.state.next < steps_of (length f)
      → length (given n r.state.next r.state.held) ≤ 4
      → Holds f words out list (moved r (ok (record { next = r.state.next; held = given n r.state.next r.state.held })))
  holds_named {r} n o a b =
      record {
        file = o.file;
        reached = o.reached;
        most = o.most;
        done = o.done;
        held = λ m k e.
            ⊎_elim
            (λ q.
            let j : r.state.next ≡ k = some_same (sym (sought-given n r.state.next r.state.held) ∙ ap (λ x. sought x (given n r.state.next r.state.held)) q ∙ e) in
            let c : r.state.next ≤ r.high = o.reached in
            (omega arith, omega arith))
            (λ q. o.held m k (sym (sought-other m n r.state.next r.state.held q) ∙ e))
            (eq_or_ne n m);
        few = b;
        unlisted = o.unlisted;
        listed = o.listed;
      }

  pub holds_name : {r : Running} (n : ℕ) → Holds f words out list r → Holds f words out list (does f words (name n) r)
  unfolding does naming
  holds_name {r} n o =
      ⊎_elim
      (λ a.
      ⊎_elim (λ b. subst (λ v. Holds f words out list (moved r v)) (le_no _ _ _ _ a (lt_yes _ _ _ _ b refl)) o)
      (λ b. subst (λ v. Holds f words out list (moved r v)) (le_no _ _ _ _ a (lt_no _ _ _ _ b refl)) (holds_named n o a b))
      (lt_or_le 4 (length (given n r.state.next r.state.held))))
      (λ a. subst (λ v. Holds f words out list (moved r v)) (le_yes _ _ _ _ a refl) o)
      (lt_or_le r.state.next (steps_of (length f)))

  -- a position recalled
  holds-returned : {r : Running} (k : ℕ) → Holds f words out list r → r.state.next < steps_of (length f) → k ≤ r.high → k < steps_of (length f)
      → Holds f words out list (moved r (ok (record { next = k; held = r.state.held })))
  holds-returned {r} k o a b c =
      let u : r.high < steps_of (length f) = under o a in
      record {
        file = o.file;
        reached = b;
        most = o.most;
        done = λ h. absurd (omega arith);
        held = o.held;
        few = o.few;
        unlisted = o.unlisted;
        listed = o.listed;
      }

  pub holds_recall : {r : Running} (n : ℕ) → Holds f words out list r → Holds f words out list (does f words (recall n) r)
  unfolding does recalling
  holds_recall {r} n o =
      ⊎_elim (λ a. subst (λ v. Holds f words out list (moved r v)) (le_no _ _ _ _ a refl) (found a (sought n r.state.held) refl))
      (λ a. subst (λ v. Holds f words out list (moved r v)) (le_yes _ _ _ _ a refl) o) (lt_or_le r.state.next (steps_of (length f)))
    where
      found : r.state.next < steps_of (length f) → (w : Option ℕ) → sought n r.state.held ≡ w
          → Holds f words out list (moved r (returned r.state w))
      found a none e = o
      found a (some k) e = let g = o.held n k e in holds-returned k o a g.0 g.1

  holds-does : {r : Running} (o : Op) → Holds f words out list r → Holds f words out list (does f words o r)
  holds-does step h = holds-step h
  holds-does (name n) h = holds_name n h
  holds-does (recall n) h = holds_recall n h

  holds-run : {r : Running} (os : List Op) → Holds f words out list r → Holds f words out list (run f words os r)
  unfolding run
  holds-run [] h = h
  holds-run {r = r} (o ∷ os) h = holds-run {r = does f words o r} os (holds-does o h)

-- ---- after any calls since the beginning

module _ (f words out list : List ℕ) (os : List Op) where
  pub run_holds : Holds f words out list (ran f words out list os)
  run_holds = holds-run f words out list os (holds-begun f words out list)

  -- the file holds the stores up to the furthest position reached
  pub run-file : (ran f words out list os).file ≡ stored_to f (ran f words out list os).high out
  run-file = run_holds.file

  -- finished, file and list are those made in one go
  pub run_finished : 8 ≤ length f → steps_of (length f) ≤ (ran f words out list os).state.next
      → ((ran f words out list os).file ≡ blit 0 f out) × ((ran f words out list os).list ≡ blit 0 words list)
  run_finished h g =
      let o = run_holds in
      let e : (ran f words out list os).high ≡ steps_of (length f) = omega (arith, o.reached, o.most) in
      (o.file ∙ ap (λ k. stored_to f k out) e ∙ whole f out h, o.listed (omega arith))

  -- "A cut after any store but the last": its first eight bytes are zero, and the list is as it was
  pub run-cut : 8 ≤ length out → (ran f words out list os).state.next < steps_of (length f) → 1 ≤ (ran f words out list os).high
      → (take 8 (ran f words out list os).file ≡ replicate 8 0) × ((ran f words out list os).list ≡ list)
  run-cut h g k =
      let o = run_holds in
      let u : (ran f words out list os).high < steps_of (length f) = under f words out list o g in
      (ap (take 8) o.file ∙ first_eight f out _ k u h, o.unlisted u)

  -- "gets its final length beforehand": it keeps it
  pub run_length : length (ran f words out list os).file ≡ length out
  run_length = ap length run-file ∙ length-stored_to f (ran f words out list os).high out

-- ---- one call

module _ (f words : List ℕ) (r : Running) where
  -- a step makes one store, the next
  pub step_stores : r.state.next < steps_of (length f) → does f words step r ≡ onward f words r
  unfolding does
  step_stores h = sym (lt_yes _ _ _ _ h refl)

  -- "a further one stores nothing", and changes nothing
  pub step_further : steps_of (length f) ≤ r.state.next → does f words step r ≡ r
  unfolding does
  step_further h = sym (lt_no _ _ _ _ h refl)

  -- no call that names or recalls stores, writes the list or reaches further
  moved_keeps : (v : Checked State) → ((moved r v).file ≡ r.file) × ((moved r v).list ≡ r.list) × ((moved r v).high ≡ r.high)
  moved_keeps (ok s) = (refl, refl, refl)
  moved_keeps (refused n p) = (refl, refl, refl)

  pub name_keeps : (n : ℕ) → ((does f words (name n) r).file ≡ r.file) × ((does f words (name n) r).list ≡ r.list) × ((does f words (name n) r).high ≡ r.high)
  unfolding does
  name_keeps n = moved_keeps (naming (steps_of (length f)) n r.state)

  pub recall_keeps : (n : ℕ)
      → ((does f words (recall n) r).file ≡ r.file) × ((does f words (recall n) r).list ≡ r.list) × ((does f words (recall n) r).high ≡ r.high)
  unfolding does
  recall_keeps n = moved_keeps (recalling (steps_of (length f)) n r.state)

  -- no name is freed, and none moves but the one that is given
  pub step-held : (does f words step r).state.held ≡ r.state.held
  step-held =
      ⊎_elim (λ h. rw (step_stores h) refl) (λ h. rw (step_further h) refl) (lt_or_le r.state.next (steps_of (length f)))

  pub recall_held : (n : ℕ) → (does f words (recall n) r).state.held ≡ r.state.held
  unfolding does recalling
  recall_held n =
      ⊎_elim (λ a. ap (λ v. (moved r v).state.held) (sym (le_no _ _ _ _ a refl)) ∙ found (sought n r.state.held))
      (λ a. ap (λ v. (moved r v).state.held) (sym (le_yes _ _ _ _ a refl))) (lt_or_le r.state.next (steps_of (length f)))
    where
      found : (w : Option ℕ) → (moved r (returned r.state w)).state.held ≡ r.state.held
      found none = refl
      found (some k) = refl

  pub name_held : (m n : ℕ) → (n ≡ m → ⊥) → sought m (does f words (name n) r).state.held ≡ sought m r.state.held
  unfolding does naming
  name_held m n d =
      ⊎_elim
      (λ a.
      ⊎_elim (λ b. ap (λ v. sought m (moved r v).state.held) (sym (le_no _ _ _ _ a (lt_yes _ _ _ _ b refl))))
      (λ b.
      ap (λ v. sought m (moved r v).state.held) (sym (le_no _ _ _ _ a (lt_no _ _ _ _ b refl)))
      ∙ sought-other m n r.state.next r.state.held d)
      (lt_or_le 4 (length (given n r.state.next r.state.held))))
      (λ a. ap (λ v. sought m (moved r v).state.held) (sym (le_yes _ _ _ _ a refl)))
      (lt_or_le r.state.next (steps_of (length f)))

  -- the furthest never goes back
  step_grows : r.high ≤ (does f words step r).high
  step_grows =
      ⊎_elim (λ h. rw (step_stores h) (omega arith)) (λ h. rw (step_further h) (omega arith)) (lt_or_le r.state.next (steps_of (length f)))

  does_grows : (o : Op) → r.high ≤ (does f words o r).high
  does_grows step = step_grows
  does_grows (name n) = omega (arith, (name_keeps n).2)
  does_grows (recall n) = omega (arith, (recall_keeps n).2)

-- ---- steps

pub run_grows : (f words : List ℕ) (os : List Op) (r : Running) → r.high ≤ (run f words os r).high
unfolding run
run_grows f words [] r = omega arith
run_grows f words (o ∷ os) r = omega (arith, does_grows f words r o, run_grows f words os (does f words o r))

pub run-append : (f words : List ℕ) (os bs : List Op) (r : Running) → run f words (os ++ bs) r ≡ run f words bs (run f words os r)
unfolding run
run-append f words [] bs r = refl
run-append f words (o ∷ os) bs r = run-append f words os bs (does f words o r)

-- once a step was made, a store was
pub step_reaches : (f words out list : List ℕ) (os bs : List Op) → 1 ≤ (ran f words out list (os ++ step ∷ bs)).high
unfolding run
step_reaches f words out list os bs =
    let q : Running = ran f words out list os in
    let o : Holds f words out list q = run_holds f words out list os in
    let g : (does f words step q).high ≤ (run f words bs (does f words step q)).high = run_grows f words bs (does f words step q) in
    let a : 1 ≤ (does f words step q).high =
    ⊎_elim (λ h. rw (step_stores f words q h) (omega arith)) (λ h. rw (step_further f words q h) (late q o h))
    (lt_or_le q.state.next (steps_of (length f))) in
    rw (run-append f words os (step ∷ bs) (begun out list)) (omega arith)
  where
    late : (q : Running) → Holds f words out list q → steps_of (length f) ≤ q.state.next → 1 ≤ q.high
    late q o h = omega (arith, o.reached, steps_some (length f))

-- "Without returns the number of steps is known before the first": so many steps finish, and fewer don't
steps_from : (f words : List ℕ) (n : ℕ) (r : Running) → r.state.next ≡ r.high → r.high ≤ steps_of (length f)
    → ((run f words (replicate n step) r).state.next ≡ min (r.high + n) (steps_of (length f)))
    × ((run f words (replicate n step) r).high ≡ min (r.high + n) (steps_of (length f)))
unfolding run
steps_from f words zero r e h = (omega arith, omega arith)
steps_from f words (suc n) r e h =
    let q : Running = does f words step r in
    ⊎_elim
    (λ a.
    let s = step_stores f words r a in
    let m : q.high ≡ r.high + 1 = rw s (omega arith) in
    let k : q.state.next ≡ r.high + 1 = rw s (omega arith) in
    let g = steps_from f words n q (omega arith) (omega arith) in
    (g.0 ∙ omega arith, g.1 ∙ omega arith))
    (λ a.
    let s = step_further f words r a in
    let m : q.high ≡ r.high = rw s refl in
    let k : q.state.next ≡ r.high = rw s e in
    let g = steps_from f words n q (omega arith) (omega arith) in
    (g.0 ∙ omega arith, g.1 ∙ omega arith))
    (lt_or_le r.state.next (steps_of (length f)))

pub steps_only : (f words out list : List ℕ) (n : ℕ)
    → ((ran f words out list (replicate n step)).state.next ≡ min n (steps_of (length f)))
    × ((ran f words out list (replicate n step)).high ≡ min n (steps_of (length f)))
steps_only f words out list n =
    let g = steps_from f words n (begun out list) refl (omega arith) in
    (g.0 ∙ omega arith, g.1 ∙ omega arith)

-- and n of them have left the stores before number n
pub steps_file : (f words out list : List ℕ) (n : ℕ) → n ≤ steps_of (length f) → (ran f words out list (replicate n step)).file ≡ stored_to f n out
steps_file f words out list n h =
    let e : (ran f words out list (replicate n step)).high ≡ n = (steps_only f words out list n).1 ∙ omega arith in
    run-file f words out list (replicate n step) ∙ ap (λ k. stored_to f k out) e

-- from wherever it stands, as many steps as are left finish it
steps_on : (f words : List ℕ) (n : ℕ) (r : Running) → r.state.next ≤ steps_of (length f)
    → (run f words (replicate n step) r).state.next ≡ min (r.state.next + n) (steps_of (length f))
unfolding run
steps_on f words zero r h = omega arith
steps_on f words (suc n) r h =
    let q : Running = does f words step r in
    ⊎_elim
    (λ a. let k : q.state.next ≡ r.state.next + 1 = rw (step_stores f words r a) refl in steps_on f words n q (omega arith) ∙ omega arith)
    (λ a. let k : q.state.next ≡ r.state.next = rw (step_further f words r a) refl in steps_on f words n q (omega arith) ∙ omega arith)
    (lt_or_le r.state.next (steps_of (length f)))

-- "Going on from one gives the same final file"
pub goes_on_lem : (f words out list : List ℕ) (os : List Op) (n : ℕ) → 8 ≤ length f → steps_of (length f) ≤ (ran f words out list os).state.next + n
    → ((ran f words out list (os ++ replicate n step)).file ≡ blit 0 f out) × ((ran f words out list (os ++ replicate n step)).list ≡ blit 0 words list)
goes_on_lem f words out list os n h g =
    let o = run_holds f words out list os in
    let e : (ran f words out list (os ++ replicate n step)).state.next ≡ min ((ran f words out list os).state.next + n) (steps_of (length f)) =
    ap (λ r. r.state.next) (run-append f words os (replicate n step) (begun out list))
    ∙ steps_on f words n (ran f words out list os) (omega (arith, o.reached, o.most)) in
    run_finished f words out list (os ++ replicate n step) h (omega arith)
