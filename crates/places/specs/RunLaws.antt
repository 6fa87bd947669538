-- The run of one kind that fragments begin with is the first of their runs; fragments without bytes have no records.
use Prim.Native.Nat.{ℕ, ◌+◌, ◌%◌, ◌-◌, ◌≤◌, ◌<◌}
use Rattle.std.specs.Prelude.{Bool, true, false, not, ◌≡◌, ◌⊎◌, length, get_or}
use Rattle.std.specs.Bool.{beq}
use mathlib.Core.List.{List, [], ◌∷◌, ◌++◌, append_assoc}
use Rattle.std.proofs.Math.Path.{refl, sym, ap}
use Rattle.std.proofs.Common.{◌∙◌, subst, inl, inr, eq-zero-or-pos}
use Rattle.std.proofs.Math.Logic.{⊎_elim}
use Rattle.std.proofs.Math.Nat.{zero-div, zero-mod}
use native.Mathlib.Omega.{arith}
use Rattle.base.specs.Choice.{pick}
use Rattle.base.specs.ChoiceLaws.{lt_no, eq_yes, eq_no, eq_first}
use Rattle.base.specs.Blit.{part}
use Rattle.base.specs.Checked.{and_then, Verdict, fine}
use Rattle.base.specs.CheckedLaws.{refused≢ok, then_fine}
use Rattle.mdf.specs.Chain.{Kind, dt, dv, Fragment}
use Rattle.mdf.specs.Records.{most64, ranges_in, joined, is_dv, any_dv, record_size, Run, in_front, runs, size_of, run_whole, runs_whole, pieces, without_ids, run_records, sorted_records}
use Rattle.work_words.specs.Words.{kind_of}
use Rattle.payload_laws.specs.Answers.{eq_cases, false≢true}
use Rattle.records.specs.Straddle.{kind_if}
use Rattle.records.specs.Ahead.{fragment_at, fragments_from}
use Rattle.records.specs.FragmentLaws.{from_more, from-none, ranges_head, ranges_tail, kind_if_lem}
use Rattle.places.specs.Run.{if_kind, with_bytes, of_kind, past_kind, Begins, never, first, PassedBy}

abbrev run : Kind → List Fragment → Run
run k fs = record { kind = k; fragments = fs }

-- the same fragment, of a kind
abbrev like : Fragment → Kind → Fragment
like f k = record { offset = f.offset; size = f.size; kind = k }

-- ---- the first run
runs_cons : (f : Fragment) (fs : List Fragment) → runs (f ∷ fs) ≡ run f.kind (f ∷ of_kind f.kind fs) ∷ runs (past_kind f.kind fs)
unfolding runs of_kind past_kind in_front
runs_cons f [] = refl
runs_cons f (h ∷ fs) = ap (in_front f) (runs_cons h fs) ∙ go h.kind f.kind refl refl (runs_cons h fs)
  where
    go : (j k : Kind) → h.kind ≡ j → f.kind ≡ k → runs (h ∷ fs) ≡ run h.kind (h ∷ of_kind h.kind fs) ∷ runs (past_kind h.kind fs)
        → in_front f (run h.kind (h ∷ of_kind h.kind fs) ∷ runs (past_kind h.kind fs))
        ≡ run f.kind (f ∷ of_kind f.kind (h ∷ fs)) ∷ runs (past_kind f.kind (h ∷ fs))
    go dt dt p q ih = rw (p, q) (ap (λ (k : Kind). run dt (like f dt ∷ like h dt ∷ of_kind k fs) ∷ runs (past_kind k fs)) (sym q))
    go dt dv p q ih = rw (p, q) (ap (λ (rs : List Run). run dv (like f dv ∷ []) ∷ rs) (sym (rw p at ih)))
    go dv dt p q ih = rw (p, q) (ap (λ (rs : List Run). run dt (like f dt ∷ []) ∷ rs) (sym (rw p at ih)))
    go dv dv p q ih = rw (p, q) (ap (λ (k : Kind). run dv (like f dv ∷ like h dv ∷ of_kind k fs) ∷ runs (past_kind k fs)) (sym q))

-- a kind is the same as itself
if_same : {A : Type 0} (k : Kind) (x y : A) → if_kind k k x y ≡ x
if_same dt x y = refl
if_same dv x y = refl

pub of-first : (f : Fragment) (fs : List Fragment) → of_kind f.kind (f ∷ fs) ≡ f ∷ of_kind f.kind fs
unfolding of_kind
of-first f fs = if_same f.kind (f ∷ of_kind f.kind fs) []

past_first : (f : Fragment) (fs : List Fragment) → past_kind f.kind (f ∷ fs) ≡ past_kind f.kind fs
unfolding past_kind
past_first f fs = if_same f.kind (past_kind f.kind fs) (f ∷ fs)

runs-first : (f : Fragment) (fs : List Fragment) → runs (f ∷ fs) ≡ run f.kind (of_kind f.kind (f ∷ fs)) ∷ runs (past_kind f.kind (f ∷ fs))
runs-first f fs = runs_cons f fs ∙ rw (of-first f fs, past_first f fs)

-- ---- without bytes there are no records
no_records_lem : (s : List ℕ) (d g : ℕ) (k : Kind) (fs : List Fragment) → size_of fs ≡ 0 → run_records s d g (run k fs) ≡ []
unfolding run_records pieces without_ids
no_records_lem s d g k fs e = rw (e, zero-div (record_size s d g k))

abbrev First : List ℕ → ℕ → ℕ → List Fragment → Kind → Type 0
First s d g fs k = sorted_records s d g (runs fs) ≡ run_records s d g (run k (of_kind k fs)) ++ sorted_records s d g (runs (past_kind k fs))

-- the first run's records, then those past it
pub records_first : (s : List ℕ) (d g : ℕ) {k : Kind} {fs : List Fragment} → Begins k fs
    → sorted_records s d g (runs fs) ≡ run_records s d g (run k (of_kind k fs)) ++ sorted_records s d g (runs (past_kind k fs))
unfolding sorted_records runs of_kind past_kind size_of
records_first s d g {k} (never e) = rw (no_records_lem s d g k [] refl)
records_first s d g (first {f} {fs} e) = subst (First s d g (f ∷ fs)) e (ap (sorted_records s d g) (runs-first f fs))

-- ---- fragment by fragment
-- the next fragment is of the kind, or it is past the run
pub of-past : (k : Kind) (f : Fragment) (fs : List Fragment)
    → ((of_kind k (f ∷ fs) ≡ f ∷ of_kind k fs) × (past_kind k (f ∷ fs) ≡ past_kind k fs)) ⊎ ((of_kind k (f ∷ fs) ≡ []) × (past_kind k (f ∷ fs) ≡ f ∷ fs))
unfolding of_kind past_kind
of-past k f fs = go f.kind k
  where
    Both : Kind → Kind → Type 0
    Both j k = ((if_kind j k (f ∷ of_kind k fs) [] ≡ f ∷ of_kind k fs) × (if_kind j k (past_kind k fs) (f ∷ fs) ≡ past_kind k fs))
        ⊎ ((if_kind j k (f ∷ of_kind k fs) [] ≡ []) × (if_kind j k (past_kind k fs) (f ∷ fs) ≡ f ∷ fs))

    go : (j k : Kind) → Both j k
    go dt dt = inl (refl, refl)
    go dt dv = inr (refl, refl)
    go dv dt = inr (refl, refl)
    go dv dv = inl (refl, refl)

pub joined-first : (s : List ℕ) (k : Kind) (fs : List Fragment) → joined s fs ≡ joined s (of_kind k fs) ++ joined s (past_kind k fs)
unfolding joined of_kind past_kind
joined-first s k [] = refl
joined-first s k (f ∷ fs) = ⊎_elim
    (λ q. let p : List ℕ = part f.offset f.size s in
    ap (λ (l : List ℕ). p ++ l) (joined-first s k fs) ∙ sym (append_assoc p (joined s (of_kind k fs)) (joined s (past_kind k fs)))
    ∙ sym (ap (λ (l : List Fragment). joined s l ++ joined s (past_kind k (f ∷ fs))) q.0 ∙ ap (λ (l : List Fragment). joined s (f ∷ of_kind k fs) ++ joined s l) q.1))
    (λ q. sym (ap (λ (l : List Fragment). joined s l ++ joined s (past_kind k (f ∷ fs))) q.0 ∙ ap (joined s) q.1))
    (of-past k f fs)

pub size-first : (k : Kind) (fs : List Fragment) → size_of fs ≡ size_of (of_kind k fs) + size_of (past_kind k fs)
unfolding size_of of_kind past_kind
size-first k [] = refl
size-first k (f ∷ fs) = ⊎_elim
    (λ q. let a = ap size_of q.0 in let b = ap size_of q.1 in let c = size-first k fs in omega arith)
    (λ q. let a = ap size_of q.0 in let b = ap size_of q.1 in omega arith)
    (of-past k f fs)

ranges_cons : (s : List ℕ) (f : Fragment) (fs : List Fragment) → f.offset + f.size ≤ length s → ranges_in s fs ≡ fine → ranges_in s (f ∷ fs) ≡ fine
unfolding ranges_in
ranges_cons s f fs h e = sym (lt_no _ _ _ _ h refl) ∙ e

pub ranges_first : (s : List ℕ) (k : Kind) (fs : List Fragment) → ranges_in s fs ≡ fine
    → (ranges_in s (of_kind k fs) ≡ fine) × (ranges_in s (past_kind k fs) ≡ fine)
unfolding ranges_in of_kind past_kind
ranges_first s k [] e = (refl, refl)
ranges_first s k (f ∷ fs) e = ⊎_elim
    (λ q. let i = ranges_first s k fs (ranges_tail s f fs e) in
    (ap (ranges_in s) q.0 ∙ ranges_cons s f (of_kind k fs) (ranges_head s f fs e) i.0, ap (ranges_in s) q.1 ∙ i.1))
    (λ q. (ap (ranges_in s) q.0, ap (ranges_in s) q.1 ∙ e))
    (of-past k f fs)

-- a DV in front, or a later one
pub any_here : (f : Fragment) (fs : List Fragment) → f.kind ≡ dv → any_dv (f ∷ fs) ≡ true
unfolding any_dv
any_here f fs e = rw e

pub any_later : (f : Fragment) (fs : List Fragment) → any_dv fs ≡ true → any_dv (f ∷ fs) ≡ true
unfolding any_dv
any_later f fs e = go f.kind
  where
    go : (k : Kind) → pick (is_dv k) true (any_dv fs) ≡ true
    go dt = e
    go dv = refl

pub any_first : (k : Kind) (fs : List Fragment) → any_dv (past_kind k fs) ≡ true → any_dv fs ≡ true
unfolding any_dv past_kind
any_first k [] e = e
any_first k (f ∷ fs) e = ⊎_elim
    (λ q. any_later f fs (any_first k fs (sym (ap any_dv q.1) ∙ e)))
    (λ q. sym (ap any_dv q.1) ∙ e)
    (of-past k f fs)

-- ---- whole records
run_whole_lem : (n : ℕ) (fs : List Fragment) → run_whole n fs ≡ fine → 0 < n → size_of fs % n ≡ 0
unfolding run_whole
run_whole_lem n fs e h = (eq_first _ _ _ _ (eq_no n 0 _ _ (λ z. omega arith) refl ∙ e) refused≢ok).0

whole_run : (n : ℕ) (fs : List Fragment) → (0 < n → size_of fs % n ≡ 0) → run_whole n fs ≡ fine
unfolding run_whole
whole_run n fs h = ⊎_elim
    (λ z. sym (eq_yes _ _ _ _ z refl))
    (λ z. sym (eq_no _ _ _ _ (λ e. omega arith) (eq_yes _ _ _ _ (h z) refl)))
    (eq-zero-or-pos n)

abbrev Whole : List ℕ → ℕ → ℕ → List Fragment → Kind → Type 0
Whole s d g fs k = (0 < record_size s d g k → size_of (of_kind k fs) % record_size s d g k ≡ 0) × (runs_whole s d g (runs (past_kind k fs)) ≡ fine)

pub whole_first : (s : List ℕ) (d g : ℕ) {k : Kind} {fs : List Fragment} → Begins k fs → runs_whole s d g (runs fs) ≡ fine → Whole s d g fs k
unfolding runs_whole runs of_kind past_kind size_of
whole_first s d g {k} (never q) e = (λ _. zero-mod (record_size s d g k), refl)
whole_first s d g (first {f} {fs} q) e =
    let m = ap (runs_whole s d g) (sym (runs-first f fs)) ∙ e in
    let b = then_fine (run_whole (record_size s d g f.kind) (of_kind f.kind (f ∷ fs))) (λ _. runs_whole s d g (runs (past_kind f.kind (f ∷ fs)))) m in
    subst (Whole s d g (f ∷ fs)) q (run_whole_lem _ _ b.0, b.1)

whole_back : (s : List ℕ) (d g : ℕ) {k : Kind} {fs : List Fragment} → Begins k fs → Whole s d g fs k → runs_whole s d g (runs fs) ≡ fine
unfolding runs_whole runs
whole_back s d g (never q) w = refl
whole_back s d g (first {f} {fs} q) w =
    let v = subst (Whole s d g (f ∷ fs)) (sym q) w in
    let n : ℕ = record_size s d g f.kind in
    ap (runs_whole s d g) (runs-first f fs) ∙ ap (λ (x : Verdict). and_then x (λ _. runs_whole s d g (runs (past_kind f.kind (f ∷ fs))))) (whole_run n (of_kind f.kind (f ∷ fs)) v.0)
    ∙ v.1

-- ---- a fragment without bytes in front
no_size : size_of [] ≡ 0
unfolding size_of
no_size = refl

-- fragments begin with the kind, or the first is past it
begins_or : (k : Kind) (fs : List Fragment) → Begins k fs ⊎ ((of_kind k fs ≡ []) × (past_kind k fs ≡ fs))
unfolding of_kind past_kind
begins_or k [] = inr (refl, refl)
begins_or k (f ∷ fs) = go f.kind k refl
  where
    go : (j k : Kind) → f.kind ≡ j → Begins k (f ∷ fs) ⊎ ((of_kind k (f ∷ fs) ≡ []) × (past_kind k (f ∷ fs) ≡ f ∷ fs))
    go dt dt q = inl (first q)
    go dt dv q = inr (rw q, rw q)
    go dv dt q = inr (rw q, rw q)
    go dv dv q = inl (first q)

module _ (s : List ℕ) (d g : ℕ) (f : Fragment) (fs : List Fragment) (z : f.size ≡ 0) where
  empty_joined : (hs : List Fragment) → joined s (f ∷ hs) ≡ joined s hs
  unfolding joined part
  empty_joined hs = rw z

  empty_size : (hs : List Fragment) → size_of (f ∷ hs) ≡ size_of hs
  unfolding size_of
  empty_size hs = omega arith

  empty_run : (k : Kind) (hs : List Fragment) → run_records s d g (run k (f ∷ hs)) ≡ run_records s d g (run k hs)
  unfolding run_records
  empty_run k hs = rw (empty_joined hs, empty_size hs)

  pub empty_records : sorted_records s d g (runs (f ∷ fs)) ≡ sorted_records s d g (runs fs)
  unfolding sorted_records
  empty_records =
      let k : Kind = f.kind in
      let a : sorted_records s d g (runs (f ∷ fs)) ≡ run_records s d g (run k (of_kind k fs)) ++ sorted_records s d g (runs (past_kind k fs)) =
      ap (sorted_records s d g) (runs_cons f fs) ∙ ap (λ (x : List (List ℕ)). x ++ sorted_records s d g (runs (past_kind k fs))) (empty_run k (of_kind k fs)) in
      ⊎_elim
      (λ b. a ∙ sym (records_first s d g b))
      (λ q. a ∙ rw (q.0, q.1, no_records_lem s d g k [] no_size))
      (begins_or k fs)

  pub empty_whole : runs_whole s d g (runs (f ∷ fs)) ≡ fine → runs_whole s d g (runs fs) ≡ fine
  unfolding runs_whole
  empty_whole e =
      let k : Kind = f.kind in
      let n : ℕ = record_size s d g k in
      let m = ap (runs_whole s d g) (sym (runs_cons f fs)) ∙ e in
      let b = then_fine (run_whole n (f ∷ of_kind k fs)) (λ _. runs_whole s d g (runs (past_kind k fs))) m in
      let w : Whole s d g fs k = (λ h. rw (empty_size (of_kind k fs)) at (run_whole_lem n (f ∷ of_kind k fs) b.0 h), b.1) in
      ⊎_elim
      (λ c. whole_back s d g c w)
      (λ q. ap (λ (x : List Fragment). runs_whole s d g (runs x)) (sym q.1) ∙ b.1)
      (begins_or k fs)

-- ---- the first fragment with bytes
-- fragments begin with one that has bytes, or there are none
pub data Sized : List Fragment → Type 0 where
  none : Sized []
  some : {f : Fragment} {fs : List Fragment} → 0 < f.size → Sized (f ∷ fs)

with_cases : (f : Fragment) (fs : List Fragment)
    → ((f.size ≡ 0) × (with_bytes fs ≡ with_bytes (f ∷ fs))) ⊎ ((f.size ≡ 0 → ⊥) × (f ∷ fs ≡ with_bytes (f ∷ fs)))
unfolding with_bytes
with_cases f fs = eq_cases f.size 0 (with_bytes fs) (f ∷ fs) refl

pub with_sized : (fs : List Fragment) → Sized (with_bytes fs)
unfolding with_bytes
with_sized [] = none
with_sized (f ∷ fs) = ⊎_elim
    (λ q. subst Sized q.1 (with_sized fs))
    (λ q. subst Sized q.1 (some (let h = q.0 in omega arith)))
    (with_cases f fs)

module _ (s : List ℕ) (d g : ℕ) where
  pub with_joined : (fs : List Fragment) → joined s (with_bytes fs) ≡ joined s fs
  unfolding with_bytes
  with_joined [] = refl
  with_joined (f ∷ fs) = ⊎_elim
      (λ q. ap (joined s) (sym q.1) ∙ with_joined fs ∙ sym (empty_joined s d g f fs q.0 fs))
      (λ q. ap (joined s) (sym q.1))
      (with_cases f fs)

  pub with_records : (fs : List Fragment) → sorted_records s d g (runs (with_bytes fs)) ≡ sorted_records s d g (runs fs)
  unfolding with_bytes
  with_records [] = refl
  with_records (f ∷ fs) = ⊎_elim
      (λ q. ap (λ (x : List Fragment). sorted_records s d g (runs x)) (sym q.1) ∙ with_records fs ∙ sym (empty_records s d g f fs q.0))
      (λ q. ap (λ (x : List Fragment). sorted_records s d g (runs x)) (sym q.1))
      (with_cases f fs)

  pub with_whole : (fs : List Fragment) → runs_whole s d g (runs fs) ≡ fine → runs_whole s d g (runs (with_bytes fs)) ≡ fine
  unfolding with_bytes
  with_whole [] e = e
  with_whole (f ∷ fs) e = ⊎_elim
      (λ q. ap (λ (x : List Fragment). runs_whole s d g (runs x)) (sym q.1) ∙ with_whole fs (empty_whole s d g f fs q.0 e))
      (λ q. ap (λ (x : List Fragment). runs_whole s d g (runs x)) (sym q.1) ∙ e)
      (with_cases f fs)

  pub with_ranges : (fs : List Fragment) → ranges_in s fs ≡ fine → ranges_in s (with_bytes fs) ≡ fine
  unfolding with_bytes
  with_ranges [] e = e
  with_ranges (f ∷ fs) e = ⊎_elim
      (λ q. ap (ranges_in s) (sym q.1) ∙ with_ranges fs (ranges_tail s f fs e))
      (λ q. ap (ranges_in s) (sym q.1) ∙ e)
      (with_cases f fs)

pub with_any : (fs : List Fragment) → any_dv (with_bytes fs) ≡ true → any_dv fs ≡ true
unfolding with_bytes
with_any [] e = e
with_any (f ∷ fs) e = ⊎_elim
    (λ q. any_later f fs (with_any fs (ap any_dv q.1 ∙ e)))
    (λ q. ap any_dv q.1 ∙ e)
    (with_cases f fs)

-- ---- by the words
pub begins-none : (ws : List ℕ) (i : ℕ) → length ws < i + 3 → Begins dt (fragments_from ws i)
begins-none ws i h = subst (Begins dt) (sym (from-none ws i h)) (never refl)

pub begins-some : (ws : List ℕ) (i : ℕ) {b : Bool} → i + 3 ≤ length ws → b ≡ is_dv (kind_of (get_or ws (i + 2) 0)) → Begins (kind_if b) (fragments_from ws i)
begins-some ws i {b} h e = subst (Begins (kind_if b)) (sym (from_more ws i h)) (first (kind_if_lem _ e))

-- fragments without bytes are passed
module _ (ws : List ℕ) (at i : ℕ) (inv : with_bytes (fragments_from ws i) ≡ with_bytes (fragments_from ws at)) where
  pub some-none : length ws < i + 3 → fragments_from ws i ≡ with_bytes (fragments_from ws at)
  unfolding with_bytes
  some-none h = from-none ws i h ∙ sym (ap with_bytes (from-none ws i h)) ∙ inv

  pub some-here : {n : ℕ} → i + 3 ≤ length ws → n ≡ get_or ws (i + 1) 0 → (n ≡ 0 → ⊥) → fragments_from ws i ≡ with_bytes (fragments_from ws at)
  unfolding with_bytes
  some-here h e z =
      from_more ws i h ∙ eq_no (get_or ws (i + 1) 0) 0 (with_bytes (fragments_from ws (i + 3))) (fragment_at ws i ∷ fragments_from ws (i + 3)) (λ q. z (e ∙ q)) refl
      ∙ sym (ap with_bytes (from_more ws i h)) ∙ inv

  pub some-on : {n : ℕ} → i + 3 ≤ length ws → n ≡ get_or ws (i + 1) 0 → n ≡ 0 → with_bytes (fragments_from ws (i + 3)) ≡ with_bytes (fragments_from ws at)
  unfolding with_bytes
  some-on h e z =
      eq_yes (get_or ws (i + 1) 0) 0 (with_bytes (fragments_from ws (i + 3))) (fragment_at ws i ∷ fragments_from ws (i + 3)) (sym e ∙ z) refl
      ∙ sym (ap with_bytes (from_more ws i h)) ∙ inv

-- fragments of a kind are passed: what is left of them and what was passed are all
pub record Passing (ws : List ℕ) (k : Kind) (at i bytes : ℕ) : Type 0 where
  pub size : bytes + size_of (of_kind k (fragments_from ws i)) ≡ size_of (of_kind k (fragments_from ws at))
  pub past : past_kind k (fragments_from ws i) ≡ past_kind k (fragments_from ws at)

pub pass_begin : {ws : List ℕ} {k : Kind} {at : ℕ} → Passing ws k at at 0
pass_begin = record { size = omega arith; past = refl }

module _ {ws : List ℕ} {k : Kind} {at i bytes : ℕ} (p : Passing ws k at i bytes) where
  pub pass_end : length ws < i + 3 → PassedBy ws k at (record { at = i; bytes = bytes })
  unfolding of_kind past_kind size_of
  pass_end h =
      let e = from-none ws i h in
      record {
        bytes = λ _. let a = ap (λ (x : List Fragment). size_of (of_kind k x)) e in let b = p.size in omega arith;
        past = λ _. e ∙ sym (ap (past_kind k) e) ∙ p.past;
      }

of-same : (k : Kind) (f : Fragment) (fs : List Fragment) → f.kind ≡ k
    → (of_kind k (f ∷ fs) ≡ f ∷ of_kind k fs) × (past_kind k (f ∷ fs) ≡ past_kind k fs)
of-same k f fs e =
    subst (λ (j : Kind). (of_kind j (f ∷ fs) ≡ f ∷ of_kind j fs) × (past_kind j (f ∷ fs) ≡ past_kind j fs)) e (of-first f fs, past_first f fs)

of_other : (b c : Bool) (f : Fragment) (fs : List Fragment) → f.kind ≡ kind_if b → (b ≡ c → ⊥)
    → (of_kind (kind_if c) (f ∷ fs) ≡ []) × (past_kind (kind_if c) (f ∷ fs) ≡ f ∷ fs)
unfolding of_kind past_kind
of_other true true f fs e n = absurd (n refl)
of_other true false f fs e n = (rw e, rw e)
of_other false true f fs e n = (rw e, rw e)
of_other false false f fs e n = absurd (n refl)

-- the test of two bools
unlike : (b c : Bool) → not (beq b c) ≡ true → b ≡ c → ⊥
unlike true c e q = false≢true (rw (← q) at e)
unlike false c e q = false≢true (rw (← q) at e)

alike : (b c : Bool) → not (beq b c) ≡ false → b ≡ c
alike true true e = refl
alike true false e = absurd (false≢true (sym e))
alike false true e = absurd (false≢true (sym e))
alike false false e = refl

module _ {ws : List ℕ} (c : Bool) {at i bytes : ℕ} (p : Passing ws (kind_if c) at i bytes) (h : i + 3 ≤ length ws) {b : Bool}
    (k : b ≡ is_dv (kind_of (get_or ws (i + 2) 0))) where
  pub pass_other : not (beq b c) ≡ true → PassedBy ws (kind_if c) at (record { at = i; bytes = bytes })
  unfolding size_of
  pass_other n =
      let o = of_other b c (fragment_at ws i) (fragments_from ws (i + 3)) (kind_if_lem _ k) (unlike b c n) in
      let e = from_more ws i h in
      let x : of_kind (kind_if c) (fragments_from ws i) ≡ [] = ap (of_kind (kind_if c)) e ∙ o.0 in
      let y : past_kind (kind_if c) (fragments_from ws i) ≡ fragments_from ws i = ap (past_kind (kind_if c)) e ∙ o.1 ∙ sym e in
      record { bytes = λ _. let a = ap size_of x in let z = p.size in omega arith; past = λ _. sym y ∙ p.past }

  module _ (same : not (beq b c) ≡ false) {size : ℕ} (z : size ≡ get_or ws (i + 1) 0) where
    of-here : (of_kind (kind_if c) (fragments_from ws i) ≡ fragment_at ws i ∷ of_kind (kind_if c) (fragments_from ws (i + 3)))
        × (past_kind (kind_if c) (fragments_from ws i) ≡ past_kind (kind_if c) (fragments_from ws (i + 3)))
    of-here =
        let o = of-same (kind_if c) (fragment_at ws i) (fragments_from ws (i + 3)) (kind_if_lem _ k ∙ ap kind_if (alike b c same)) in
        let e = from_more ws i h in
        (ap (of_kind (kind_if c)) e ∙ o.0, ap (past_kind (kind_if c)) e ∙ o.1)

    here-size : size + size_of (of_kind (kind_if c) (fragments_from ws (i + 3))) ≡ size_of (of_kind (kind_if c) (fragments_from ws i))
    unfolding size_of
    here-size = let a = ap size_of of-here.0 in omega arith

    pub pass_on : Passing ws (kind_if c) at (i + 3) (bytes + size)
    pass_on = record { size = let a = here-size in let q = p.size in omega arith; past = sym of-here.1 ∙ p.past }

    -- too many bytes: not where their sum is small
    pub pass_over : most64 - bytes < size → PassedBy ws (kind_if c) at (record { at = i; bytes = bytes })
    pass_over l =
        let no : size_of (fragments_from ws at) ≤ most64 → ⊥ = λ m. let a = here-size in let q = p.size in let t = size-first (kind_if c) (fragments_from ws at) in omega arith in
        record { bytes = λ m. absurd (no m); past = λ m. absurd (no m) }
