-- Whole records in runs, fragment by fragment: the run passed so far enters only by the bytes of its last record and where that starts.
use Rattle.std.specs.Prelude.{ℕ, zero, suc, ◌+◌, ◌-◌, ◌%◌, ◌≤◌, ◌<◌, Bool, true, false, ◌≡◌, length, get_or}
use mathlib.Core.List.{List, [], ◌∷◌, ◌++◌, append_assoc}
use Rattle.std.proofs.Math.Path.{refl, sym}
use Rattle.std.proofs.Common.{ap, ◌∙◌, add-zero, zero-add, mod-lt, mod-eq_of_lt, add_assoc, eq-zero-or-pos, arith, ltb-true, ltb-false}
use Rattle.std.proofs.Math.Nat.{zero-mod, mod-le, mod-eq-sub-mod, mod-add-mod, add-mod-mod}
use Rattle.std.proofs.Math.Logic.{⊎_elim}
use Rattle.base.specs.Choice.{if_eq}
use Rattle.base.specs.ChoiceLaws.{lt_yes, lt_no, le_yes, le_no, eq_yes, eq_no}
use Rattle.base.specs.Checked.{refused, and_then, Verdict, fine}
use Rattle.records.specs.Ahead.{fragment_at, fragments_from}
use Rattle.records.specs.FragmentLaws.{lt_or_le, from_start, from_more, from-none, ranges_head, ranges_tail, kind_if_lem}
use Rattle.records.specs.Straddle.{kind_if, straddles, remainder, start_of, dv_fits}
use Rattle.mdf.specs.Group.{inval_bytes}
use Rattle.work_words.specs.Words.{kind_of, fragments_of}
use Rattle.mdf.specs.Chain.{Kind, dt, dv, Fragment}
use Rattle.mdf.specs.Records.{is_dv, place_of, ranges_in, any_dv, sorted_in, record_size, Run, in_front, runs, size_of, run_whole, runs_whole}

abbrev run : Kind → List Fragment → Run
run k fs = record { kind = k; fragments = fs }

-- fragments of one kind in front of runs
abbrev joins : Kind → Kind → List Fragment → List Fragment → List Run → List Run
joins dt dt pre fs rs = run dt (pre ++ fs) ∷ rs
joins dt dv pre fs rs = run dt pre ∷ run dv fs ∷ rs
joins dv dt pre fs rs = run dv pre ∷ run dt fs ∷ rs
joins dv dv pre fs rs = run dv (pre ++ fs) ∷ rs

unfoldable pub with_front : Kind → List Fragment → List Run → List Run
with_front k pre [] = run k pre ∷ []
with_front k pre (r ∷ rs) = joins k r.kind pre r.fragments rs

abbrev other : Kind → Kind
other dt = dv
other dv = dt

abbrev frag : ℕ → ℕ → Kind → Fragment
frag o n k = record { offset = o; size = n; kind = k }

module _ (o n : ℕ) (pre : List Fragment) where
  more-run : (k j : Kind) (fs : List Fragment) (rs : List Run)
      → with_front k pre (in_front (frag o n k) (run j fs ∷ rs)) ≡ with_front k (pre ++ (frag o n k ∷ [])) (run j fs ∷ rs)
  unfolding with_front in_front
  more-run dt dt fs rs = rw append_assoc
  more-run dt dv fs rs = refl
  more-run dv dt fs rs = refl
  more-run dv dv fs rs = rw append_assoc

  -- one more of the kind
  front-more : (k : Kind) (rs : List Run) → with_front k pre (in_front (frag o n k) rs) ≡ with_front k (pre ++ (frag o n k ∷ [])) rs
  unfolding with_front in_front
  front-more dt [] = refl
  front-more dv [] = refl
  front-more k (r ∷ rs) = more-run k r.kind r.fragments rs

  other-run : (k j : Kind) (fs : List Fragment) (rs : List Run)
      → with_front (other k) pre (in_front (frag o n k) (run j fs ∷ rs)) ≡ run (other k) pre ∷ with_front k (frag o n k ∷ []) (run j fs ∷ rs)
  unfolding with_front in_front
  other-run dt dt fs rs = refl
  other-run dt dv fs rs = refl
  other-run dv dt fs rs = refl
  other-run dv dv fs rs = refl

  -- one of the other kind
  front-other : (k : Kind) (rs : List Run)
      → with_front (other k) pre (in_front (frag o n k) rs) ≡ run (other k) pre ∷ with_front k (frag o n k ∷ []) rs
  unfolding with_front in_front
  front-other dt [] = refl
  front-other dv [] = refl
  front-other k (r ∷ rs) = other-run k r.kind r.fragments rs

-- none in front: at most a run of DT without bytes
whole_none : (n : ℕ) → fine ≡ run_whole n []
unfolding run_whole size_of
whole_none zero = eq_yes _ _ _ _ refl refl
whole_none (suc n) = eq_no _ _ _ _ (λ e. omega arith) (eq_yes _ _ _ _ (zero-mod (suc n)) refl)

none-run : (s : List ℕ) (d g : ℕ) (j : Kind) (fs : List Fragment) (rs : List Run)
    → runs_whole s d g (with_front dt [] (run j fs ∷ rs)) ≡ runs_whole s d g (run j fs ∷ rs)
unfolding with_front runs_whole
none-run s d g dt fs rs = refl
none-run s d g dv fs rs = rw (← whole_none (record_size s d g dt))

front-none : (s : List ℕ) (d g : ℕ) (rs : List Run) → runs_whole s d g (with_front dt [] rs) ≡ runs_whole s d g rs
unfolding with_front runs_whole
front-none s d g [] = rw (← whole_none (record_size s d g dt))
front-none s d g (r ∷ rs) = none-run s d g r.kind r.fragments rs

-- ---- the last record of fragments
-- fragments that end with c bytes of a record that starts at st
pub record Begun (n : ℕ) (pre : List Fragment) (c st : ℕ) : Type 0 where
  pub is : c ≡ remainder n (size_of pre)
  pub starts : 0 < c → place_of pre (size_of pre - c) ≡ st

size-more : (pre : List Fragment) (f : Fragment) → size_of (pre ++ (f ∷ [])) ≡ size_of pre + f.size
unfolding size_of
size-more [] f = add-zero f.size ∙ sym (zero-add f.size)
size-more (e ∷ pre) f = rw (size-more pre f) (sym (add_assoc e.size (size_of pre) f.size))

place_before : (pre : List Fragment) (f : Fragment) (p : ℕ) → p < size_of pre → place_of (pre ++ (f ∷ [])) p ≡ place_of pre p
unfolding place_of size_of
place_before [] f p h = absurd (omega arith)
place_before (e ∷ pre) f p h =
    ⊎_elim (λ l. sym (lt_yes _ _ _ _ l refl) ∙ lt_yes _ _ _ _ l refl)
    (λ l. sym (lt_no _ _ _ _ l refl) ∙ lt_no _ _ _ _ l (place_before pre f (p - e.size) (omega arith)))
    (lt_or_le p e.size)

place_in : (pre : List Fragment) (f : Fragment) (p : ℕ) → p < f.size → place_of (pre ++ (f ∷ [])) (size_of pre + p) ≡ f.offset + p
unfolding place_of size_of
place_in [] f p h = rw zero-add (sym (lt_yes _ _ _ _ h refl))
place_in (e ∷ pre) f p h =
    let l : e.size + size_of pre + p - e.size ≡ size_of pre + p = omega arith in
    sym (lt_no _ _ _ _ (omega arith) refl) ∙ rw l (place_in pre f p h)

-- a run passed
module _ (n : ℕ) (pre : List Fragment) (c st : ℕ) (b : Begun n pre c st) where
  pub run_whole_lem : c ≡ 0 → fine ≡ run_whole n pre
  unfolding run_whole remainder
  run_whole_lem z =
      ⊎_elim (λ e. eq_yes _ _ _ _ e refl)
      (λ l. let m : size_of pre % n ≡ 0 = eq_no _ _ _ _ (λ e. omega arith) refl ∙ sym b.is ∙ z in
      eq_no _ _ _ _ (λ e. omega arith) (eq_yes _ _ _ _ m refl))
      (eq-zero-or-pos n)

  pub run_broken : 0 < c → refused 15 st ≡ run_whole n pre
  unfolding run_whole remainder
  run_broken z =
      ⊎_elim (λ e. let m : 0 ≡ c = eq_yes _ _ _ _ e refl ∙ sym b.is in absurd (omega arith))
      (λ l. let m : size_of pre % n ≡ c = eq_no _ _ _ _ (λ e. omega arith) refl ∙ sym b.is in
      let r : refused 15 st ≡ refused 15 (place_of pre (size_of pre - size_of pre % n)) = rw (m, b.starts z) in
      eq_no _ _ _ _ (λ e. omega arith) (eq_no _ _ _ _ (λ e. omega arith) r))
      (eq-zero-or-pos n)

remainder-add : (n x z : ℕ) → remainder n (remainder n x + z) ≡ remainder n (x + z)
unfolding remainder
remainder-add n x z =
    ⊎_elim (λ e. sym (eq_yes _ _ _ _ e refl) ∙ eq_yes _ _ _ _ e refl)
    (λ l. let d : n ≡ 0 → ⊥ = λ e. omega arith in
    sym (eq_no _ _ _ _ d refl) ∙ rw (← eq_no n 0 0 (x % n) d refl) (mod-add-mod x n z ∙ eq_no _ _ _ _ d refl))
    (eq-zero-or-pos n)

-- a remainder over z began before the last z bytes
remainder-over : (n c z : ℕ) → (0 < n → c < n) → z < remainder n (c + z) → remainder n (c + z) ≡ c + z
unfolding remainder
remainder-over n c z small h =
    ⊎_elim (λ e. let m : 0 ≡ if_eq n 0 0 ((c + z) % n) = eq_yes _ _ _ _ e refl in absurd (omega arith))
    (λ l. let m : (c + z) % n ≡ if_eq n 0 0 ((c + z) % n) = eq_no _ _ _ _ (λ e. omega arith) refl in
    let b = small l in
    ⊎_elim (λ q. sym m ∙ mod-eq_of_lt q)
    (λ q. let f = mod-eq-sub-mod q in let u = mod-le (c + z - n) n in absurd (omega arith))
    (lt_or_le (c + z) n))
    (eq-zero-or-pos n)

remainder-small : (n x : ℕ) → 0 < n → remainder n x < n
unfolding remainder
remainder-small n x l = let m : x % n ≡ if_eq n 0 0 (x % n) = eq_no _ _ _ _ (λ e. omega arith) refl in let u = mod-lt x l in omega arith

remainder-le : (n x : ℕ) → remainder n x ≤ x
unfolding remainder
remainder-le n x =
    ⊎_elim (λ e. let m : 0 ≡ if_eq n 0 0 (x % n) = eq_yes _ _ _ _ e refl in omega arith)
    (λ l. let m : x % n ≡ if_eq n 0 0 (x % n) = eq_no _ _ _ _ (λ e. omega arith) refl in let u = mod-le x n in omega arith)
    (eq-zero-or-pos n)

module _ (n : ℕ) (pre : List Fragment) (c st : ℕ) (b : Begun n pre c st) (o z : ℕ) (k : Kind) (c' : ℕ) (e : c' ≡ remainder n (c + z)) where
  starts_before : z < c' → place_of (pre ++ (frag o z k ∷ [])) (size_of pre + z - c') ≡ st
  starts_before q =
      let v = b.is in
      let u = remainder-le n (size_of pre) in
      let small : 0 < n → c < n = λ l. let w = remainder-small n (size_of pre) l in omega arith in
      let m : c' ≡ c + z = e ∙ remainder-over n c z small (omega arith) in
      let p : size_of pre + z - c' ≡ size_of pre - c = omega arith in
      let low : size_of pre - c < size_of pre = omega arith in
      let some : 0 < c = omega arith in
      rw p (place_before pre (frag o z k) (size_of pre - c) low ∙ b.starts some)

  starts_in : 0 < c' → c' ≤ z → place_of (pre ++ (frag o z k ∷ [])) (size_of pre + z - c') ≡ o + (z - c')
  starts_in l q =
      let p : size_of pre + z - c' ≡ size_of pre + (z - c') = omega arith in
      let low : z - c' < z = omega arith in
      rw p (place_in pre (frag o z k) (z - c') low)

  -- a fragment more in the run: its last record starts in it, or where it started before
  pub begun_more : {st' : ℕ} → (c' ≤ z → st' ≡ o + (z - c')) → (z < c' → st' ≡ st) → Begun n (pre ++ (frag o z k ∷ [])) c' st'
  begun_more {st'} here there =
      let t : size_of (pre ++ (frag o z k ∷ [])) ≡ size_of pre + z = size-more pre (frag o z k) in
      record {
        is = rw (t, e, b.is) (remainder-add n (size_of pre) z);
        starts = λ l. rw t (⊎_elim (λ q. starts_before q ∙ sym (there q)) (λ q. starts_in l q ∙ sym (here q)) (lt_or_le z c'));
      }

pub begun-none : (n st : ℕ) → Begun n [] 0 st
unfolding size_of remainder
begun-none n st = record { is = let u = remainder-le n 0 in omega arith; starts = λ l. absurd (omega arith) }

-- ---- the loop over fragments: what is left of the check, with the run passed so far in front, gives what the whole gives
pub record Passing (s : List ℕ) (d g : ℕ) (ws : List ℕ) (i : ℕ) (k : Kind) (c st : ℕ) : Type 0 where
  pub pre : List Fragment
  pub begun : Begun (record_size s d g k) pre c st
  pub rest : runs_whole s d g (with_front k pre (runs (fragments_from ws i))) ≡ runs_whole s d g (runs (fragments_of ws))
  pub ranges : ranges_in s (fragments_from ws i) ≡ fine

pub pass_begin : {s : List ℕ} {d g : ℕ} {ws : List ℕ} (st : ℕ) → ranges_in s (fragments_of ws) ≡ fine → Passing s d g ws 0 dt 0 st
pass_begin {s} {d} {g} {ws} st r = record {
  pre = [];
  begun = begun-none _ _;
  rest = front-none s d g (runs (fragments_from ws 0)) ∙ rw (from_start ws);
  ranges = rw (from_start ws) r;
}

false≢true : false ≡ true → ⊥
false≢true e = let z : ◌≡◌ {A = ℕ} 0 1 = cc in omega arith

-- a fragment more in the run, or the first of the next run
module _ (s : List ℕ) (d g : ℕ) (ws : List ℕ) (i c st : ℕ) (h : i + 3 ≤ length ws) where
  pub pass_in : (k : Kind) → Passing s d g ws i k c st → get_or ws i 0 + get_or ws (i + 1) 0 ≤ length s
  pass_in k t = ranges_head s (fragment_at ws i) (fragments_from ws (i + 3)) (rw (from_more ws i h) at t.ranges)

  same : (k : Kind) (c' st' : ℕ) → Passing s d g ws i k c st → kind_of (get_or ws (i + 2) 0) ≡ k
      → c' ≡ remainder (record_size s d g k) (c + get_or ws (i + 1) 0)
      → (c' ≤ get_or ws (i + 1) 0 → st' ≡ get_or ws i 0 + (get_or ws (i + 1) 0 - c')) → (get_or ws (i + 1) 0 < c' → st' ≡ st)
      → Passing s d g ws (i + 3) k c' st'
  unfolding runs
  same k c' st' t q e here there =
      let f : Fragment = frag (get_or ws i 0) (get_or ws (i + 1) 0) k in
      let m : fragments_from ws i ≡ f ∷ fragments_from ws (i + 3) = rw (← q) (from_more ws i h) in
      record {
        pre = t.pre ++ (f ∷ []);
        begun = begun_more _ _ _ _ t.begun _ _ k c' e here there;
        rest = sym (ap (runs_whole s d g) (front-more _ _ t.pre k (runs (fragments_from ws (i + 3))))) ∙ (rw m at t.rest);
        ranges = ranges_tail s _ _ (rw m at t.ranges);
      }

  changed : (k : Kind) (c' st' : ℕ) → Passing s d g ws i (other k) c st → c ≡ 0 → kind_of (get_or ws (i + 2) 0) ≡ k
      → c' ≡ remainder (record_size s d g k) (c + get_or ws (i + 1) 0)
      → (c' ≤ get_or ws (i + 1) 0 → st' ≡ get_or ws i 0 + (get_or ws (i + 1) 0 - c')) → (get_or ws (i + 1) 0 < c' → st' ≡ st)
      → Passing s d g ws (i + 3) k c' st'
  unfolding runs runs_whole
  changed k c' st' t z q e here there =
      let f : Fragment = frag (get_or ws i 0) (get_or ws (i + 1) 0) k in
      let m : fragments_from ws i ≡ f ∷ fragments_from ws (i + 3) = rw (← q) (from_more ws i h) in
      let first : runs_whole s d g (with_front (other k) t.pre (in_front f (runs (fragments_from ws (i + 3))))) ≡ runs_whole s d g
      (runs (fragments_of ws)) = rw m at t.rest in
      record {
        pre = f ∷ [];
        begun = begun_more _ [] 0 st (begun-none _ _) _ _ k c' (rw z at e) here there;
        rest = rw (front-other _ _ t.pre k (runs (fragments_from ws (i + 3))), ← run_whole_lem _ _ _ _ t.begun z) at first;
        ranges = ranges_tail s _ _ (rw m at t.ranges);
      }

  apart : (k : Kind) → Passing s d g ws i (other k) c st → 0 < c → kind_of (get_or ws (i + 2) 0) ≡ k
      → refused 15 st ≡ runs_whole s d g (runs (fragments_of ws))
  unfolding runs runs_whole
  apart k t z q =
      let f : Fragment = frag (get_or ws i 0) (get_or ws (i + 1) 0) k in
      let m : fragments_from ws i ≡ f ∷ fragments_from ws (i + 3) = rw (← q) (from_more ws i h) in
      let first : runs_whole s d g (with_front (other k) t.pre (in_front f (runs (fragments_from ws (i + 3))))) ≡ runs_whole s d g
      (runs (fragments_of ws)) = rw m at t.rest in
      rw (front-other _ _ t.pre k (runs (fragments_from ws (i + 3))), ← run_broken _ _ _ _ t.begun z) at first

  pub pass_straddle : (a b : Bool) → Passing s d g ws i (kind_if a) c st → b ≡ is_dv (kind_of (get_or ws (i + 2) 0)) → straddles c a b ≡ true
      → refused 15 st ≡ runs_whole s d g (runs (fragments_of ws))
  pass_straddle false false t q e = absurd (false≢true e)
  pass_straddle true true t q e = absurd (false≢true e)
  pass_straddle false true t q e = apart dv t (ltb-true _ _ e) (kind_if_lem _ q)
  pass_straddle true false t q e = apart dt t (ltb-true _ _ e) (kind_if_lem _ q)

  pub pass_next : (a b : Bool) (c' st' : ℕ) → Passing s d g ws i (kind_if a) c st → kind_of (get_or ws (i + 2) 0) ≡ kind_if b
      → straddles c a b ≡ false
      → c' ≡ remainder (record_size s d g (kind_if b)) (c + get_or ws (i + 1) 0)
      → (c' ≤ get_or ws (i + 1) 0 → st' ≡ get_or ws i 0 + (get_or ws (i + 1) 0 - c')) → (get_or ws (i + 1) 0 < c' → st' ≡ st)
      → Passing s d g ws (i + 3) (kind_if b) c' st'
  pass_next false false c' st' t q e = same dt c' st' t q
  pass_next true true c' st' t q e = same dv c' st' t q
  pass_next false true c' st' t q e = changed dv c' st' t (let u = ltb-false 0 c e in omega arith) q
  pass_next true false c' st' t q e = changed dt c' st' t (let u = ltb-false 0 c e in omega arith) q

  -- the same, as the code has it
  pub pass_on : (a b : Bool) {c' st' m z o : ℕ} → Passing s d g ws i (kind_if a) c st → b ≡ is_dv (kind_of (get_or ws (i + 2) 0))
      → straddles c a b ≡ false
      → m ≡ record_size s d g (kind_if b) → o ≡ get_or ws i 0 → z ≡ get_or ws (i + 1) 0 → c' ≡ remainder m (c + z) → st' ≡ start_of c' o z st
      → Passing s d g ws (i + 3) (kind_if b) c' st'
  unfolding start_of
  pass_on a b {c'} {st'} t q e p x y m n =
      let n' : st' ≡ start_of c' (get_or ws i 0) (get_or ws (i + 1) 0) st = rw (← x, ← y) n in
      pass_next a b c' st' t (kind_if_lem _ q) e (rw (p, y) at m) (λ l. n' ∙ sym (le_yes _ _ _ _ l refl)) (λ l. n' ∙ sym (le_no _ _ _ _ l refl))

-- the end: the last run
module _ (s : List ℕ) (d g : ℕ) (ws : List ℕ) (i : ℕ) (k : Kind) (c st : ℕ) (t : Passing s d g ws i k c st) (h : length ws < i + 3) where
  last : and_then (run_whole (record_size s d g k) t.pre) (λ _. fine) ≡ runs_whole s d g (runs (fragments_of ws))
  unfolding runs runs_whole with_front
  last = rw (from-none ws i h) at t.rest

  pub pass_end : c ≡ 0 → fine ≡ runs_whole s d g (runs (fragments_of ws))
  pass_end z = rw (← run_whole_lem _ _ _ _ t.begun z) at last

  pub pass_early : 0 < c → refused 15 st ≡ runs_whole s d g (runs (fragments_of ws))
  pass_early z = rw (← run_broken _ _ _ _ t.begun z) at last

-- ---- as the code computes
pub remaining_none : (n x : ℕ) → n ≡ 0 → 0 ≡ remainder n x
unfolding remainder
remaining_none n x e = eq_yes _ _ _ _ e refl

pub remaining_some : (n b z : ℕ) → (n ≡ 0 → ⊥) → (b + z % n) % n ≡ remainder n (b + z)
unfolding remainder
remaining_some n b z h = add-mod-mod b z n ∙ eq_no _ _ _ _ h refl

pub start_in : (bytes offset size start : ℕ) → bytes ≤ size → offset + (size - bytes) ≡ start_of bytes offset size start
unfolding start_of
start_in bytes offset size start h = le_yes _ _ _ _ h refl

pub start_before : (bytes offset size start : ℕ) → size < bytes → start ≡ start_of bytes offset size start
unfolding start_of
start_before bytes offset size start h = le_no _ _ _ _ h refl

-- ---- 14, the ranges, whole records
module _ (s : List ℕ) (d g : ℕ) (fs : List Fragment) where
  pub fits_not : {a : Bool} {n : ℕ} → a ≡ any_dv fs → a ≡ true → n ≡ inval_bytes s g → (n ≡ 0 → ⊥) → refused 14 d ≡ dv_fits s d g fs
  fits_not e q m h = rw (← e, q) (eq_no _ _ _ _ (λ z. h (m ∙ z)) refl)

  pub fits-dv : {a : Bool} {n : ℕ} → a ≡ any_dv fs → a ≡ true → n ≡ inval_bytes s g → n ≡ 0 → fine ≡ dv_fits s d g fs
  fits-dv e q m h = rw (← e, q) (eq_yes _ _ _ _ (sym m ∙ h) refl)

  pub fits-dt : {a : Bool} → a ≡ any_dv fs → a ≡ false → fine ≡ dv_fits s d g fs
  fits-dt e q = rw (← e, q)

  pub sorted_not : {n p : ℕ} → dv_fits s d g fs ≡ refused n p → refused n p ≡ sorted_in s d g fs
  unfolding sorted_in
  sorted_not q = rw q

  pub sorted_out : {n p : ℕ} → dv_fits s d g fs ≡ fine → ranges_in s fs ≡ refused n p → refused n p ≡ sorted_in s d g fs
  unfolding sorted_in
  sorted_out q k = rw (q, k)

  pub sorted_runs : {r : Verdict} → dv_fits s d g fs ≡ fine → ranges_in s fs ≡ fine → r ≡ runs_whole s d g (runs fs) → r ≡ sorted_in s d g fs
  unfolding sorted_in
  sorted_runs q k h = rw (q, k) h
