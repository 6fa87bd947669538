-- Loops over jobs in eights give what the definitions say of the jobs.
use Prim.Native.Nat.{ℕ, zero, suc, ◌+◌, ◌-◌, ◌/◌, ◌≤◌, ◌<◌, min}
use mathlib.Core.List.{List, [], ◌∷◌, ◌++◌}
use Rattle.std.specs.Prelude.{◌≡◌, eqb, not, Bool, true, false, get_or, set, drop, take, replicate, Option, Some, None, Result, Ok, Err}
use Rattle.std.proofs.Math.Path.{refl, sym, ap}
use Rattle.std.proofs.Common.{subst, ◌∙◌, zero-add}
use Rattle.std.proofs.Math.Nat.{sub-zero, zero-sub, suc-sub-suc}
use native.Mathlib.Omega.{arith}
use native.Mathlib.Nat.{div-zero}
use Rattle.std.proofs.Math.Logic.{⊎_elim}
use Rattle.std.proofs.Math.ListN.{length}
use Rattle.std.specs.Option.{SomeIff, unwrap_or}
use Rattle.std.specs.List.{count_by, list_all}
use Rattle.std.proofs.lemmas.Bool.{ne_eqb}
use Rattle.std.proofs.lemmas.List.{get_or-take, length-take-le}
use Rattle.std.proofs.lemmas.List.Sums.{sum_by-cons}
use Rattle.stores.specs.Cases.{eq_or_ne}
use Rattle.std.proofs.lemmas.List.{length-replicate}
use Rattle.base.specs.Blit.{blit}
use Rattle.base.specs.BlitLaws.{blit_is}
use Rattle.base.specs.Checked.{Checked}
use Rattle.passes.specs.Passes.{Job, unfinished, base, bases, more, given, shares, capped, shared}
use Rattle.passes.proofs.PassesLaws.{unfinished-none, unfinished-one, bases-within, shares-length, shared-none, shared-over, shared-nothing, shared_uncapped, shared-fine, uncapped_here, capped-on}
use Rattle.shares.specs.Eights.{jobs_from, jobs_of, verdict_of, GivenAs}
use Rattle.shares.specs.declared.Refusal.{Refusal}
use Rattle.shares.specs.declared.Refusal.TheVariants.{Jobs, Nothing}

pub length_jobs : (cs ls : List ℕ) (i n : ℕ) → length (jobs_from cs ls i n) ≡ n
unfolding jobs_from
length_jobs cs ls i zero = refl
length_jobs cs ls i (suc n) = ap suc (length_jobs cs ls (suc i) n)

-- ---- jobs from number i on, of n

module _ (cs ls : List ℕ) (n : ℕ) where
  abbrev pub past : ℕ → List Job
  past i = jobs_from cs ls i (n - i)

  abbrev pub job_at : ℕ → Job
  job_at i = record { cap = get_or cs i 0; left = get_or ls i 0 }

  pub past_first : past 0 ≡ jobs_from cs ls 0 n
  past_first = ap (jobs_from cs ls 0) (sub-zero n)

  pub past-step : (i : ℕ) → i < n → past i ≡ job_at i ∷ past (i + 1)
  unfolding jobs_from
  past-step i h =
      let one : i + 1 ≡ suc i = omega arith in
      let e : n - i ≡ suc (n - suc i) = omega arith in
      rw (one, e) refl

  pub past-none : (i : ℕ) → n ≤ i → past i ≡ []
  unfolding jobs_from
  past-none i h = let e : n - i ≡ 0 = omega arith in rw e refl

-- ---- whether all have caps, and how many are unfinished

-- numbers past the first are those of the rest
jobs-rest : (c l : ℕ) (cs ls : List ℕ) (i n : ℕ) → jobs_from (c ∷ cs) (l ∷ ls) (suc i) n ≡ jobs_from cs ls i n
unfolding jobs_from
jobs-rest c l cs ls i zero = refl
jobs-rest c l cs ls i (suc n) = ap (λ (js : List Job). job_at cs ls n i ∷ js) (jobs-rest c l cs ls (suc i) n)

jobs-cons : (c l : ℕ) (cs ls : List ℕ) → jobs_of (c ∷ cs) (l ∷ ls) ≡ record { cap = c; left = l } ∷ jobs_of cs ls
unfolding jobs_from
jobs-cons c l cs ls = ap (λ (js : List Job). record { cap = c; left = l } ∷ js) (jobs-rest c l cs ls 0 (length cs))

pub capped_all : (cs ls : List ℕ) → length ls ≡ length cs → capped (jobs_of cs ls) ≡ verdict_of (list_all (λ cap. not (eqb cap 0)) cs)
unfolding capped jobs_from
capped_all [] ls e = refl
capped_all (c ∷ cs) [] e = absurd (omega (arith, e))
capped_all (c ∷ cs) (l ∷ ls) e =
    let j : Job = record { cap = c; left = l } in
    ap capped (jobs-cons c l cs ls) ∙
    ⊎_elim (λ z. uncapped_here j (jobs_of cs ls) z ∙ rw z refl)
    (λ z. capped-on j (jobs_of cs ls) z ∙ capped_all cs ls (omega (arith, e)) ∙ rw (ne_eqb c 0 z) refl) (eq_or_ne c 0)

pub unfinished_count : (cs ls : List ℕ) → length ls ≡ length cs → count_by (λ left. not (eqb left 0)) ls ≡ unfinished (jobs_of cs ls)
unfolding unfinished jobs_from
unfinished_count [] [] e = refl
unfinished_count [] (l ∷ ls) e = absurd (omega (arith, e))
unfinished_count (c ∷ cs) [] e = absurd (omega (arith, e))
unfinished_count (c ∷ cs) (l ∷ ls) e =
    let j : Job = record { cap = c; left = l } in
    let h : count_by (λ left. not (eqb left 0)) ls ≡ unfinished (jobs_of cs ls) = unfinished_count cs ls (omega (arith, e)) in
    sym
    (ap unfinished (jobs-cons c l cs ls) ∙
    ⊎_elim (λ z. unfinished-none j (jobs_of cs ls) z ∙ sym h ∙ sym (sum_by-cons _ l ls ∙ rw z (zero-add _)))
    (λ z. unfinished-one j (jobs_of cs ls) z ∙ ap suc (sym h) ∙ sym (sum_by-cons _ l ls ∙ rw (ne_eqb l 0 z) (omega arith))) (eq_or_ne l 0))

-- ---- what is left over

pub record Lowering (cs ls : List ℕ) (u q n rest i : ℕ) : Type 0 where
  pub enough : bases q (past cs ls n i) ≤ rest
  pub is : rest - bases q (past cs ls n i) ≡ u - bases q (jobs_from cs ls 0 n)

pub lowering_begin : (cs ls : List ℕ) (u q n : ℕ) → bases q (jobs_from cs ls 0 n) ≤ u → Lowering cs ls u q n u 0
lowering_begin cs ls u q n h = record { enough = rw (past_first cs ls n) h; is = rw (past_first cs ls n) refl }

module _ (cs ls : List ℕ) (u q n rest i : ℕ) (v : Lowering cs ls u q n rest i) where
  lowered : i < n → bases q (past cs ls n i) ≡ min (get_or cs i 0) (min (get_or ls i 0) q) + bases q (past cs ls n (i + 1))
  unfolding bases
  lowered h = ap (bases q) (past-step cs ls n i h)

  pub lowering_enough : (b : ℕ) → i < n → b ≡ min (get_or cs i 0) (min (get_or ls i 0) q) → b ≤ rest
  lowering_enough b h e = omega (arith, v.enough, lowered h)

  pub lowering_turn : (b : ℕ) → i < n → b ≡ min (get_or cs i 0) (min (get_or ls i 0) q) → Lowering cs ls u q n (rest - b) (i + 1)
  lowering_turn b h e =
      let l : bases q (past cs ls n i) ≡ b + bases q (past cs ls n (i + 1)) = rw e (lowered h) in
      record { enough = omega (arith, v.enough, l); is = omega (arith, v.is, v.enough, l) }

  pub lowering_end : n ≤ i → rest ≡ u - bases q (jobs_from cs ls 0 n)
  unfolding bases
  lowering_end h = omega (arith, v.is, ap (bases q) (past-none cs ls n i h))

-- ---- shares, laid over zeros one after the other

abbrev pub Giving : List ℕ → List ℕ → ℕ → ℕ → ℕ → List ℕ → ℕ → ℕ → Type 0
Giving cs ls q over n s rest i = blit i (given q rest (past cs ls n i)) s ≡ blit 0 (given q over (jobs_from cs ls 0 n)) (replicate 8 0)

pub giving_begin : (cs ls : List ℕ) (q over n : ℕ) → Giving cs ls q over n (replicate 8 0) over 0
giving_begin cs ls q over n = rw (past_first cs ls n) refl

blit-step : (i x : ℕ) (ks l : List ℕ) → blit (i + 1) ks (set l i x) ≡ blit i (x ∷ ks) l
unfolding blit
blit-step i x ks l = let one : i + 1 ≡ suc i = omega arith in rw one refl

less_taken : (r m : ℕ) → r - min r m ≡ r - m
less_taken r m = omega arith

module _ (cs ls : List ℕ) (q over n : ℕ) (s : List ℕ) (rest i : ℕ) (v : Giving cs ls q over n s rest i) where
  pub giving_turn : (s' : List ℕ) (b may k : ℕ) → i < n → b ≡ min (get_or cs i 0) (min (get_or ls i 0) q) → may ≡ min (get_or cs i 0) (get_or ls i 0) - b
      → k ≡ min rest may → s' ≡ set s i (b + k) → Giving cs ls q over n s' (rest - k) (i + 1)
  unfolding given blit
  giving_turn s' b may k h eb em ek es =
      let j : Job = job_at cs ls n i in
      let w : b + k ≡ base q j + min rest (more q j) = rw (ek, em, eb) refl in
      let z : rest - k ≡ rest - more q j = rw (ek, less_taken, em, eb) refl in
      rw (es, w, z)
      (blit-step i (base q j + min rest (more q j)) (given q (rest - more q j) (past cs ls n (i + 1))) s
      ∙ sym (ap (λ (js : List Job). blit i (given q rest js) s) (past-step cs ls n i h))
      ∙ v)

  pub giving_end : n ≤ i → s ≡ blit 0 (given q over (jobs_from cs ls 0 n)) (replicate 8 0)
  unfolding given blit
  giving_end h = sym (ap (λ (js : List Job). blit i (given q rest js) s) (past-none cs ls n i h)) ∙ v

-- ---- what is answered

drop-replicate : (k n : ℕ) → drop {A = ℕ} k (replicate n 0) ≡ replicate (n - k) 0
drop-replicate zero n = rw sub-zero
drop-replicate (suc k) zero = rw zero-sub
drop-replicate (suc k) (suc n) = drop-replicate k n ∙ rw suc-sub-suc

pub over_zeros : (ks : List ℕ) → length ks ≤ 8 → blit 0 ks (replicate 8 0) ≡ ks ++ replicate (8 - length ks) 0
over_zeros ks h =
    blit_is 0 ks (replicate 8 0) (rw (zero-add, length-replicate) h) ∙ ap (λ (l : List ℕ). ks ++ l) (rw zero-add (drop-replicate (length ks) 8))

-- a division by 0 gives 0
pub quotient : (o : Option ℕ) (u m q : ℕ) → SomeIff o (0 < m) (u / m) → q ≡ unwrap_or o 0 → q ≡ u / m
quotient (Some x) u m q s e = e ∙ s.1
quotient None u m q s e = let z : m ≡ 0 = omega (arith, s) in e ∙ rw z (sym (div-zero u))

answer : {x y : Checked (List ℕ)} (r : Result (List ℕ) Refusal) → x ≡ y → GivenAs y r → GivenAs x r
answer r e m = subst (λ (z : Checked (List ℕ)). GivenAs z r) (sym e) m

-- the first n of caps and jobs
jobs-taken : (cs ls : List ℕ) (m i n : ℕ) → i + n ≤ m → jobs_from (take m cs) (take m ls) i n ≡ jobs_from cs ls i n
unfolding jobs_from
jobs-taken cs ls m i zero h = refl
jobs-taken cs ls m i (suc n) h =
    rw (get_or-take m cs i 0 (omega arith), get_or-take m ls i 0 (omega arith)) (ap (λ (js : List Job). record { cap = get_or cs i 0; left = get_or ls i 0 } ∷ js) (jobs-taken cs ls m (suc i) n (omega arith)))

module _ (cs ls : List ℕ) (u n : ℕ) where
  abbrev js : List Job
  js = jobs_from cs ls 0 n

  pub share_none : n ≡ 0 → GivenAs (shared u js) (Err Jobs)
  share_none e = answer (Err Jobs) (shared-none u js (length_jobs cs ls 0 n ∙ e)) refl

  pub share_over : 8 < n → GivenAs (shared u js) (Err Jobs)
  share_over h = answer (Err Jobs) (shared-over u js (rw (length_jobs cs ls 0 n) h)) refl

  module _ (caps : length cs ≡ 8) (left : length ls ≡ 8) (some' : n ≡ 0 → ⊥) (few : n ≤ 8) where
    long : length js ≡ 0 → ⊥
    long e = some' (sym (length_jobs cs ls 0 n) ∙ e)

    short : length js ≤ 8
    short = rw (length_jobs cs ls 0 n) few

    pub share_nothing : u ≡ 0 → GivenAs (shared u js) (Err Nothing)
    share_nothing e = answer (Err Nothing) (shared-nothing u js long short e) refl

    -- the jobs whose numbers are lent
    abbrev lent : List Job
    lent = jobs_of (take n cs) (take n ls)

    taken : lent ≡ js
    taken = ap (jobs_from (take n cs) (take n ls) 0) (length-take-le n cs (omega arith)) ∙ jobs-taken cs ls n 0 n (omega arith)

    paired : length (take n ls) ≡ length (take n cs)
    paired = length-take-le n ls (omega arith) ∙ sym (length-take-le n cs (omega arith))

    verdict : (b : Bool) → b ≡ list_all (λ cap. not (eqb cap 0)) (take n cs) → capped js ≡ verdict_of b
    verdict b e = rw e (ap capped (sym taken) ∙ capped_all (take n cs) (take n ls) paired)

    pub share_uncapped : (u ≡ 0 → ⊥) → (b : Bool) → b ≡ list_all (λ cap. not (eqb cap 0)) (take n cs) → b ≡ false → GivenAs (shared u js) (Err Nothing)
    share_uncapped z b e f = answer (Err Nothing) (shared_uncapped u js long short z (verdict b e ∙ ap verdict_of f)) refl

    unfinished_of : (m : ℕ) → m ≡ count_by (λ stores. not (eqb stores 0)) (take n ls) → m ≡ unfinished js
    unfinished_of m e = e ∙ unfinished_count (take n cs) (take n ls) paired ∙ ap unfinished taken

    -- the bases are within U
    pub share_within : (m q : ℕ) → m ≡ count_by (λ stores. not (eqb stores 0)) (take n ls) → q ≡ u / m → bases q lent ≤ u
    share_within m q em eq = rw (taken, eq, unfinished_of m em) (bases-within u js)

    pub share_fine : (b : Bool) (m q over : ℕ) (s : List ℕ) → (u ≡ 0 → ⊥) → b ≡ list_all (λ cap. not (eqb cap 0)) (take n cs) → b ≡ true
        → m ≡ count_by (λ stores. not (eqb stores 0)) (take n ls) → q ≡ u / m → over ≡ u - bases q lent
        → s ≡ blit 0 (given q over lent) (replicate 8 0) → GivenAs (shared u js) (Ok s)
    unfolding shares
    share_fine b m q over s z eb t em eq eo es =
        let k : q ≡ u / unfinished js = eq ∙ ap (λ (x : ℕ). u / x) (unfinished_of m em) in
        let o : over ≡ u - bases (u / unfinished js) js = eo ∙ rw (taken, k) refl in
        let w : given q over lent ≡ shares u js = rw (taken, k, o) refl in
        let l : length (shares u js) ≤ 8 = rw (shares-length u js) short in
        answer (Ok s) (shared-fine u js long short z (verdict b eb ∙ ap verdict_of t)) (es ∙ rw w (over_zeros (shares u js) l))
