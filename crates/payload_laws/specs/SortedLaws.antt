-- A group that is alone in its DG: as many records as its count, all of one length, in the DG's bytes.
use Prim.Native.Nat.{ℕ, zero, suc, ◌+◌, ◌*◌, ◌/◌, ◌%◌, ◌≤◌, ◌<◌}
use Rattle.std.specs.Prelude.{true, ◌≡◌, refl, ◌⊎◌}
use mathlib.Core.List.{List, [], ◌∷◌, ◌++◌, append-nil, append_assoc}
use Rattle.std.proofs.Math.Path.{sym, ap}
use Rattle.std.proofs.Common.{◌∙◌, subst, inl, inr, add-zero, zero-add, add-mul, div-add-mod', div-mul-le_self, mul-le-mul_left, arith, length-append, take-append-drop}
use Rattle.std.proofs.Math.Nat.{zero-mul, zero-div, suc-mul, div-zero, mul-add-div_right}
use Rattle.std.proofs.Math.ListN.{length, take, drop, replicate, length-drop}
use Rattle.std.proofs.lemmas.List.{replicate-append-replicate}
use Rattle.std.proofs.Math.Seq.{length-take-le}
use Rattle.base.specs.Choice.{pick, if_eq}
use Rattle.base.specs.ChoiceLaws.{lt_back, eq_first, eq_yes, eq_no}
use Rattle.base.specs.Checked.{refused, and_then, Verdict, fine}
use Rattle.base.specs.Blit.{part}
use Rattle.mdf.specs.Chain.{Kind, dt, dv, Fragment}
use Rattle.mdf.specs.Group.{samples, inval_bytes}
use Rattle.mdf.specs.Records.{ranges_in, joined, is_dv, any_dv, record_size, id_bytes, Run, in_front, runs, size_of, run_whole, runs_whole, pieces, without_ids, run_records, sorted_records, sorted_in}
use Rattle.mdf.specs.Count.{size_dt, size_dv, quotient, sorted_count}
use Rattle.result.specs.Recording.{kinds_of, FillSorted}
use Rattle.payload_laws.specs.Answers.{refused≢ok, then_fine, under}
use Rattle.payload_laws.specs.Lists.{Long, none, next, long-append, length_part}

-- ---- the bytes of runs, by kind

abbrev dt_only : Kind → ℕ → ℕ
dt_only dt n = n
dt_only dv n = 0

abbrev dv_only : Kind → ℕ → ℕ
dv_only dt n = 0
dv_only dv n = n

unfoldable sum_dt : List Run → ℕ
sum_dt [] = 0
sum_dt (r ∷ rs) = dt_only r.kind (size_of r.fragments) + sum_dt rs

unfoldable sum_dv : List Run → ℕ
sum_dv [] = 0
sum_dv (r ∷ rs) = dv_only r.kind (size_of r.fragments) + sum_dv rs

front-dt : (f : Fragment) (rs : List Run) → sum_dt (in_front f rs) ≡ dt_only f.kind f.size + sum_dt rs
unfolding in_front sum_dt size_of
front-dt f [] = go f.kind refl
  where
    go : (k : Kind) → f.kind ≡ k → dt_only f.kind (f.size + 0) + 0 ≡ dt_only f.kind f.size + 0
    go dt q = rw q (omega arith)
    go dv q = rw q
front-dt f (r ∷ rs) = go f.kind r.kind refl refl
  where
    go : (k j : Kind) → f.kind ≡ k → r.kind ≡ j
        → sum_dt (in_front f (r ∷ rs)) ≡ dt_only f.kind f.size + (dt_only r.kind (size_of r.fragments) + sum_dt rs)
    go dt dt p q = rw (p, q) (omega arith)
    go dt dv p q = rw (p, q) (omega arith)
    go dv dt p q = rw (p, q) (omega arith)
    go dv dv p q = rw (p, q) (omega arith)

front-dv : (f : Fragment) (rs : List Run) → sum_dv (in_front f rs) ≡ dv_only f.kind f.size + sum_dv rs
unfolding in_front sum_dv size_of
front-dv f [] = go f.kind refl
  where
    go : (k : Kind) → f.kind ≡ k → dv_only f.kind (f.size + 0) + 0 ≡ dv_only f.kind f.size + 0
    go dt q = rw q
    go dv q = rw q (omega arith)
front-dv f (r ∷ rs) = go f.kind r.kind refl refl
  where
    go : (k j : Kind) → f.kind ≡ k → r.kind ≡ j
        → sum_dv (in_front f (r ∷ rs)) ≡ dv_only f.kind f.size + (dv_only r.kind (size_of r.fragments) + sum_dv rs)
    go dt dt p q = rw (p, q) (omega arith)
    go dt dv p q = rw (p, q) (omega arith)
    go dv dt p q = rw (p, q) (omega arith)
    go dv dv p q = rw (p, q) (omega arith)

runs-dt : (fs : List Fragment) → sum_dt (runs fs) ≡ size_dt fs
unfolding runs sum_dt size_dt
runs-dt [] = refl
runs-dt (f ∷ fs) = front-dt f (runs fs) ∙ rw (runs-dt fs) (go f.kind refl)
  where
    go : (k : Kind) → f.kind ≡ k → dt_only f.kind f.size + size_dt fs ≡ size_dt (f ∷ fs)
    go dt q = rw q
    go dv q = rw q

runs-dv : (fs : List Fragment) → sum_dv (runs fs) ≡ size_dv fs
unfolding runs sum_dv size_dv
runs-dv [] = refl
runs-dv (f ∷ fs) = front-dv f (runs fs) ∙ rw (runs-dv fs) (go f.kind refl)
  where
    go : (k : Kind) → f.kind ≡ k → dv_only f.kind f.size + size_dv fs ≡ size_dv (f ∷ fs)
    go dt q = rw q
    go dv q = rw q

-- the DT and the DV bytes are all bytes
kinds_all : (fs : List Fragment) → size_dt fs + size_dv fs ≡ size_of fs
unfolding size_dt size_dv size_of
kinds_all [] = refl
kinds_all (f ∷ fs) = go f.kind refl (kinds_all fs)
  where
    go : (k : Kind) → f.kind ≡ k → size_dt fs + size_dv fs ≡ size_of fs → size_dt (f ∷ fs) + size_dv (f ∷ fs) ≡ f.size + size_of fs
    go dt q ih = rw q (omega arith)
    go dv q ih = rw q (omega arith)

-- ---- counts

length-pieces : (k n : ℕ) (l : List ℕ) → length (pieces k n l) ≡ k
unfolding pieces
length-pieces zero n l = refl
length-pieces (suc k) n l = ap suc (length-pieces k n (drop n l))

length_ids : (n : ℕ) (rs : List (List ℕ)) → length (without_ids n rs) ≡ length rs
unfolding without_ids
length_ids n [] = refl
length_ids n (r ∷ rs) = ap suc (length_ids n rs)

length_run : (s : List ℕ) (d g : ℕ) (r : Run) → length (run_records s d g r) ≡ size_of r.fragments / record_size s d g r.kind
unfolding run_records
length_run s d g r = length_ids _ _ ∙ length-pieces _ _ _

-- "a zero divisor giving 0"
quotient-zero : (n : ℕ) → quotient n 0 ≡ 0
unfolding quotient
quotient-zero n = sym (eq_yes 0 0 0 (n / 0) refl refl)

quotient-some : (n m : ℕ) → 0 < m → quotient n m ≡ n / m
unfolding quotient
quotient-some n m h = sym (eq_no m 0 0 (n / m) (λ e. omega arith) refl)

-- whole records in front add up
quotient-add : (a b n : ℕ) → (0 < n → a % n ≡ 0) → quotient (a + b) n ≡ a / n + quotient b n
quotient-add a b zero h = rw (quotient-zero, quotient-zero, div-zero)
quotient-add a b (suc n) h =
    let e : a / suc n * suc n ≡ a = omega (arith, div-add-mod' a (suc n), h (omega arith)) in
    rw (quotient-some (a + b) (suc n) (omega arith), quotient-some b (suc n) (omega arith))
    (ap (λ (x : ℕ). (x + b) / suc n) (sym e) ∙ mul-add-div_right (omega arith) (a / suc n) b)

-- a run holds whole records
run_whole_lem : (n : ℕ) (fs : List Fragment) → run_whole n fs ≡ fine → 0 < n → size_of fs % n ≡ 0
unfolding run_whole
run_whole_lem n fs e h = (eq_first _ _ _ _ (eq_no n 0 _ _ (λ z. omega arith) refl ∙ e) refused≢ok).0

whole_cons : (s : List ℕ) (d g : ℕ) (r : Run) (rs : List Run) → runs_whole s d g (r ∷ rs) ≡ fine
    → (0 < record_size s d g r.kind → size_of r.fragments % record_size s d g r.kind ≡ 0) × (runs_whole s d g rs ≡ fine)
unfolding runs_whole
whole_cons s d g r rs e =
    let b = then_fine (run_whole (record_size s d g r.kind) r.fragments) (λ _. runs_whole s d g rs) e in
    (run_whole_lem _ _ b.0, b.1)

quotient_nil : (n : ℕ) → quotient 0 n ≡ 0
quotient_nil zero = quotient-zero 0
quotient_nil (suc n) = quotient-some 0 (suc n) (omega arith) ∙ zero-div (suc n)

-- every run holds whole records, so their numbers add up to the quotients of all bytes
runs_count : (s : List ℕ) (d g : ℕ) (rs : List Run) → runs_whole s d g rs ≡ fine
    → length (sorted_records s d g rs) ≡ quotient (sum_dt rs) (record_size s d g dt) + quotient (sum_dv rs) (record_size s d g dv)
unfolding sorted_records sum_dt sum_dv
runs_count s d g [] e = omega (arith, quotient_nil (record_size s d g dt), quotient_nil (record_size s d g dv))
runs_count s d g (r ∷ rs) e =
    let w = whole_cons s d g r rs e in
    rw (length-append, length_run) (go r.kind refl w.0 (runs_count s d g rs w.1))
  where
    go : (k : Kind) → r.kind ≡ k → (0 < record_size s d g r.kind → size_of r.fragments % record_size s d g r.kind ≡ 0)
        → length (sorted_records s d g rs) ≡ quotient (sum_dt rs) (record_size s d g dt) + quotient (sum_dv rs) (record_size s d g dv)
        → size_of r.fragments / record_size s d g r.kind + length (sorted_records s d g rs)
        ≡ quotient (sum_dt (r ∷ rs)) (record_size s d g dt) + quotient (sum_dv (r ∷ rs)) (record_size s d g dv)
    go dt q w ih =
        let a = quotient-add (size_of r.fragments) (sum_dt rs) (record_size s d g dt) (rw q at w) in
        rw (q, zero-add) (omega arith)
    go dv q w ih =
        let a = quotient-add (size_of r.fragments) (sum_dv rs) (record_size s d g dv) (rw q at w) in
        rw (q, zero-add) (omega arith)

-- ---- lengths

pieces-long : (k n : ℕ) (l : List ℕ) → k * n ≤ length l → Long n (pieces k n l)
unfolding pieces
pieces-long zero n l h = none
pieces-long (suc k) n l h =
    let e : suc k * n ≡ k * n + n = suc-mul k n in
    next (length-take-le n l (omega arith)) (pieces-long k n (drop n l) (rw length-drop (omega arith)))

ids_long : {n : ℕ} {rs : List (List ℕ)} (i m : ℕ) → n ≡ i + m → Long n rs → Long m (without_ids i rs)
unfolding without_ids
ids_long i m e none = none
ids_long i m e (next {r} l ls) =
    let x : length (drop i r) ≡ m = rw length-drop (omega arith) in
    next x (ids_long i m e ls)

-- where the ranges lie in the image, the joined data has all bytes
pub joined_length : (s : List ℕ) (fs : List Fragment) → ranges_in s fs ≡ fine → length (joined s fs) ≡ size_of fs
unfolding ranges_in joined size_of
joined_length s [] e = refl
joined_length s (f ∷ fs) e =
    let b = lt_back _ _ _ _ e refused≢ok in
    let h : f.offset + f.size ≤ length s = b.0 in
    rw (length-append, length_part f.offset f.size s h, joined_length s fs b.1)

-- each run's data is all there, and there is DV only without invalidation bytes
data Sound (s : List ℕ) (inval : ℕ) : List Run → Type 0 where
  end : Sound s inval []
  run : {r : Run} {rs : List Run} → length (joined s r.fragments) ≡ size_of r.fragments → (r.kind ≡ dv → inval ≡ 0) → Sound s inval rs
      → Sound s inval (r ∷ rs)

-- a fragment in front makes the first run longer, or is a run of its own
abbrev longer : Fragment → Run → Run
longer f r = record { kind = r.kind; fragments = f ∷ r.fragments }

abbrev alone : Fragment → Run
alone f = record { kind = f.kind; fragments = f ∷ [] }

front_cases : (f : Fragment) (r : Run) (rs : List Run) → (in_front f (r ∷ rs) ≡ longer f r ∷ rs) ⊎ (in_front f (r ∷ rs) ≡ alone f ∷ r ∷ rs)
unfolding in_front
front_cases f r rs = go f.kind r.kind refl refl
  where
    go : (k j : Kind) → f.kind ≡ k → r.kind ≡ j → (in_front f (r ∷ rs) ≡ longer f r ∷ rs) ⊎ (in_front f (r ∷ rs) ≡ alone f ∷ r ∷ rs)
    go dt dt p q = inl (rw (p, q))
    go dt dv p q = inr (rw (p, q))
    go dv dt p q = inr (rw (p, q))
    go dv dv p q = inl (rw (p, q))

sound-front : (s : List ℕ) (inval : ℕ) (f : Fragment) (rs : List Run) → f.offset + f.size ≤ length s → (f.kind ≡ dv → inval ≡ 0)
    → Sound s inval rs
    → Sound s inval (in_front f rs)
unfolding in_front joined size_of
sound-front s inval f [] h v w =
    let one : length (part f.offset f.size s ++ []) ≡ f.size + 0 = rw (length-append, length_part f.offset f.size s h) in
    run {r = alone f} one v end
sound-front s inval f (r ∷ rs) h v (run l u w) = go (front_cases f r rs)
  where
    more : length (part f.offset f.size s ++ joined s r.fragments) ≡ f.size + size_of r.fragments
    more = rw (length-append, length_part f.offset f.size s h, l)

    one : length (part f.offset f.size s ++ []) ≡ f.size + 0
    one = rw (length-append, length_part f.offset f.size s h)

    go : (in_front f (r ∷ rs) ≡ longer f r ∷ rs) ⊎ (in_front f (r ∷ rs) ≡ alone f ∷ r ∷ rs) → Sound s inval (in_front f (r ∷ rs))
    go (inl e) = subst (Sound s inval) (sym e) (run {r = longer f r} more u w)
    go (inr e) = subst (Sound s inval) (sym e) (run {r = alone f} one v (run l u w))

-- a DV in front or a later one
any_here : (f : Fragment) (fs : List Fragment) → f.kind ≡ dv → any_dv (f ∷ fs) ≡ true
unfolding any_dv
any_here f fs e = rw e

any_later : (f : Fragment) (fs : List Fragment) → any_dv fs ≡ true → any_dv (f ∷ fs) ≡ true
unfolding any_dv
any_later f fs e = go f.kind refl
  where
    go : (k : Kind) → f.kind ≡ k → pick (is_dv f.kind) true (any_dv fs) ≡ true
    go dt q = rw q e
    go dv q = rw q

sound-runs : (s : List ℕ) (inval : ℕ) (fs : List Fragment) → ranges_in s fs ≡ fine → (any_dv fs ≡ true → inval ≡ 0) → Sound s inval (runs fs)
unfolding runs ranges_in
sound-runs s inval [] e v = end
sound-runs s inval (f ∷ fs) e v =
    let b = lt_back _ _ _ _ e refused≢ok in
    sound-front s inval f (runs fs) b.0 (λ q. v (any_here f fs q)) (sound-runs s inval fs b.1 (λ q. v (any_later f fs q)))

run_long : (s : List ℕ) (d g : ℕ) (r : Run) → length (joined s r.fragments) ≡ size_of r.fragments → (r.kind ≡ dv → inval_bytes s g ≡ 0)
    → Long (samples s g + inval_bytes s g) (run_records s d g r)
unfolding run_records
run_long s d g r l v = go r.kind refl
  where
    n : ℕ
    n = record_size s d g r.kind

    all : Long n (pieces (size_of r.fragments / n) n (joined s r.fragments))
    all = pieces-long _ n _ (rw l (div-mul-le_self (size_of r.fragments) n))

    go : (k : Kind) → r.kind ≡ k
        → Long (samples s g + inval_bytes s g) (without_ids (id_bytes s d r.kind) (pieces (size_of r.fragments / n) n (joined s r.fragments)))
    go dt q = ids_long _ _ (rw q (omega arith)) all
    go dv q = ids_long _ _ (let z = v q in rw q (omega arith)) all

runs-long : {s : List ℕ} (d g : ℕ) {rs : List Run} → Sound s (inval_bytes s g) rs
    → Long (samples s g + inval_bytes s g) (sorted_records s d g rs)
unfolding sorted_records
runs-long d g end = none
runs-long {s} d g (run {r} {rs} l v w) = long-append (sorted_records s d g rs) (run_long s d g r l v) (runs-long d g w)

-- ---- bytes

run-bytes : (s : List ℕ) (d g : ℕ) (r : Run) → (r.kind ≡ dv → inval_bytes s g ≡ 0)
    → length (run_records s d g r) * (samples s g + inval_bytes s g) ≤ size_of r.fragments
run-bytes s d g r v = rw length_run (go r.kind refl)
  where
    go : (k : Kind) → r.kind ≡ k
        → size_of r.fragments / record_size s d g r.kind * (samples s g + inval_bytes s g) ≤ size_of r.fragments
    go dt q =
        let n : ℕ = record_size s d g dt in
        let a : samples s g + inval_bytes s g ≤ n = omega arith in
        let b = div-mul-le_self (size_of r.fragments) n in
        rw q (omega (arith, mul-le-mul_left (size_of r.fragments / n) a))
    go dv q =
        let n : ℕ = record_size s d g dv in
        let z = v q in
        let a : samples s g + inval_bytes s g ≤ n = omega arith in
        let b = div-mul-le_self (size_of r.fragments) n in
        rw q (omega (arith, mul-le-mul_left (size_of r.fragments / n) a))

sums : (r : Run) (rs : List Run) → sum_dt (r ∷ rs) + sum_dv (r ∷ rs) ≡ size_of r.fragments + (sum_dt rs + sum_dv rs)
unfolding sum_dt sum_dv
sums r rs = go r.kind refl
  where
    go : (k : Kind) → r.kind ≡ k → sum_dt (r ∷ rs) + sum_dv (r ∷ rs) ≡ size_of r.fragments + (sum_dt rs + sum_dv rs)
    go dt q = rw q (omega arith)
    go dv q = rw q (omega arith)

runs-bytes : {s : List ℕ} (d g : ℕ) {rs : List Run} → Sound s (inval_bytes s g) rs
    → length (sorted_records s d g rs) * (samples s g + inval_bytes s g) ≤ sum_dt rs + sum_dv rs
unfolding sorted_records
runs-bytes {s} d g end = omega (arith, zero-mul (samples s g + inval_bytes s g))
runs-bytes {s} d g (run {r} {rs} l v w) =
    let a = run-bytes s d g r v in
    let b = runs-bytes d g w in
    let e = sums r rs in
    rw (length-append, add-mul) (omega arith)

-- ---- what the checks of a group alone in its DG give
pub record Alone (s : List ℕ) (g : ℕ) (fs : List Fragment) : Type 0 where
  pub unmixed : any_dv fs ≡ true → inval_bytes s g ≡ 0
  pub ranges : ranges_in s fs ≡ fine

sorted_alone : (s : List ℕ) (d g : ℕ) (fs : List Fragment) → sorted_in s d g fs ≡ fine → Alone s g fs × (runs_whole s d g (runs fs) ≡ fine)
unfolding sorted_in
sorted_alone s d g fs e =
    let v : Verdict = if_eq (inval_bytes s g) 0 fine (refused 14 d) in
    let a = then_fine (pick (any_dv fs) v fine) (λ _. and_then (ranges_in s fs) (λ _. runs_whole s d g (runs fs))) e in
    let b = then_fine (ranges_in s fs) (λ _. runs_whole s d g (runs fs)) a.1 in
    (record { unmixed = λ q. (eq_first _ _ _ _ (under (any_dv fs) v a.0 q) refused≢ok).0; ranges = b.0 }, b.1)

-- as many records as the count
pub sorted_count_lem : (s : List ℕ) (d g : ℕ) (fs : List Fragment) → sorted_in s d g fs ≡ fine
    → length (sorted_records s d g (runs fs)) ≡ sorted_count s d g fs
unfolding sorted_count
sorted_count_lem s d g fs e = runs_count s d g (runs fs) (sorted_alone s d g fs e).1 ∙ rw (runs-dt, runs-dv)

-- each of samples and invalidation bytes
pub sorted_long : (s : List ℕ) (d g : ℕ) (fs : List Fragment) → sorted_in s d g fs ≡ fine
    → Long (samples s g + inval_bytes s g) (sorted_records s d g (runs fs))
sorted_long s d g fs e =
    let a = (sorted_alone s d g fs e).0 in
    runs-long d g (sound-runs s (inval_bytes s g) fs a.ranges a.unmixed)

-- which are bytes of the fragments
pub sorted_bytes : (s : List ℕ) (d g : ℕ) (fs : List Fragment) → sorted_in s d g fs ≡ fine
    → length (sorted_records s d g (runs fs)) * (samples s g + inval_bytes s g) ≤ size_of fs
sorted_bytes s d g fs e =
    let a = (sorted_alone s d g fs e).0 in
    let b = runs-bytes d g (sound-runs s (inval_bytes s g) fs a.ranges a.unmixed) in
    omega (arith, runs-dt fs, runs-dv fs, kinds_all fs)

pub sorted_ranges : (s : List ℕ) (d g : ℕ) (fs : List Fragment) → sorted_in s d g fs ≡ fine → ranges_in s fs ≡ fine
sorted_ranges s d g fs e = (sorted_alone s d g fs e).0.ranges

-- ---- the records are all of the data

unfoldable joined_runs : List ℕ → List Run → List ℕ
joined_runs s [] = []
joined_runs s (r ∷ rs) = joined s r.fragments ++ joined_runs s rs

unfoldable kinds_runs : List Run → List Kind
kinds_runs [] = []
kinds_runs (r ∷ rs) = replicate (size_of r.fragments) r.kind ++ kinds_runs rs

front-joined : (s : List ℕ) (f : Fragment) (rs : List Run) → joined_runs s (in_front f rs) ≡ part f.offset f.size s ++ joined_runs s rs
unfolding in_front joined_runs joined
front-joined s f [] = ap (λ (l : List ℕ). l ++ []) (append-nil (part f.offset f.size s))
front-joined s f (r ∷ rs) = go (front_cases f r rs)
  where
    p : List ℕ
    p = part f.offset f.size s

    go : (in_front f (r ∷ rs) ≡ longer f r ∷ rs) ⊎ (in_front f (r ∷ rs) ≡ alone f ∷ r ∷ rs)
        → joined_runs s (in_front f (r ∷ rs)) ≡ p ++ (joined s r.fragments ++ joined_runs s rs)
    go (inl e) = ap (joined_runs s) e ∙ append_assoc p (joined s r.fragments) (joined_runs s rs)
    go (inr e) = ap (joined_runs s) e ∙ ap (λ (l : List ℕ). l ++ (joined s r.fragments ++ joined_runs s rs)) (append-nil p)

runs-joined : (s : List ℕ) (fs : List Fragment) → joined_runs s (runs fs) ≡ joined s fs
unfolding runs joined_runs joined
runs-joined s [] = refl
runs-joined s (f ∷ fs) = front-joined s f (runs fs) ∙ ap (λ (l : List ℕ). part f.offset f.size s ++ l) (runs-joined s fs)

same_kinds : (n m : ℕ) (k : Kind) (l : List Kind) → replicate (n + m) k ++ l ≡ replicate n k ++ (replicate m k ++ l)
same_kinds n m k l = ap (λ (x : List Kind). x ++ l) (sym (replicate-append-replicate n m k)) ∙ append_assoc (replicate n k) (replicate m k) l

front_kinds : (f : Fragment) (rs : List Run) → kinds_runs (in_front f rs) ≡ replicate f.size f.kind ++ kinds_runs rs
unfolding in_front kinds_runs size_of
front_kinds f [] = rw add-zero
front_kinds f (r ∷ rs) = go f.kind r.kind refl refl
  where
    go : (k j : Kind) → f.kind ≡ k → r.kind ≡ j
        → kinds_runs (in_front f (r ∷ rs)) ≡ replicate f.size f.kind ++ (replicate (size_of r.fragments) r.kind ++ kinds_runs rs)
    go dt dt p q = rw (p, q) (same_kinds f.size (size_of r.fragments) dt (kinds_runs rs))
    go dt dv p q = rw (p, q, add-zero)
    go dv dt p q = rw (p, q, add-zero)
    go dv dv p q = rw (p, q) (same_kinds f.size (size_of r.fragments) dv (kinds_runs rs))

runs_kinds : (fs : List Fragment) → kinds_runs (runs fs) ≡ kinds_of fs
unfolding runs kinds_runs kinds_of
runs_kinds [] = refl
runs_kinds (f ∷ fs) = front_kinds f (runs fs) ∙ ap (λ (l : List Kind). replicate f.size f.kind ++ l) (runs_kinds fs)

no_bytes : (d : List ℕ) → length d ≡ 0 → d ≡ []
no_bytes [] e = refl
no_bytes (x ∷ d) e = absurd (omega arith)

-- q whole records of one kind, each after an id of i bytes, then more
module _ (s : List ℕ) (dg g : ℕ) (k : Kind) (n : ℕ) (wide : n ≡ id_bytes s dg k + (samples s g + inval_bytes s g)) where
  fill_pieces : (q : ℕ) (d : List ℕ) → length d ≡ q * n → (rs : List (List ℕ)) (rest : List ℕ) (later : List Kind) → FillSorted s dg g rs rest later
      → FillSorted s dg g (without_ids (id_bytes s dg k) (pieces q n d) ++ rs) (d ++ rest) (replicate (length d) k ++ later)
  unfolding pieces without_ids FillSorted
  fill_pieces zero d l rs rest later h = rw (no_bytes d (l ∙ zero-mul n)) h
  fill_pieces (suc q) d l rs rest later h =
      let i : ℕ = id_bytes s dg k in
      let front : List ℕ = take n d in
      let m : length d ≡ q * n + n = l ∙ suc-mul q n in
      let f : length front ≡ n = length-take-le n d (omega (arith, m)) in
      let t : length (drop n d) ≡ q * n = length-drop n d ∙ omega (arith, m) in
      let a : length (take i front) ≡ i = length-take-le i front (omega (arith, f, wide)) in
      let b : length (drop i front) ≡ samples s g + inval_bytes s g = length-drop i front ∙ omega (arith, f, wide) in
      let w : d ≡ (take i front ++ drop i front) ++ drop n d =
      sym (take-append-drop n d) ∙ ap (λ (x : List ℕ). x ++ drop n d) (sym (take-append-drop i front)) in
      let z : length d ≡ length (take i front) + length (drop i front) + length (drop n d) = omega (arith, a, b, t, m, wide) in (
        drop n d ++ rest,
        replicate (length (drop n d)) k ++ later,
        record {
          kind = k;
          id = take i front;
          parts = ap (λ (x : List ℕ). x ++ rest) w ∙ append_assoc (take i front ++ drop i front) (drop n d) rest
              ∙ append_assoc (take i front) (drop i front) (drop n d ++ rest);
          of_kind = ap (λ (x : ℕ). replicate x k ++ later) z ∙ same_kinds (length (take i front) + length (drop i front)) (length (drop n d)) k later;
          id_length = a;
          long = b;
        },
        fill_pieces q (drop n d) t rs rest later h,
      )

fill_runs : {s : List ℕ} (d g : ℕ) {rs : List Run} → Sound s (inval_bytes s g) rs → runs_whole s d g rs ≡ fine → 0 < samples s g + inval_bytes s g
    → FillSorted s d g (sorted_records s d g rs) (joined_runs s rs) (kinds_runs rs)
unfolding sorted_records joined_runs kinds_runs run_records FillSorted
fill_runs d g end e h = refl
fill_runs {s} d g (run {r} {rs} l v w) e h =
    let c = whole_cons s d g r rs e in
    let n : ℕ = record_size s d g r.kind in
    let wide : n ≡ id_bytes s d r.kind + (samples s g + inval_bytes s g) = sized r.kind v in
    let m : length (joined s r.fragments) ≡ size_of r.fragments / n * n =
    l ∙ omega (arith, div-add-mod' (size_of r.fragments) n, c.0 (omega (arith, wide, h))) in
    subst (λ (x : ℕ). FillSorted s d g (sorted_records s d g (r ∷ rs)) (joined_runs s (r ∷ rs)) (replicate x r.kind ++ kinds_runs rs)) l
    (fill_pieces s d g r.kind n wide (size_of r.fragments / n) (joined s r.fragments) m (sorted_records s d g rs) (joined_runs s rs) (kinds_runs rs)
    (fill_runs d g w c.1 h))
  where
    sized : (k : Kind) → (k ≡ dv → inval_bytes s g ≡ 0) → record_size s d g k ≡ id_bytes s d k + (samples s g + inval_bytes s g)
    sized dt u = omega arith
    sized dv u = omega (arith, u refl)

pub sorted_fill : (s : List ℕ) (d g : ℕ) (fs : List Fragment) → sorted_in s d g fs ≡ fine → 0 < samples s g + inval_bytes s g
    → FillSorted s d g (sorted_records s d g (runs fs)) (joined s fs) (kinds_of fs)
sorted_fill s d g fs e h =
    let a = sorted_alone s d g fs e in
    rw (← runs-joined s fs, ← runs_kinds fs) (fill_runs d g (sound-runs s (inval_bytes s g) fs a.0.ranges a.0.unmixed) a.1 h)
