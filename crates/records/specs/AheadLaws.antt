-- The joined bytes of what is ahead, and what is ahead past some of them.
use Prim.Native.Nat.{ℕ, zero, suc, ◌+◌, ◌-◌, ◌≤◌, ◌<◌, min}
use mathlib.Core.List.{List, [], ◌∷◌, ◌++◌}
use Rattle.std.specs.Prelude.{◌≡◌, ◌⊎◌, take}
use Rattle.std.proofs.Math.Path.{refl, sym, ap}
use Rattle.std.proofs.Common.{◌∙◌, inl, inr, eq-zero-or-pos, length-take, length-drop, take_all, drop-drop, length-take-le, get_or-drop, get_or-take}
use Rattle.std.proofs.Math.Logic.{⊎_elim}
use Rattle.std.proofs.Math.Nat.{min-le_left, min-le_right}
use native.Mathlib.Omega.{arith}
use Rattle.std.proofs.Math.ListN.{length, get_or, drop, length-append, get_or-append}
use Rattle.std.proofs.Math.Seq.{take-nil, drop-append-le, drop-append-add, get_or-append-add}
use Rattle.base.specs.ChoiceLaws.{lt_yes, lt_no, le_yes, le_no}
use Rattle.base.specs.Blit.{part}
use Rattle.base.specs.Checked.{fine}
use Rattle.mdf.specs.Chain.{dt, Fragment}
use Rattle.mdf.specs.Records.{ranges_in, joined, place_of}
use Rattle.records.specs.Ahead.{fragments_from, clipped, ahead, Skipped, short, onto, skip, Spot, nowhere, spot, spot_past}
use Rattle.records.specs.FragmentLaws.{lt_or_le, from_more, from-none, ranges_head, ranges_tail}

pub le_or_lt : (m n : ℕ) → (m ≤ n) ⊎ (n < m)
le_or_lt m n = ⊎_elim (λ h. inr h) (λ h. inl h) (lt_or_le n m)

-- ---- parts
pub length_part : (o n : ℕ) (s : List ℕ) → length (part o n s) ≡ min n (length s - o)
unfolding part
length_part o n s = length-take n (drop o s) ∙ rw (length-drop o s)

pub part_low : (o n : ℕ) (s : List ℕ) → length (part o n s) ≤ n
part_low o n s = let a = length_part o n s in let b = min-le_left n (length s - o) in omega arith

pub part_high : (o n : ℕ) (s : List ℕ) → length (part o n s) ≤ length s - o
part_high o n s = let a = length_part o n s in let b = min-le_right n (length s - o) in omega arith

pub part-all : (o n : ℕ) (s : List ℕ) → n ≤ length s - o → length (part o n s) ≡ n
unfolding part
part-all o n s h = length-take-le n (drop o s) (simp length-drop (omega arith))

-- a part's length gives the same part
part_same : (o n : ℕ) (s : List ℕ) → part o (length (part o n s)) s ≡ part o n s
unfolding part
part_same o n s =
    ⊎_elim (λ h. let e : length (take n (drop o s)) ≡ n = length-take-le n (drop o s) (omega arith) in rw e)
    (λ h. let e : take n (drop o s) ≡ drop o s = take_all n (drop o s) h in rw e (take_all (length (drop o s)) (drop o s) (omega arith)))
    (lt_or_le n (length (drop o s)))

drop-take : (m k : ℕ) (l : List ℕ) → drop m (take k l) ≡ take (k - m) (drop m l)
drop-take zero k l = let e : k - 0 ≡ k = omega arith in rw e
drop-take (suc m) zero l = let e : 0 - suc m ≡ 0 = omega arith in rw e
drop-take (suc m) (suc k) [] = sym (take-nil (suc k - suc m))
drop-take (suc m) (suc k) (x ∷ l) = let e : suc k - suc m ≡ k - m = omega arith in rw e (drop-take m k l)

drop-part : (m o k : ℕ) (s : List ℕ) → drop m (part o k s) ≡ part (o + m) (k - m) s
unfolding part
drop-part m o k s = drop-take m k (drop o s) ∙ rw (drop-drop m o s)

-- ---- joined bytes
module _ (s : List ℕ) where
  pub joined-clipped : (fs : List Fragment) → joined s (clipped s fs) ≡ joined s fs
  unfolding joined clipped
  joined-clipped [] = refl
  joined-clipped (f ∷ fs) = rw (part_same f.offset f.size s, joined-clipped fs)

  pub joined-ahead : (ws : List ℕ) (at p l : ℕ) → joined s (ahead s ws at p l) ≡ part p l s ++ joined s (fragments_from ws at)
  unfolding ahead joined
  joined-ahead ws at p l = rw (part_same p l s, joined-clipped (fragments_from ws at))

  -- the bytes past m of them
  onto_same : {fs gs : List Fragment} → onto fs ≡ onto gs → gs ≡ fs
  onto_same e = cc

  short≢onto : {fs : List Fragment} → short ≡ onto fs → ⊥
  short≢onto e = let z : ◌≡◌ {A = ℕ} 0 1 = cc in omega arith

  onto≢short : {fs : List Fragment} → onto fs ≡ short → ⊥
  onto≢short e = let z : ◌≡◌ {A = ℕ} 0 1 = cc in omega arith

  pub skip-joined : (fs : List Fragment) (m : ℕ) {gs : List Fragment} → skip m (clipped s fs) ≡ onto gs
      → joined s gs ≡ drop m (joined s (clipped s fs))
  unfolding skip clipped joined
  skip-joined [] m e = absurd (short≢onto e)
  skip-joined (f ∷ fs) m e =
      let o : ℕ = f.offset in
      let k : ℕ = length (part f.offset f.size s) in
      let x : List ℕ = part o k s in
      let y : List ℕ = joined s (clipped s fs) in
      let lx : length x ≡ k = ap length (part_same o f.size s) in
      ⊎_elim
      (λ h. let q : drop m (x ++ y) ≡ drop m x ++ y = drop-append-le m x y (omega arith) in
      rw (onto_same (le_yes m k _ _ h refl ∙ e), q, drop-part m o k s))
      (λ h. let a : skip (m - k) (clipped s fs) ≡ onto _ = le_no m k _ _ h refl ∙ e in
      let j : m ≡ length x + (m - k) = omega arith in
      skip-joined fs (m - k) a ∙ sym (ap (λ (z : ℕ). drop z (x ++ y)) j ∙ drop-append-add x y (m - k)))
      (le_or_lt m k)

  pub skip-long : (fs : List Fragment) (m : ℕ) {gs : List Fragment} → skip m (clipped s fs) ≡ onto gs → m ≤ length (joined s (clipped s fs))
  unfolding skip clipped joined
  skip-long [] m e = absurd (short≢onto e)
  skip-long (f ∷ fs) m e =
      let k : ℕ = length (part f.offset f.size s) in
      let x : List ℕ = part f.offset k s in
      let lx : length x ≡ k = ap length (part_same f.offset f.size s) in
      let t = length-append x (joined s (clipped s fs)) in
      ⊎_elim
      (λ h. omega arith)
      (λ h. let a : skip (m - k) (clipped s fs) ≡ onto _ = le_no m k _ _ h refl ∙ e in let i = skip-long fs (m - k) a in omega arith)
      (le_or_lt m k)

  skip-few : (fs : List Fragment) (m : ℕ) → 0 < m → skip m (clipped s fs) ≡ short → length (joined s (clipped s fs)) < m
  unfolding skip clipped joined
  skip-few [] m z e = z
  skip-few (f ∷ fs) m z e =
      let k : ℕ = length (part f.offset f.size s) in
      let x : List ℕ = part f.offset k s in
      let lx : length x ≡ k = ap length (part_same f.offset f.size s) in
      let t = length-append x (joined s (clipped s fs)) in
      ⊎_elim
      (λ h. absurd (onto≢short (le_yes m k _ _ h refl ∙ e)))
      (λ h. let a : skip (m - k) (clipped s fs) ≡ short = le_no m k _ _ h refl
      ∙ e in let i = skip-few fs (m - k) (omega arith) a in omega arith)
      (le_or_lt m k)

-- ---- what is ahead past some bytes, whatever the image
pub skip_place : (fs : List Fragment) (m : ℕ) {gs : List Fragment} → skip m fs ≡ onto gs → (q : ℕ) → place_of gs q ≡ place_of fs (m + q)
unfolding skip place_of
skip_place [] m e q = absurd (short≢onto [] e)
skip_place (f ∷ fs) m e q =
    let k : ℕ = f.size in
    ⊎_elim
    (λ h. rw (onto_same [] (le_yes m k _ _ h refl ∙ e)) (⊎_elim
    (λ l. let a : f.offset + m + q ≡ f.offset + (m + q) = omega arith in
    sym (lt_yes _ _ _ _ l refl) ∙ a ∙ lt_yes _ _ _ _ (omega arith) refl)
    (λ l. let a : q - (k - m) ≡ m + q - k = omega arith in
    sym (lt_no _ _ _ _ l refl) ∙ rw a (lt_no _ _ _ _ (omega arith) refl))
    (lt_or_le q (k - m))))
    (λ h. let a : skip (m - k) fs ≡ onto _ = le_no m k _ _ h refl ∙ e in
    let j : m - k + q ≡ m + q - k = omega arith in
    skip_place fs (m - k) a q ∙ rw j (lt_no _ _ _ _ (omega arith) refl))
    (le_or_lt m k)

pub skip_fewer : (fs : List Fragment) (m : ℕ) {gs : List Fragment} → skip m fs ≡ onto gs → length gs ≤ length fs
unfolding skip
skip_fewer [] m e = absurd (short≢onto [] e)
skip_fewer (f ∷ fs) m e =
    let k : ℕ = f.size in
    ⊎_elim
    (λ h. rw (onto_same [] (le_yes m k _ _ h refl ∙ e)) (omega arith))
    (λ h. let a : skip (m - k) fs ≡ onto _ = le_no m k _ _ h refl ∙ e in let i = skip_fewer fs (m - k) a in omega arith)
    (le_or_lt m k)

-- in the image nothing is left out
pub place_clipped : (s : List ℕ) (fs : List Fragment) (q : ℕ) → ranges_in s fs ≡ fine → place_of (clipped s fs) q ≡ place_of fs q
unfolding clipped place_of
place_clipped s [] q r = refl
place_clipped s (f ∷ fs) q r =
    let h = ranges_head s f fs r in
    let e : length (part f.offset f.size s) ≡ f.size = part-all f.offset f.size s (omega arith) in
    rw (e, place_clipped s fs (q - f.size) (ranges_tail s f fs r))

-- ---- by the words: what is ahead from a position on
module _ (s ws : List ℕ) (at p l m : ℕ) {here : ℕ} (is : here ≡ length (part p l s)) where
  pub skip_stay : m ≤ here → onto (ahead s ws at (p + m) (here - m)) ≡ skip m (ahead s ws at p l)
  unfolding ahead skip
  skip_stay h =
      let k = part_high p l s in
      let e : length (part (p + m) (here - m) s) ≡ length (part p l s) - m = rw is
      (part-all (p + m) (length (part p l s) - m) s (omega arith)) in
      rw e (le_yes _ _ _ _ (rw is at h) refl)

  pub skip_move : {v : Skipped} {o z : ℕ} → skip m (ahead s ws at p l) ≡ v → here < m → at + 3 ≤ length ws → o ≡ get_or ws at 0
      → z ≡ get_or ws (at + 1) 0
      → skip (m - here) (ahead s ws (at + 3) o z) ≡ v
  unfolding ahead skip clipped
  skip_move r h i x y = rw (is, x, y) (le_no _ _ _ _ (rw is at h) refl ∙ (rw (from_more ws at i) at r))

-- a byte of what is ahead
module _ (s ws : List ℕ) (at p l m : ℕ) {here : ℕ} (is : here ≡ length (part p l s)) {v : ℕ}
    (rest : get_or (joined s (ahead s ws at p l)) m 0 ≡ v) where
  pub byte_here : m < here → get_or s (p + m) 0 ≡ v
  unfolding part
  byte_here h =
      let low = part_low p l s in
      let e : get_or (part p l s ++ joined s (fragments_from ws at)) m 0 ≡ get_or (part p l s) m 0 = get_or-append (part p l s)
      (joined s (fragments_from ws at)) 0 m (omega arith) in
      sym (get_or-drop p s m 0) ∙ sym (get_or-take l (drop p s) m 0 (omega arith)) ∙ sym e ∙ (rw (joined-ahead s ws at p l) at rest)

  pub byte_move : {o z : ℕ} → here ≤ m → at + 3 ≤ length ws → o ≡ get_or ws at 0 → z ≡ get_or ws (at + 1) 0
      → get_or (joined s (ahead s ws (at + 3) o z)) (m - here) 0 ≡ v
  unfolding joined
  byte_move h i x y =
      let j : m ≡ length (part p l s) + (m - here) = omega arith in
      let e = get_or-append-add (part p l s) (joined s (fragments_from ws at)) (m - here) 0 in
      let r : get_or (part p l s ++ joined s (fragments_from ws at)) (length (part p l s) + (m - here)) 0 ≡ v = rw (← j)
      (rw (joined-ahead s ws at p l) at rest) in
      rw (x, y, joined-ahead s ws (at + 3) (get_or ws at 0) (get_or ws (at + 1) 0)) (rw (from_more ws at i) at (sym e ∙ r))

  pub byte_over : here ≤ m → length ws < at + 3 → 0 ≡ v
  unfolding joined
  byte_over h i =
      let j : m ≡ length (part p l s) + (m - here) = omega arith in
      let e = get_or-append-add (part p l s) (joined s (fragments_from ws at)) (m - here) 0 in
      let r : get_or (part p l s ++ joined s (fragments_from ws at)) (length (part p l s) + (m - here)) 0 ≡ v = rw (← j)
      (rw (joined-ahead s ws at p l) at rest) in
      rw (from-none ws at i) at (sym e ∙ r)

-- how much of the bytes left lies in the image
pub inside_none : (p l : ℕ) (s : List ℕ) → length s < p → 0 ≡ length (part p l s)
inside_none p l s h = let a = part_high p l s in omega arith

pub inside_cut : (p l : ℕ) (s : List ℕ) → p ≤ length s → length s - p < l → length s - p ≡ length (part p l s)
unfolding part
inside_cut p l s h k = sym (ap length (take_all l (drop p s) (simp length-drop (omega arith))) ∙ length-drop p s)

pub inside_all : (p l : ℕ) (s : List ℕ) → l ≤ length s - p → l ≡ length (part p l s)
inside_all p l s h = sym (part-all p l s h)

-- what is skipped counts the joined bytes
pub record Counts (s : List ℕ) (fs : List Fragment) : Type 0 where
  pub long : (m : ℕ) {gs : List Fragment} → skip m fs ≡ onto gs → m ≤ length (joined s fs)
  pub few : (m : ℕ) → skip m fs ≡ short → length (joined s fs) < m
  pub drops : (m : ℕ) {gs : List Fragment} → skip m fs ≡ onto gs → joined s gs ≡ drop m (joined s fs)

ahead-few : (s ws : List ℕ) (at p l m : ℕ) → skip m (ahead s ws at p l) ≡ short → length (joined s (ahead s ws at p l)) < m
unfolding ahead clipped skip
ahead-few s ws at p l m e =
    ⊎_elim (λ z. absurd (onto≢short s (le_yes m (length (part p l s)) _ _ (omega arith) refl ∙ e)))
    (λ z. skip-few s (record { offset = p; size = l; kind = dt } ∷ fragments_from ws at) m z e)
    (eq-zero-or-pos m)

pub ahead-counts : (s ws : List ℕ) (at p l : ℕ) → Counts s (ahead s ws at p l)
unfolding ahead clipped
ahead-counts s ws at p l =
    let f : Fragment = record { offset = p; size = l; kind = dt } in
    record {
      long = λ m e. skip-long s (f ∷ fragments_from ws at) m e;
      few = λ m e. ahead-few s ws at p l m e;
      drops = λ m e. skip-joined s (f ∷ fragments_from ws at) m e;
    }

-- ---- by numbers
nowhere≢spot : {a p l : ℕ} → nowhere ≡ spot a p l → ⊥
nowhere≢spot e = let z : ◌≡◌ {A = ℕ} 0 1 = cc in omega arith

spot_at : {a b p q l m : ℕ} → spot a p l ≡ spot b q m → a ≡ b
spot_at e = cc

spot_position : {a b p q l m : ℕ} → spot a p l ≡ spot b q m → p ≡ q
spot_position e = cc

spot_left : {a b p q l m : ℕ} → spot a p l ≡ spot b q m → l ≡ m
spot_left e = cc

none≢some : {f : Fragment} {fs : List Fragment} → [] ≡ f ∷ fs → ⊥
none≢some e = let z = ap length e in omega arith

same_tail : {f g : Fragment} {fs gs : List Fragment} → f ∷ fs ≡ g ∷ gs → fs ≡ gs
same_tail e = cc

module _ (s ws : List ℕ) (at p l m : ℕ) {here : ℕ} (is : here ≡ length (part p l s)) where
  pub spot_stay : m ≤ here → spot at (p + m) (here - m) ≡ spot_past m (ahead s ws at p l) at
  unfolding ahead spot_past
  spot_stay h = rw is (le_yes _ _ _ _ (rw is at h) refl)

  pub spot_move : {v : Spot} {o z : ℕ} → spot_past m (ahead s ws at p l) at ≡ v → here < m → at + 3 ≤ length ws → o ≡ get_or ws at 0
      → z ≡ get_or ws (at + 1) 0
      → spot_past (m - here) (ahead s ws (at + 3) o z) (at + 3) ≡ v
  unfolding ahead spot_past clipped
  spot_move r h i x y = rw (is, x, y) (le_no _ _ _ _ (rw is at h) refl ∙ (rw (from_more ws at i) at r))

  pub spot_over : {v : Spot} → spot_past m (ahead s ws at p l) at ≡ v → here < m → length ws < at + 3 → nowhere ≡ v
  unfolding ahead spot_past clipped
  spot_over r h i = le_no _ _ _ _ (rw is at h) refl ∙ (rw (from-none ws at i) at r)

-- what is ahead at a spot n bytes further on
pub record Landed (s ws : List ℕ) (at p l n a q z : ℕ) : Type 0 where
  pub skips : skip n (ahead s ws at p l) ≡ onto (ahead s ws a q z)
  pub on : (m : ℕ) → spot_past m (ahead s ws a q z) a ≡ spot_past (n + m) (ahead s ws at p l) at

module _ (s ws : List ℕ) where
  -- in the same fragment
  stay_on : (at p l n : ℕ) → n ≤ length (part p l s) → (m : ℕ)
      → spot_past m (ahead s ws at (p + n) (length (part p l s) - n)) at ≡ spot_past (n + m) (ahead s ws at p l) at
  unfolding ahead spot_past
  stay_on at p l n h m =
      let k = part_high p l s in
      let e : length (part (p + n) (length (part p l s) - n) s) ≡ length (part p l s) - n = part-all (p + n) (length (part p l s) - n) s
      (omega arith) in
      rw e (⊎_elim
      (λ g. let a : p + n + m ≡ p + (n + m) = omega arith in let b : length (part p l s) - n - m ≡ length (part p l s) - (n + m) = omega arith in
      sym (le_yes _ _ _ _ g refl) ∙ rw (a, b) (le_yes _ _ _ _ (omega arith) refl))
      (λ g. let a : m - (length (part p l s) - n) ≡ n + m - length (part p l s) = omega arith in
      sym (le_no _ _ _ _ g refl) ∙ rw a (le_no _ _ _ _ (omega arith) refl))
      (le_or_lt m (length (part p l s) - n)))

  land_stay : (at p l n : ℕ) → n ≤ length (part p l s) → Landed s ws at p l n at (p + n) (length (part p l s) - n)
  land_stay at p l n h = record { skips = sym (skip_stay s ws at p l n refl h); on = stay_on at p l n h }

  -- in a later one
  land_move : (at p l n : ℕ) {a q z : ℕ} → length (part p l s) < n → at + 3 ≤ length ws
      → Landed s ws (at + 3) (get_or ws at 0) (get_or ws (at + 1) 0) (n - length (part p l s)) a q z → Landed s ws at p l n a q z
  land_move at p l n h i t = record {
    skips = sym (skip_move s ws at p l n refl refl h i refl refl) ∙ t.skips;
    on = λ m.
        let e : n - length (part p l s) + m ≡ n + m - length (part p l s) = omega arith in
        (rw e at (t.on m)) ∙ spot_move s ws at p l (n + m) refl refl (omega arith) i refl refl;
  }

  stay_landed : (at p l n : ℕ) {a q z : ℕ} → spot_past n (ahead s ws at p l) at ≡ spot a q z → n ≤ length (part p l s)
      → Landed s ws at p l n a q z
  stay_landed at p l n {a} {q} {z} r h =
      let v : spot at (p + n) (length (part p l s) - n) ≡ spot a q z = spot_stay s ws at p l n refl h ∙ r in
      rw (← spot_at v, ← spot_position v, ← spot_left v) (land_stay at p l n h)

  land : (fs : List Fragment) (at p l n : ℕ) {a q z : ℕ} → fragments_from ws at ≡ fs → spot_past n (ahead s ws at p l) at ≡ spot a q z
      → Landed s ws at p l n a q z
  land [] at p l n e r =
      ⊎_elim (λ h. stay_landed at p l n r h)
      (λ h. ⊎_elim (λ i. absurd (none≢some (sym e ∙ from_more ws at i)))
      (λ i. absurd (nowhere≢spot (spot_over s ws at p l n refl r h i))) (le_or_lt (at + 3) (length ws)))
      (le_or_lt n (length (part p l s)))
  land (f ∷ fs) at p l n e r =
      ⊎_elim (λ h. stay_landed at p l n r h)
      (λ h. ⊎_elim (λ i. land_move at p l n h i
      (land fs (at + 3) _ _ _ (same_tail (sym (from_more ws at i) ∙ e)) (spot_move s ws at p l n refl r h i refl refl)))
      (λ i. absurd (nowhere≢spot (spot_over s ws at p l n refl r h i))) (le_or_lt (at + 3) (length ws)))
      (le_or_lt n (length (part p l s)))

pub landed : (s ws : List ℕ) (at p l n : ℕ) {a q z : ℕ} → spot_past n (ahead s ws at p l) at ≡ spot a q z → Landed s ws at p l n a q z
landed s ws at p l n r = land s ws (fragments_from ws at) at p l n refl r

pub nowhere-short : (fs : List Fragment) (m at : ℕ) → spot_past m fs at ≡ nowhere → skip m fs ≡ short
unfolding spot_past skip
nowhere-short [] m at e = refl
nowhere-short (f ∷ fs) m at e =
    ⊎_elim
    (λ h. absurd (nowhere≢spot (sym (le_yes _ _ _ _ h refl ∙ e))))
    (λ h. sym (le_no _ _ _ _ h refl) ∙ nowhere-short fs (m - f.size) (at + 3) (le_no _ _ _ _ h refl ∙ e))
    (le_or_lt m f.size)
