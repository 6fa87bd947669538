-- Equal ids, the checks of a DG with several groups, and counts laid over words.
use Rattle.std.specs.Prelude.{ℕ, zero, suc, ◌+◌, ◌-◌, ◌≤◌, ◌<◌, Bool, ◌≡◌, length, get_or, set, take, drop, replicate, min}
use mathlib.Core.List.{List, [], ◌∷◌, ◌++◌}
use Rattle.std.proofs.Math.Bool.{true, false}
use Rattle.std.proofs.Math.Path.{refl, sym}
use Rattle.std.proofs.Common.{ap, ◌∙◌, ⊎_elim, add-zero, zero-add, arith, length-set, drop_of_length-le, drop-cons, set-set, get_or-set_same, get_or-set_other}
use Rattle.std.proofs.Math.Nat.{add_assoc}
use Rattle.std.proofs.Math.Numerals.{add-one}
use Rattle.std.proofs.Math.ListN.{get_or-eq_default}
use Rattle.std.proofs.Math.Seq.{set_out}
use Rattle.std.proofs.Common.{length-drop, le_refl, take_all}
use Rattle.std.proofs.lemmas.List.{length-replicate, replicate-append-replicate}
use borrow.Author.Tests.{eq-eqb, ne_eqb}
use Rattle.base.specs.Choice.{pick, if_lt, if_eq}
use Rattle.base.specs.ChoiceLaws.{lt_yes, lt_no, lt_back, eq_yes, eq_no}
use Rattle.base.specs.Blit.{blit}
use Rattle.base.specs.BlitLaws.{length-blit, blit_comm, blit-append, blit_is, blit-one}
use Rattle.base.specs.Checked.{Checked, ok, refused, and_then, Verdict, fine}
use Rattle.mdf.specs.Chain.{Fragment}
use Rattle.mdf.specs.Walk.{id_size}
use Rattle.mdf.specs.Group.{record_id}
use Rattle.work_words.specs.Words.{fragments_of}
use Rattle.mdf.specs.Records.{most64, ranges_in, any_dv, size_of, is_id_of, equal_ids, Frame, frames, unsorted_frames}
use Rattle.mdf.specs.Count.{of_group, tallies, count_one, count_groups}
use Rattle.records.specs.Ahead.{fragments_from}
use Rattle.records.specs.Several.{size_in, several_in, tallied, Laid, laid, laid_counts}
use Rattle.records.specs.FragmentLaws.{lt_or_le, eq_or_ne, from_start, from_more, from-none}
use Rattle.blocks.specs.AnswerLaws.{refused≢ok, then_fine}

-- ---- ids
module _ (s : List ℕ) (id : ℕ) (gs : List ℕ) (i : ℕ) {b : Bool} (rest : is_id_of s id (drop i gs) ≡ b) where
  pub is_id : {g r : ℕ} → i < length gs → g ≡ get_or gs i 0 → r ≡ record_id s g → r ≡ id → true ≡ b
  unfolding is_id_of
  is_id h e q m =
      let z : record_id s (get_or gs i 0) ≡ id = rw (← e) (sym q ∙ m) in
      rw (drop-cons gs i 0 h, eq-eqb (record_id s (get_or gs i 0)) id z) at rest

  pub is_next : {g r : ℕ} → i < length gs → g ≡ get_or gs i 0 → r ≡ record_id s g → (r ≡ id → ⊥) → is_id_of s id (drop (i + 1) gs) ≡ b
  unfolding is_id_of
  is_next h e q m =
      let z : record_id s (get_or gs i 0) ≡ id → ⊥ = λ w. m (q ∙ rw e w) in
      rw (add-one i) (rw (drop-cons gs i 0 h, ne_eqb (record_id s (get_or gs i 0)) id z) at rest)

  pub is_end : length gs ≤ i → false ≡ b
  unfolding is_id_of
  is_end h = rw (drop_of_length-le gs h) at rest

-- the groups from one on, as a slice gives them
pub rest_all : (gs : List ℕ) (i : ℕ) → take (length gs - i) (drop i gs) ≡ drop i gs
rest_all gs i = take_all (length gs - i) (drop i gs) (simp length-drop (le_refl _))

module _ (s : List ℕ) (gs : List ℕ) (i : ℕ) {b : Bool} (rest : equal_ids s (drop i gs) ≡ b) where
  pub equal_met : {g r : ℕ} {t : Bool} → i < length gs → g ≡ get_or gs i 0 → r ≡ record_id s g → t ≡ is_id_of s r (drop (i + 1) gs) → t ≡ true
      → true ≡ b
  unfolding equal_ids
  equal_met h e q m k =
      let z : is_id_of s (record_id s (get_or gs i 0)) (drop (suc i) gs) ≡ true = rw (← e, ← q, ← add-one i) (sym m ∙ k) in
      rw (drop-cons gs i 0 h, z) at rest

  pub equal_next : {g r : ℕ} {t : Bool} → i < length gs → g ≡ get_or gs i 0 → r ≡ record_id s g → t ≡ is_id_of s r (drop (i + 1) gs) → t ≡ false
      → equal_ids s (drop (i + 1) gs) ≡ b
  unfolding equal_ids
  equal_next h e q m k =
      let z : is_id_of s (record_id s (get_or gs i 0)) (drop (suc i) gs) ≡ false = rw (← e, ← q, ← add-one i) (sym m ∙ k) in
      rw (add-one i) (rw (drop-cons gs i 0 h, z) at rest)

  pub equal_end : length gs ≤ i → false ≡ b
  unfolding equal_ids
  equal_end h = rw (drop_of_length-le gs h) at rest

-- ---- the bytes of all fragments
pub size-start : (ws : List ℕ) → size_of (fragments_from ws 0) ≡ size_of (fragments_of ws)
size-start ws = rw (from_start ws)

module _ (ws : List ℕ) (i n : ℕ) {m : ℕ} (rest : n + size_of (fragments_from ws i) ≡ m) where
  pub size-next : i + 3 ≤ length ws → n + get_or ws (i + 1) 0 + size_of (fragments_from ws (i + 3)) ≡ m
  unfolding size_of
  size-next h = add_assoc n _ _ ∙ (rw (from_more ws i h) at rest)

  pub size_end : length ws < i + 3 → n ≡ m
  unfolding size_of
  size_end h = sym (add-zero n) ∙ (rw (from-none ws i h) at rest)

pub size-over : (d : ℕ) (fs : List Fragment) → most64 < size_of fs → refused 19 d ≡ size_in d fs
unfolding size_in
size-over d fs h = lt_yes _ _ _ _ h refl

pub size_fits : (d : ℕ) (fs : List Fragment) → size_of fs ≤ most64 → fine ≡ size_in d fs
unfolding size_in
size_fits d fs h = lt_no _ _ _ _ h refl

-- ---- the checks in order
chain : {B : Type 0} (a b c d e : Verdict) (x : Checked B)
    → and_then (and_then a (λ _. and_then b (λ _. and_then c (λ _. and_then d (λ _. e))))) (λ _. x)
    ≡ and_then a (λ _. and_then b (λ _. and_then c (λ _. and_then d (λ _. and_then e (λ _. x)))))
chain (refused n p) b c d e x = refl
chain (ok u) (refused n p) c d e x = refl
chain (ok u) (ok v) (refused n p) d e x = refl
chain (ok u) (ok v) (ok w) (refused n p) e x = refl
chain (ok u) (ok v) (ok w) (ok y) e x = refl

module _ (s : List ℕ) (d : ℕ) (gs : List ℕ) (fs : List Fragment) where
  pub several_is : unsorted_frames s d gs fs ≡ and_then (several_in s d gs fs) (λ _. frames s (id_size s d) gs fs)
  unfolding unsorted_frames several_in size_in
  several_is =
      sym (chain (pick (equal_ids s gs) (refused 14 d) fine) (if_eq (id_size s d) 0 (refused 14 d) fine) (pick (any_dv fs) (refused 14 d) fine)
      (ranges_in s fs)
      (if_lt most64 (size_of fs) (refused 19 d) fine) (frames s (id_size s d) gs fs))

  pub several_equal : {a : Bool} → a ≡ equal_ids s gs → a ≡ true → refused 14 d ≡ several_in s d gs fs
  unfolding several_in
  several_equal e q = rw (← e, q)

  module _ {a : Bool} (e : a ≡ equal_ids s gs) (q : a ≡ false) where
    pub several_missing : {n : ℕ} → n ≡ id_size s d → n ≡ 0 → refused 14 d ≡ several_in s d gs fs
    unfolding several_in
    several_missing m z = rw (← e, q, ← eq_yes (id_size s d) 0 (refused 14 d) fine (sym m ∙ z) refl)

    module _ {n : ℕ} (m : n ≡ id_size s d) (z : n ≡ 0 → ⊥) where
      pub several_dv : {b : Bool} → b ≡ any_dv fs → b ≡ true → refused 14 d ≡ several_in s d gs fs
      unfolding several_in
      several_dv f k = rw (← e, q, ← eq_no (id_size s d) 0 (refused 14 d) fine (λ w. z (m ∙ w)) refl, ← f, k)

      pub several_out : {b : Bool} {number place : ℕ} → b ≡ any_dv fs → b ≡ false → ranges_in s fs ≡ refused number place
          → refused number place ≡ several_in s d gs fs
      unfolding several_in
      several_out f k r = rw (← e, q, ← eq_no (id_size s d) 0 (refused 14 d) fine (λ w. z (m ∙ w)) refl, ← f, k, r)

      pub several_size : {b : Bool} {v : Verdict} → b ≡ any_dv fs → b ≡ false → ranges_in s fs ≡ fine → v ≡ size_in d fs
          → v ≡ several_in s d gs fs
      unfolding several_in
      several_size f k r j = rw (← e, q, ← eq_no (id_size s d) 0 (refused 14 d) fine (λ w. z (m ∙ w)) refl, ← f, k, r) j

-- ---- words laid over
pub blit-out : (bs : List ℕ) (i : ℕ) (l : List ℕ) → length l ≤ i → blit i bs l ≡ l
unfolding blit
blit-out [] i l h = refl
blit-out (b ∷ bs) i l h = rw (set_out l i b h) (blit-out bs (suc i) l (omega arith))

-- a store among the words laid is a store in what is laid
blit-set : (xs : List ℕ) (j i v : ℕ) (w : List ℕ) → i < length xs → blit j (set xs i v) w ≡ set (blit j xs w) (j + i) v
unfolding blit
blit-set [] j i v w h = absurd (omega arith)
blit-set (x ∷ xs) j zero v w h =
    rw add-zero (sym (sym (blit-one j v (blit (suc j) xs (set w j x)))
    ∙ blit_comm (v ∷ []) j (suc j) xs (set w j x) (omega arith)
    ∙ rw (blit-one j v (set w j x), set-set w j x v)))
blit-set (x ∷ xs) j (suc i) v w h = blit-set xs (suc j) i v (set w j x) (omega arith) ∙ (let e : suc j + i ≡ j + suc i = omega arith in rw e)

get_d_before : (xs : List ℕ) (j i : ℕ) (w : List ℕ) → i < j → get_or (blit j xs w) i 0 ≡ get_or w i 0
unfolding blit
get_d_before [] j i w h = refl
get_d_before (x ∷ xs) j i w h = get_d_before xs (suc j) i (set w j x) (omega arith) ∙ get_or-set_other w j i x 0 (λ e. omega arith)

pub get_d_blit : (xs : List ℕ) (j i : ℕ) (w : List ℕ) → i < length xs → j + i < length w → get_or (blit j xs w) (j + i) 0 ≡ get_or xs i 0
unfolding blit
get_d_blit [] j i w h k = absurd (omega arith)
get_d_blit (x ∷ xs) j zero w h k =
    rw add-zero (get_d_before xs (suc j) j (set w j x) (omega arith) ∙ get_or-set_same w j x 0 (omega arith))
get_d_blit (x ∷ xs) j (suc i) w h k =
    let e : j + suc i ≡ suc j + i = omega arith in
    rw e (get_d_blit xs (suc j) i (set w j x) (omega arith) (rw length-set (omega arith)))

-- what is laid over as many words hides them
pub blit-blit : (xs ys : List ℕ) (i : ℕ) (w : List ℕ) → length xs ≡ length ys → blit i ys (blit i xs w) ≡ blit i ys w
unfolding blit
blit-blit [] [] i w h = refl
blit-blit [] (y ∷ ys) i w h = absurd (omega arith)
blit-blit (x ∷ xs) [] i w h = absurd (omega arith)
blit-blit (x ∷ xs) (y ∷ ys) i w h =
    rw (
      ← blit-one i y (blit (suc i) xs (set w i x)),
      blit_comm (y ∷ []) i (suc i) xs (set w i x) (omega arith),
      blit-one i y (set w i x),
      set-set w i x y,
    )
    (blit-blit xs ys (suc i) (set w i y) (omega arith))

-- ---- counts of groups
pub length-tallies : (n k : ℕ) (rs : List Frame) → length (tallies n k rs) ≡ n
unfolding tallies
length-tallies zero k rs = refl
length-tallies (suc n) k rs = ap suc (length-tallies n (k + 1) rs)

pub tallies-none : (n k : ℕ) → tallies n k [] ≡ replicate n 0
unfolding tallies of_group
tallies-none zero k = refl
tallies-none (suc n) k = rw (tallies-none n (k + 1))

of-more : (k : ℕ) (rs : List Frame) (r : Frame) → of_group k (rs ++ (r ∷ [])) ≡ of_group k rs + if_eq r.group k 1 0
unfolding of_group
of-more k [] r = add-zero _ ∙ sym (zero-add _)
of-more k (q ∷ rs) r = rw (of-more k rs r) (sym (add_assoc _ _ _))

one_same : (g k : ℕ) → g ≡ k → ◌≡◌ {A = ℕ} (if_eq g k 1 0) 1
one_same g k e = sym (eq_yes _ _ _ _ e refl)

one-other : (g k : ℕ) → (g ≡ k → ⊥) → ◌≡◌ {A = ℕ} (if_eq g k 1 0) 0
one-other g k e = sym (eq_no _ _ _ _ e refl)

one-few : (g k : ℕ) → if_eq g k 1 0 ≤ 1
one-few g k =
    ⊎_elim (λ h. let e = one-other g k (λ z. omega arith) in omega arith)
    (λ h. ⊎_elim (λ l. let e = one-other g k (λ z. omega arith) in omega arith) (λ l. let e = one_same g k (omega arith) in omega arith)
    (lt_or_le k g))
    (lt_or_le g k)

of-few : (k : ℕ) (rs : List Frame) → of_group k rs ≤ length rs
unfolding of_group
of-few k [] = omega arith
of-few k (r ∷ rs) = let i = of-few k rs in let j = one-few r.group k in omega arith

get_d_tallies : (n k i : ℕ) (rs : List Frame) → i < n → get_or (tallies n k rs) i 0 ≡ of_group (k + i) rs
unfolding tallies
get_d_tallies zero k i rs h = absurd (omega arith)
get_d_tallies (suc n) k zero rs h = rw add-zero
get_d_tallies (suc n) k (suc i) rs h = get_d_tallies n (k + 1) i rs (omega arith) ∙ (let e : k + 1 + i ≡ k + suc i = omega arith in rw e)

tallies-other : (n k : ℕ) (rs : List Frame) (r : Frame) → r.group < k → tallies n k (rs ++ (r ∷ [])) ≡ tallies n k rs
unfolding tallies
tallies-other zero k rs r h = refl
tallies-other (suc n) k rs r h =
    rw (of-more k rs r, one-other r.group k (λ e. omega arith), add-zero, tallies-other n (k + 1) rs r (omega arith))

tallies-more : (n k i : ℕ) (rs : List Frame) (r : Frame) → r.group ≡ k + i → i < n
    → tallies n k (rs ++ (r ∷ [])) ≡ set (tallies n k rs) i (of_group r.group rs + 1)
unfolding tallies
tallies-more zero k i rs r e h = absurd (omega arith)
tallies-more (suc n) k zero rs r e h =
    let q : r.group ≡ k = e ∙ add-zero k in
    rw (of-more k rs r, one_same r.group k q, tallies-other n (k + 1) rs r (omega arith), q)
tallies-more (suc n) k (suc i) rs r e h =
    let q : r.group ≡ k + 1 + i = omega arith in
    rw (of-more k rs r, one-other r.group k (λ z. omega arith), add-zero, tallies-more n (k + 1) i rs r q (omega arith))

-- a record more
module _ (n : ℕ) (rs : List Frame) (r : Frame) (w₀ : List ℕ) {w : List ℕ} (is : w ≡ blit 0 (tallies n 0 rs) w₀) (h : r.group < n) where
  more : set w r.group (of_group r.group rs + 1) ≡ blit 0 (tallies n 0 (rs ++ (r ∷ []))) w₀
  more =
      let g : ℕ = r.group in
      let z : 0 + g ≡ g = zero-add g in
      let l : g < length (tallies n 0 rs) = rw (length-tallies n 0 rs) h in
      rw (tallies-more n 0 g rs r (sym z) h, blit-set (tallies n 0 rs) 0 g (of_group g rs + 1) w₀ l, z, is)

  at-group : r.group < length w → get_or w r.group 0 ≡ of_group r.group rs
  at-group k =
      let g : ℕ = r.group in
      let m : length w ≡ length w₀ = ap length is ∙ length-blit 0 (tallies n 0 rs) w₀ in
      let z : 0 + g ≡ g = zero-add g in
      let l : g < length (tallies n 0 rs) = rw (length-tallies n 0 rs) h in
      let a : get_or (blit 0 (tallies n 0 rs) w₀) (0 + g) 0 ≡ get_or (tallies n 0 rs) g 0 = get_d_blit (tallies n 0 rs) 0 g w₀ l (omega arith) in
      let b : get_or (tallies n 0 rs) g 0 ≡ of_group (0 + g) rs = get_d_tallies n 0 g rs h in
      rw is (rw z at (a ∙ b))

  pub tallied-up : {v : List ℕ} → v ≡ set w r.group (get_or w r.group 0 + 1) → v ≡ blit 0 (tallies n 0 (rs ++ (r ∷ []))) w₀
  tallied-up e =
      ⊎_elim (λ k. e ∙ rw (at-group k) more)
      (λ k. e ∙ set_out w r.group _ k ∙ sym (set_out w r.group (of_group r.group rs + 1) k) ∙ more)
      (lt_or_le r.group (length w))

  pub tallied_low : get_or w r.group 0 ≤ length rs
  tallied_low =
      let f = of-few r.group rs in
      ⊎_elim (λ k. let a = at-group k in omega arith)
      (λ k. let a : get_or w r.group 0 ≡ 0 = get_or-eq_default w 0 k in omega arith)
      (lt_or_le r.group (length w))

-- ---- words set to zero
abbrev zeros : ℕ → List ℕ
zeros n = replicate n 0

zero_fits : (k : ℕ) (d : List ℕ) → k ≤ length d → zeros k ++ drop k d ≡ blit 0 (zeros k) d
zero_fits k d h =
    let m : length (zeros k) ≡ k = length-replicate k 0 in
    let e : 0 + length (zeros k) ≡ k = zero-add _ ∙ m in
    sym (rw e at (blit_is 0 (zeros k) d (omega arith)))

zero_over : (n : ℕ) (d : List ℕ) → length d ≤ n → blit 0 (zeros (length d)) d ≡ blit 0 (zeros n) d
zero_over n d h =
    let r : ℕ = n - length d in
    let m : length d + r ≡ n = omega arith in
    let e : zeros n ≡ zeros (length d) ++ zeros r = sym (rw m at (replicate-append-replicate {A = ℕ} (length d) r 0)) in
    let k : length (zeros (length d)) ≡ length d = length-replicate (length d) 0 in
    let l : length (blit 0 (zeros (length d)) d) ≡ length d = length-blit 0 (zeros (length d)) d in
    rw (e, blit-append) (sym (blit-out (zeros r) (0 + length (zeros (length d))) (blit 0 (zeros (length d)) d) (omega arith)))

pub zero_some : (n k : ℕ) (d : List ℕ) → k ≡ min n (length d) → replicate k 0 ++ drop k d ≡ blit 0 (replicate n 0) d
zero_some n k d e =
    ⊎_elim (λ (h : n < length d). let q : k ≡ n = omega arith in rw q (zero_fits n d (omega arith)))
    (λ (h : length d ≤ n). let q : k ≡ length d = omega arith in rw q (zero_fits (length d) d (omega arith) ∙ zero_over n d h))
    (lt_or_le n (length d))

pub up_none : (w : List ℕ) (k v : ℕ) → length w ≤ k → w ≡ set w k v
up_none w k v h = sym (set_out w k v h)

-- ---- the counts of a DG
module _ (s : List ℕ) (d : ℕ) (fs : List Fragment) where
  pub groups_none : (gs w : List ℕ) → length gs ≡ 0 → laid fine w ≡ laid_counts (count_groups s d gs fs) (length gs) w
  unfolding count_groups blit
  groups_none [] w e = refl
  groups_none (g ∷ gs) w e = absurd (omega arith)

  groups_one : (gs : List ℕ) (g : ℕ) → g ≡ get_or gs 0 0 → length gs ≡ 1 → count_groups s d gs fs ≡ count_one s d g fs
  unfolding count_groups
  groups_one [] g e h = absurd (omega arith)
  groups_one (k ∷ []) g e h = rw e
  groups_one (k ∷ j ∷ gs) g e h = absurd (omega arith)

  pub groups_several : (gs : List ℕ) → (length gs ≡ 0 → ⊥) → (length gs ≡ 1 → ⊥)
      → count_groups s d gs fs ≡ tallied (length gs) (unsorted_frames s d gs fs)
  unfolding count_groups
  groups_several [] h k = absurd (h refl)
  groups_several (g ∷ []) h k = absurd (k refl)
  groups_several (g ∷ j ∷ gs) h k = refl

  pub alone_refused : (gs w : List ℕ) {g n p : ℕ} {v : List ℕ} → g ≡ get_or gs 0 0 → length gs ≡ 1 → count_one s d g fs ≡ refused n p
      → v ≡ set w 0 0
      → laid (refused n p) v ≡ laid_counts (count_groups s d gs fs) (length gs) w
  unfolding blit
  alone_refused gs w {g} e h q k = rw (groups_one gs g e h, q, h, k)

  pub alone-counted : (gs w : List ℕ) {g n : ℕ} {v : List ℕ} → g ≡ get_or gs 0 0 → length gs ≡ 1 → count_one s d g fs ≡ ok (n ∷ [])
      → v ≡ set w 0 n
      → laid fine v ≡ laid_counts (count_groups s d gs fs) (length gs) w
  unfolding blit
  alone-counted gs w {g} e h q k = rw (groups_one gs g e h, q, k)

  pub groups_many : (gs w : List ℕ) {x : Laid} → (length gs ≡ 0 → ⊥) → (length gs ≡ 1 → ⊥)
      → x ≡ laid_counts (tallied (length gs) (unsorted_frames s d gs fs)) (length gs) w → x ≡ laid_counts (count_groups s d gs fs) (length gs) w
  groups_many gs w h k e = rw (groups_several gs h k) e

-- ---- what passed the checks
pub record Passed (s : List ℕ) (d : ℕ) (gs : List ℕ) (fs : List Fragment) : Type 0 where
  pub apart : equal_ids s gs ≡ false
  pub id : 0 < id_size s d
  pub ranges : ranges_in s fs ≡ fine
  pub size : size_of fs ≤ most64

no_refusal : (b : Bool) (d : ℕ) → pick b (refused 14 d) fine ≡ fine → b ≡ false
no_refusal true d e = absurd (refused≢ok e)
no_refusal false d e = refl

some_id : (n d : ℕ) → if_eq n 0 (refused 14 d) fine ≡ fine → 0 < n
some_id n d e = ⊎_elim (λ q. absurd (refused≢ok (eq_yes _ _ _ _ q refl ∙ e))) (λ q. omega arith) (eq_or_ne n 0)

module _ (s : List ℕ) (d : ℕ) (gs : List ℕ) (fs : List Fragment) where
  pub several_passed : several_in s d gs fs ≡ fine → Passed s d gs fs
  unfolding several_in size_in
  several_passed e =
      let a = then_fine (pick (equal_ids s gs) (refused 14 d) fine) _ e in
      let b = then_fine (if_eq (id_size s d) 0 (refused 14 d) fine) _ a.1 in
      let c = then_fine (pick (any_dv fs) (refused 14 d) fine) _ b.1 in
      let r = then_fine (ranges_in s fs) _ c.1 in
      record { apart = no_refusal (equal_ids s gs) d a.0; id = some_id (id_size s d) d b.0; ranges = r.0; size = (lt_back _ _ _ _ r.1 refused≢ok).0 }

  pub several_refused : (w : List ℕ) {n p : ℕ} {v : List ℕ} → several_in s d gs fs ≡ refused n p → v ≡ blit 0 (replicate (length gs) 0) w
      → laid (refused n p) v ≡ laid_counts (tallied (length gs) (unsorted_frames s d gs fs)) (length gs) w
  several_refused w e q = rw (several_is s d gs fs, e, q)

  pub several_read : (w : List ℕ) (n : ℕ) {x : Laid} → several_in s d gs fs ≡ fine → n ≡ id_size s d
      → x ≡ laid_counts (tallied (length gs) (frames s n gs fs)) (length gs) w
      → x ≡ laid_counts (tallied (length gs) (unsorted_frames s d gs fs)) (length gs) w
  several_read w n e q k = rw (several_is s d gs fs, e, ← q) k
