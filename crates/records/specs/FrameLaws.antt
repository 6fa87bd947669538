-- The parts of a step: numbers from bytes, the group with an id, a record past its id.
use Rattle.std.specs.Prelude.{ℕ, zero, suc, ◌+◌, ◌*◌, ◌-◌, ◌^◌, ◌≤◌, ◌<◌, List, [], ◌∷◌, Bool, true, false, ◌≡◌, length, get_or, drop}
use Rattle.std.proofs.Math.Path.{refl}
use Rattle.std.proofs.Common.{sym, ap, ◌∙◌, ⊎_elim, add-zero, zero-add, suc-add, pow-suc, add-one, length-drop, drop-cons, get_or-drop, drop_of_length-le}
use native.Mathlib.Omega.{arith}
use Rattle.base.specs.Choice.{pick, if_le, if_eq}
use Rattle.base.specs.ChoiceLaws.{lt_yes, lt_no, lt_first, lt_back, le_yes, le_no, eq_yes, eq_no}
use Rattle.base.specs.Field.{le_at}
use Rattle.mdf.specs.Block.{data_at}
use Rattle.mdf.specs.Chain.{Fragment}
use Rattle.mdf.specs.Group.{record_id, samples, inval_bytes, is_storage}
use Rattle.mdf.specs.Records.{most64, joined, Known, known, unknown, on_known, with_id, Framed, framed, broken, of_bytes, frame_of, frame_at}
use Rattle.records.specs.Ahead.{ahead, short, onto, skip, Spot, nowhere, spot, spot_past, stepped, stuck, past, on_frame, step_at, Reached, reached, halted, up_to, on_framed_to, step_to}
use Rattle.records.specs.Framing.{none, value, numeral, body_of, on_numeral, body_to}
use Rattle.records.specs.AheadLaws.{Counts, ahead-counts, le_or_lt, Landed, landed, nowhere-short}

-- ---- the group with an id
ids_more : (s : List ℕ) (id k : ℕ) (gs : List ℕ) (i : ℕ) → i < length gs
    → with_id s id k (drop i gs) ≡ if_eq (record_id s (get_or gs i 0)) id (known k (get_or gs i 0)) (with_id s id (k + 1) (drop (i + 1) gs))
unfolding with_id
ids_more s id k gs i h = rw (drop-cons gs i 0 h, add-one i)

module _ (s : List ℕ) (id : ℕ) (gs : List ℕ) (i : ℕ) {v : Known} (rest : with_id s id i (drop i gs) ≡ v) where
  pub id_met : {g r : ℕ} → i < length gs → g ≡ get_or gs i 0 → r ≡ record_id s g → r ≡ id → known i g ≡ v
  id_met h e q m = rw e (eq_yes _ _ _ _ ((rw e at (sym q)) ∙ m) refl ∙ sym (ids_more s id i gs i h) ∙ rest)

  pub id_next : {g r : ℕ} → i < length gs → g ≡ get_or gs i 0 → r ≡ record_id s g → (r ≡ id → ⊥) → with_id s id (i + 1) (drop (i + 1) gs) ≡ v
  id_next h e q m = eq_no _ _ _ _ (λ z. m (q ∙ rw e z)) refl ∙ sym (ids_more s id i gs i h) ∙ rest

  pub id_end : length gs ≤ i → unknown ≡ v
  unfolding with_id
  id_end h = rw (drop_of_length-le gs h) at rest

-- ---- numbers from bytes, the highest first
step_down : (d : List ℕ) (n i : ℕ) → 0 < i → i ≤ n → le_at (n - (i - 1)) d (i - 1) ≡ get_or d (i - 1) 0 + 256 * le_at (n - i) d i
unfolding le_at
step_down d n zero z h = absurd (omega arith)
step_down d n (suc i) z h =
    let a : n - (suc i - 1) ≡ suc (n - suc i) = omega arith in
    let b : suc i - 1 ≡ i = omega arith in
    let e : i + 1 ≡ suc i = omega arith in
    rw (a, b, e)

-- fewer bytes, a smaller number
grows : (d : List ℕ) (j at k : ℕ) → le_at k d (at + j) ≤ le_at (j + k) d at
unfolding le_at
grows d zero at k = rw (add-zero, zero-add) (omega arith)
grows d (suc j) at k =
    let i = grows d j (at + 1) k in
    let a : at + suc j ≡ at + 1 + j = omega arith in
    rw (a, suc-add) (omega arith)

module _ (d : List ℕ) (n i : ℕ) {x : ℕ} (is : x ≡ le_at (n - i) d i) (h : i ≤ n) where
  pub number_more : {b : ℕ} → 0 < i → b ≡ get_or d (i - 1) 0 → x * 256 + b ≡ le_at (n - (i - 1)) d (i - 1)
  number_more z e = let a = step_down d n i z h in omega arith

  pub number_big : 0 < i → 72057594037927935 < x → none ≡ numeral (le_at n d 0)
  unfolding numeral
  number_big z l =
      let a = step_down d n i z h in
      let g : le_at (n - (i - 1)) d (0 + (i - 1)) ≤ le_at (i - 1 + (n - (i - 1))) d 0 = grows d (i - 1) 0 (n - (i - 1)) in
      let e : i - 1 + (n - (i - 1)) ≡ n = omega arith in
      let f : le_at (n - (i - 1)) d (i - 1) ≤ le_at n d 0 = rw (zero-add (i - 1), e) at g in
      lt_yes _ _ _ _ (omega arith) refl

  pub number_done : i ≡ 0 → x ≤ most64 → value x ≡ numeral (le_at n d 0)
  unfolding numeral
  number_done z l =
      let a : n - 0 ≡ n = omega arith in
      let e : x ≡ le_at n d 0 = rw (z, a) at is in
      rw (← e) (lt_no _ _ _ _ l refl)

pub number-start : (d : List ℕ) (n : ℕ) → 0 ≡ le_at (n - n) d n
unfolding le_at
number-start d n = let a : n - n ≡ 0 = omega arith in rw a

pub four_bytes : (d : List ℕ) {a b c e : ℕ} → a ≡ get_or d 0 0 → b ≡ get_or d 1 0 → c ≡ get_or d 2 0 → e ≡ get_or d 3 0
    → a + 256 * (b + 256 * (c + 256 * e)) ≡ le_at 4 d 0
unfolding le_at
four_bytes d p q r t = rw (p, q, r, t) (omega arith)

-- ---- small fields of an image of bytes
pub field_small : (s : List ℕ) → ((i : ℕ) → get_or s i 0 < 256) → (n at : ℕ) → le_at n s at < 256 ^ n
unfolding le_at
field_small s b zero at = omega arith
field_small s b (suc n) at = let i = field_small s b n (at + 1) in let j = b at in rw pow-suc (omega arith)

pub id_small : (s : List ℕ) → ((i : ℕ) → get_or s i 0 < 256) → (g : ℕ) → record_id s g ≤ most64
unfolding record_id
id_small s b g = let h : le_at 8 s (data_at s g) < 18446744073709551616 = field_small s b 8 (data_at s g) in omega arith

pub id_unknown : (s : List ℕ) → ((i : ℕ) → get_or s i 0 < 256) → (id k : ℕ) (gs : List ℕ) → most64 < id → with_id s id k gs ≡ unknown
unfolding with_id
id_unknown s b id k [] h = refl
id_unknown s b id k (g ∷ gs) h =
    let m = id_small s b g in
    sym (eq_no _ _ _ _ (λ e. omega arith) refl) ∙ id_unknown s b id (k + 1) gs h

-- ---- a number that was read
value≢none : {x : ℕ} → value x ≡ none → ⊥
value≢none e = let z : ◌≡◌ {A = ℕ} 0 1 = cc in omega arith

none≢value : {x : ℕ} → none ≡ value x → ⊥
none≢value e = let z : ◌≡◌ {A = ℕ} 0 1 = cc in omega arith

same_value : {x y : ℕ} → value x ≡ value y → x ≡ y
same_value e = cc

numeral-none : (v : ℕ) → numeral v ≡ none → most64 < v
unfolding numeral
numeral-none v e = (lt_first _ _ _ _ e value≢none).0

numeral_value : (v : ℕ) {x : ℕ} → numeral v ≡ value x → v ≡ x
unfolding numeral
numeral_value v e = same_value (lt_back _ _ _ _ e none≢value).1

-- ---- a record past its id
module _ (s : List ℕ) (g : ℕ) where
  pub body-plain : (d : List ℕ) {b : Bool} {x y : ℕ} → b ≡ is_storage s g → b ≡ false → x ≡ samples s g → y ≡ inval_bytes s g
      → value (x + y) ≡ body_of s d g
  unfolding body_of
  body-plain d e q m n = rw (← e, q, m, n)

  pub body-short : (fs : List Fragment) {b : Bool} → Counts s fs → b ≡ is_storage s g → b ≡ true → skip 4 fs ≡ short
      → none ≡ body_of s (joined s fs) g
  unfolding body_of
  body-short fs t e q k = rw (← e, q) (le_no _ _ _ _ (t.few 4 k) refl)

  pub body-length : (fs : List Fragment) {b : Bool} {x : ℕ} {hs : List Fragment} → Counts s fs → b ≡ is_storage s g → b ≡ true
      → skip 4 fs ≡ onto hs
      → x ≡ le_at 4 (joined s fs) 0 → value (4 + x) ≡ body_of s (joined s fs) g
  unfolding body_of
  body-length fs t e q k m = rw (← e, q, m) (le_yes _ _ _ _ (t.long 4 k) refl)

module _ (s : List ℕ) (k g : ℕ) (fs : List Fragment) (at : ℕ) where
  pub record_none : body_of s (joined s fs) g ≡ none → halted ≡ body_to s k g fs at
  unfolding body_to
  record_none e = rw e

  pub record_short : {m : ℕ} → body_of s (joined s fs) g ≡ value m → spot_past m fs at ≡ nowhere → halted ≡ body_to s k g fs at
  unfolding body_to
  record_short e q = rw (e, q)

  pub record_onto : {m a p l : ℕ} → body_of s (joined s fs) g ≡ value m → spot_past m fs at ≡ spot a p l → reached k m a p l ≡ body_to s k g fs at
  unfolding body_to
  record_onto e q = rw (e, q)

-- ---- the step
le-drop : (m n : ℕ) (d : List ℕ) (at : ℕ) → le_at m (drop n d) at ≡ le_at m d (n + at)
unfolding le_at
le-drop zero n d at = refl
le-drop (suc m) n d at = rw (get_or-drop n d at 0, le-drop m n d (at + 1)) (let e : n + (at + 1) ≡ n + at + 1 = omega arith in rw e)

module _ (s : List ℕ) (n : ℕ) (gs ws : List ℕ) (at p l : ℕ) where
  abbrev fs : List Fragment
  fs = ahead s ws at p l

  t : Counts s fs
  t = ahead-counts s ws at p l

  pub step-short : spot_past n fs at ≡ nowhere → halted ≡ step_to s n gs fs at
  unfolding step_to frame_at
  step-short e = rw (← le_no n (length (joined s fs))
      (on_known (with_id s (le_at n (joined s fs) 0) 0 gs) (λ k g. frame_of s (joined s fs) n k g)) broken
      (t.few n (nowhere-short fs n at e)) refl)

  module _ {a q z : ℕ} (e : spot_past n fs at ≡ spot a q z) where
    abbrev hs : List Fragment
    hs = ahead s ws a q z

    land : Landed s ws at p l n a q z
    land = landed s ws at p l n e

    opened : step_to s n gs fs at
        ≡ on_framed_to (on_known (with_id s (le_at n (joined s fs) 0) 0 gs) (λ k g. frame_of s (joined s fs) n k g)) n fs at
    unfolding step_to frame_at
    opened = rw (← le_yes n (length (joined s fs)) (on_known (with_id s (le_at n (joined s fs) 0) 0 gs)
        (λ k g. frame_of s (joined s fs) n k g)) broken (t.long n land.skips) refl)

    pub step_big : ((i : ℕ) → get_or s i 0 < 256) → numeral (le_at n (joined s fs) 0) ≡ none → halted ≡ step_to s n gs fs at
    step_big b u = rw (opened, id_unknown s b (le_at n (joined s fs) 0) 0 gs (numeral-none _ u))

    pub step_unknown : {x : ℕ} → numeral (le_at n (joined s fs) 0) ≡ value x → with_id s x 0 gs ≡ unknown → halted ≡ step_to s n gs fs at
    step_unknown u k = rw (opened, numeral_value _ u, k)

    -- a record of m bytes past the id, if there are so many
    sized : (k m : ℕ) → up_to (spot_past m hs a) k m ≡ on_framed_to (of_bytes (joined s fs) n k m) n fs at
    unfolding of_bytes
    sized k m = rw (land.on m) (go (spot_past (n + m) fs at) refl)
      where
        go : (v : Spot) → spot_past (n + m) fs at ≡ v → up_to (spot_past (n + m) fs at) k m ≡ on_framed_to (of_bytes (joined s fs) n k m) n fs at
        go nowhere u = rw (u, ← le_no (n + m) (length (joined s fs)) (framed _) broken (t.few (n + m) (nowhere-short fs (n + m) at u)) refl)
        go (spot b x y) u =
            let i : n + m - n ≡ m = omega arith in
            rw (← le_yes (n + m) (length (joined s fs)) (framed _) broken (t.long (n + m) (landed s ws at p l (n + m) u).skips) refl, i)

    stored : (k : ℕ) → on_numeral (if_le 4 (length (joined s hs)) (value (4 + le_at 4 (joined s hs) 0)) none) (λ m. up_to (spot_past m hs a) k m)
        ≡ on_framed_to (if_le (n + 4) (length (joined s fs)) (of_bytes (joined s fs) n k (4 + le_at 4 (joined s fs) n)) broken) n fs at
    stored k =
        let d : joined s hs ≡ drop n (joined s fs) = t.drops n land.skips in
        let i : length (joined s hs) ≡ length (joined s fs) - n = ap length d ∙ length-drop n (joined s fs) in
        let h = t.long n land.skips in
        let f : le_at 4 (joined s hs) 0 ≡ le_at 4 (joined s fs) n = rw d (le-drop 4 n (joined s fs) 0 ∙ rw add-zero) in
        ⊎_elim
        (λ b. rw (
          ← le_yes 4 (length (joined s hs)) (value (4 + le_at 4 (joined s hs) 0)) none (omega arith) refl,
          f,
          ← le_yes (n + 4) (length (joined s fs)) (of_bytes (joined s fs) n k (4 + le_at 4 (joined s fs) n)) broken b refl,
        )
        (sized k (4 + le_at 4 (joined s fs) n)))
        (λ b. rw (
          ← le_no 4 (length (joined s hs)) (value (4 + le_at 4 (joined s hs) 0)) none (omega arith) refl,
          ← le_no (n + 4) (length (joined s fs)) (of_bytes (joined s fs) n k (4 + le_at 4 (joined s fs) n)) broken b refl,
        ))
        (le_or_lt (n + 4) (length (joined s fs)))

    by_kind : (k g : ℕ) (b : Bool)
        → on_numeral (pick b (if_le 4 (length (joined s hs)) (value (4 + le_at 4 (joined s hs) 0)) none)
        (value (samples s g + inval_bytes s g))) (λ m. up_to (spot_past m hs a) k m)
        ≡ on_framed_to (pick b (if_le (n + 4) (length (joined s fs)) (of_bytes (joined s fs) n k (4 + le_at 4 (joined s fs) n)) broken)
        (of_bytes (joined s fs) n k (samples s g + inval_bytes s g))) n fs at
    by_kind k g true = stored k
    by_kind k g false = sized k (samples s g + inval_bytes s g)

    pub step-body : {x k g : ℕ} {r : Reached} → numeral (le_at n (joined s fs) 0) ≡ value x → with_id s x 0 gs ≡ known k g
        → r ≡ body_to s k g hs a
        → r ≡ step_to s n gs fs at
    unfolding body_to body_of frame_of
    step-body {x} {k} {g} u v j = rw (opened, numeral_value _ u, v) (j ∙ by_kind k g (is_storage s g))

-- ---- a step by numbers is a step
halted≢reached : {k m a q z : ℕ} → halted ≡ reached k m a q z → ⊥
halted≢reached e = let z : ◌≡◌ {A = ℕ} 0 1 = cc in omega arith

spot_of : {g m k i a q z b x y : ℕ} → reached g m b x y ≡ reached k i a q z → spot b x y ≡ spot a q z
spot_of e = cc

group_of : {g m k i a q z b x y : ℕ} → reached g m b x y ≡ reached k i a q z → g ≡ k
group_of e = cc

bytes_of : {g m k i a q z b x y : ℕ} → reached g m b x y ≡ reached k i a q z → m ≡ i
bytes_of e = cc

pub halted_stuck : (s : List ℕ) (n : ℕ) (gs : List ℕ) (fs : List Fragment) (at : ℕ) → step_to s n gs fs at ≡ halted → step_at s n gs fs ≡ stuck
unfolding step_to step_at
halted_stuck s n gs fs at e = go (frame_at s n gs (joined s fs)) e
  where
    by_spot : (v : Spot) (m g i : ℕ) → spot_past m fs at ≡ v → up_to v g i ≡ halted → skip m fs ≡ short
    by_spot nowhere m g i q u = nowhere-short fs m at q
    by_spot (spot a x z) m g i q u = absurd (halted≢reached (sym u))

    go : (v : Framed) → on_framed_to v n fs at ≡ halted → on_frame v n fs ≡ stuck
    go broken u = refl
    go (framed r) u = rw (by_spot (spot_past r.size fs at) r.size r.group (r.size - n) refl u)

pub reached_stepped : (s : List ℕ) (n : ℕ) (gs ws : List ℕ) (at p l : ℕ) {k m a q z : ℕ}
    → step_to s n gs (ahead s ws at p l) at ≡ reached k m a q z → step_at s n gs (ahead s ws at p l) ≡ stepped k m (ahead s ws a q z)
unfolding step_to step_at
reached_stepped s n gs ws at p l {k} {m} {a} {q} {z} e = go (frame_at s n gs (joined s (ahead s ws at p l))) e
  where
    by_spot : (v : Spot) (i g j : ℕ) → spot_past i (ahead s ws at p l) at ≡ v → up_to v g j ≡ reached k m a q z
        → past (skip i (ahead s ws at p l)) g j ≡ stepped k m (ahead s ws a q z)
    by_spot nowhere i g j w u = absurd (halted≢reached u)
    by_spot (spot b x y) i g j w u = rw ((landed s ws at p l i (w ∙ spot_of u)).skips, group_of u, bytes_of u)

    go : (v : Framed) → on_framed_to v n (ahead s ws at p l) at ≡ reached k m a q z
        → on_frame v n (ahead s ws at p l) ≡ stepped k m (ahead s ws a q z)
    go broken u = absurd (halted≢reached u)
    go (framed r) u = by_spot (spot_past r.size (ahead s ws at p l) at) r.size r.group (r.size - n) refl u
