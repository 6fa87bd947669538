-- The records of several groups, one after the other: what is left of them gives what the whole gives.
use Rattle.std.specs.Prelude.{ℕ, zero, suc, ◌+◌, ◌-◌, ◌≤◌, ◌<◌, List, [], ◌∷◌, ◌++◌, Bool, true, false, ◌≡◌, length, get_or, set, drop, replicate}
use Rattle.std.proofs.Math.Path.{refl}
use Rattle.std.proofs.Common.{sym, ap, ◌∙◌, ⊎_elim, add-zero, zero-add, add_assoc, sub-one, length-append, length-drop, length-set}
use native.Mathlib.Omega.{arith}
use Rattle.std.proofs.lemmas.List.{length-replicate}
use Rattle.base.specs.Choice.{pick, if_le, if_eq}
use Rattle.base.specs.ChoiceLaws.{lt_yes, lt_no, le-first, eq_yes, eq_no}
use Rattle.base.specs.Blit.{part, blit}
use Rattle.base.specs.Field.{le_at}
use Rattle.base.specs.Checked.{ok, refused, fine}
use Rattle.mdf.specs.Chain.{Fragment}
use Rattle.mdf.specs.Group.{record_id, samples, inval_bytes, is_storage}
use Rattle.work_words.specs.Words.{fragments_of}
use Rattle.mdf.specs.Records.{most64, ranges_in, joined, place_of, size_of, Frame, Framed, framed, broken, Known, known, unknown, with_id, on_known, of_bytes, frame_of, frame_at, on_framed, frames_from, frames}
use Rattle.mdf.specs.Count.{tallies}
use Rattle.records.specs.Ahead.{fragments_from, clipped, ahead, Skipped, short, onto, skip, stepped, stuck, past, on_frame, step_at}
use Rattle.records.specs.Several.{tallied, laid, laid_counts}
use Rattle.records.specs.FragmentLaws.{eq_or_ne, from_start, from_more, from-none}
use Rattle.records.specs.AheadLaws.{Counts, ahead-counts, joined-ahead, part_low, part-all, place_clipped, skip_place, skip_fewer}
use Rattle.records.specs.SeveralLaws.{blit-blit, length-tallies, tallies-none, tallied-up, tallied_low}

-- ---- a frame
-- what a frame has: its group is one of them, its size has the id and lies in what is left
pub record Fits (n k m : ℕ) (r : Frame) : Type 0 where
  pub group_in_lem : r.group < k
  pub id_in : n ≤ r.size
  pub size_in_lem : r.size ≤ m

broken≢framed : {r : Frame} → broken ≡ framed r → ⊥
broken≢framed e = let z : ◌≡◌ {A = ℕ} 0 1 = cc in omega arith

same_frame : {q r : Frame} → framed q ≡ framed r → q ≡ r
same_frame e = cc

unknown≢known : {k g : ℕ} → unknown ≡ known k g → ⊥
unknown≢known e = let z : ◌≡◌ {A = ℕ} 0 1 = cc in omega arith

same_number : {j k g h : ℕ} → known j h ≡ known k g → j ≡ k
same_number e = cc

known_in : (s : List ℕ) (id j : ℕ) (gs : List ℕ) {k g : ℕ} → with_id s id j gs ≡ known k g → k < j + length gs
unfolding with_id
known_in s id j [] e = absurd (unknown≢known e)
known_in s id j (h ∷ gs) e =
    ⊎_elim (λ q. let a = same_number (eq_yes _ _ _ _ q refl ∙ e) in omega arith)
    (λ q. let a = known_in s id (j + 1) gs (eq_no _ _ _ _ q refl ∙ e) in omega arith)
    (eq_or_ne (record_id s h) id)

module _ (s : List ℕ) (n : ℕ) (gs d : List ℕ) where
  sized-fits : (k m : ℕ) {r : Frame} → k < length gs → of_bytes d n k m ≡ framed r → Fits n (length gs) (length d) r
  unfolding of_bytes
  sized-fits k m h e =
      let q = le-first _ _ _ _ e broken≢framed in
      rw (← same_frame q.1) (record { group_in_lem = h; id_in = omega arith; size_in_lem = q.0 })

  kind_fits : (k g : ℕ) (b : Bool) {r : Frame} → k < length gs
      → pick b (if_le (n + 4) (length d) (of_bytes d n k (4 + le_at 4 d n)) broken) (of_bytes d n k (samples s g + inval_bytes s g)) ≡ framed r
      → Fits n (length gs) (length d) r
  kind_fits k g true h e = sized-fits k _ h (le-first _ _ _ _ e broken≢framed).1
  kind_fits k g false h e = sized-fits k _ h e

  known-fits : (v : Known) {r : Frame} → with_id s (le_at n d 0) 0 gs ≡ v → on_known v (λ k g. frame_of s d n k g) ≡ framed r
      → Fits n (length gs) (length d) r
  unfolding frame_of
  known-fits unknown q e = absurd (broken≢framed e)
  known-fits (known k g) q e = kind_fits k g (is_storage s g) (let a = known_in s (le_at n d 0) 0 gs q in omega arith) e

  frame_fits : {r : Frame} → frame_at s n gs d ≡ framed r → Fits n (length gs) (length d) r
  unfolding frame_at
  frame_fits e = known-fits (with_id s (le_at n d 0) 0 gs) refl (le-first _ _ _ _ e broken≢framed).1

-- ---- a step
pub record Stepping (s : List ℕ) (n : ℕ) (gs : List ℕ) (hs : List Fragment) (k : ℕ) (bs : List Fragment) : Type 0 where
  pub frame : Frame
  pub is : frame_at s n gs (joined s hs) ≡ framed frame
  pub fits : Fits n (length gs) (length (joined s hs)) frame
  pub group_is : frame.group ≡ k
  pub on : skip frame.size hs ≡ onto bs

stuck≢stepped : {k m : ℕ} {bs : List Fragment} → stuck ≡ stepped k m bs → ⊥
stuck≢stepped e = let z : ◌≡◌ {A = ℕ} 0 1 = cc in omega arith

stepped-group : {j k l m : ℕ} {hs bs : List Fragment} → stepped j l hs ≡ stepped k m bs → j ≡ k
stepped-group e = cc

stepped-on : {j k l m : ℕ} {hs bs : List Fragment} → stepped j l hs ≡ stepped k m bs → onto hs ≡ onto bs
stepped-on e = cc

module _ (s : List ℕ) (n : ℕ) (gs : List ℕ) (hs : List Fragment) where
  on-past : (r : Frame) (v : Skipped) {k m : ℕ} {bs : List Fragment} → frame_at s n gs (joined s hs) ≡ framed r → skip r.size hs ≡ v
      → past v r.group (r.size - n) ≡ stepped k m bs → Stepping s n gs hs k bs
  on-past r short f q e = absurd (stuck≢stepped e)
  on-past r (onto cs) f q e = record {
    frame = r;
    is = f;
    fits = frame_fits s n gs (joined s hs) f;
    group_is = stepped-group e;
    on = q
        ∙ stepped-on e;
  }

  on_frame_lem : (v : Framed) {k m : ℕ} {bs : List Fragment} → frame_at s n gs (joined s hs) ≡ v → on_frame v n hs ≡ stepped k m bs
      → Stepping s n gs hs k bs
  on_frame_lem broken q e = absurd (stuck≢stepped e)
  on_frame_lem (framed r) q e = on-past r (skip r.size hs) q refl e

  pub stepping : {k m : ℕ} {bs : List Fragment} → step_at s n gs hs ≡ stepped k m bs → Stepping s n gs hs k bs
  unfolding step_at
  stepping e = on_frame_lem (frame_at s n gs (joined s hs)) refl e

  stuck_past : (r : Frame) (v : Skipped) → Counts s hs → frame_at s n gs (joined s hs) ≡ framed r → skip r.size hs ≡ v
      → past v r.group (r.size - n) ≡ stuck → framed r ≡ broken
  stuck_past r short t f q e = let a = t.few r.size q in let b = frame_fits s n gs (joined s hs) f in absurd (omega arith)
  stuck_past r (onto cs) t f q e = absurd (stuck≢stepped (sym e))

  stuck_frame : (v : Framed) → Counts s hs → frame_at s n gs (joined s hs) ≡ v → on_frame v n hs ≡ stuck → v ≡ broken
  stuck_frame broken t q e = refl
  stuck_frame (framed r) t q e = stuck_past r (skip r.size hs) t q refl e

  pub stuck_broken : Counts s hs → step_at s n gs hs ≡ stuck → frame_at s n gs (joined s hs) ≡ broken
  unfolding step_at
  stuck_broken t e = stuck_frame (frame_at s n gs (joined s hs)) t refl e

-- ---- the frames, one at a time
frames_open : (fuel : ℕ) (s : List ℕ) (n : ℕ) (gs : List ℕ) (fs : List Fragment) (d : List ℕ) (p : ℕ) (done : List Frame) → 0 < fuel
    → frames_from fuel s n gs fs d p done ≡ if_eq (length d) 0 (ok done)
    (on_framed (frame_at s n gs d) (refused 15 (place_of fs p))
    (λ r. frames_from (fuel - 1) s n gs fs (drop r.size d) (p + r.size) (done ++ (r ∷ []))))
unfolding frames_from
frames_open zero s n gs fs d p done h = absurd (omega arith)
frames_open (suc fuel) s n gs fs d p done h = simp sub-one

-- where the reading stands, with the words w that were w₀ at its start
pub record Reading (s : List ℕ) (n : ℕ) (gs ws w₀ : List ℕ) (at p l : ℕ) (w : List ℕ) : Type 0 where
  pub done : List Frame
  pub passed : ℕ
  pub fuel : ℕ
  pub enough : length (joined s (ahead s ws at p l)) < fuel
  pub rest : frames_from fuel s n gs (fragments_of ws) (joined s (ahead s ws at p l)) passed done ≡ frames s n gs (fragments_of ws)
  pub place : (k : ℕ) → place_of (ahead s ws at p l) k ≡ place_of (fragments_of ws) (passed + k)
  pub few : length done + length (joined s (ahead s ws at p l)) ≤ most64
  pub counts : w ≡ blit 0 (tallies (length gs) 0 done) w₀
  pub same : length w ≡ length w₀

joined-few : (s : List ℕ) (fs : List Fragment) → length (joined s fs) ≤ size_of fs
unfolding joined size_of
joined-few s [] = omega arith
joined-few s (f ∷ fs) =
    let a = length-append (part f.offset f.size s) (joined s fs) in
    let b = part_low f.offset f.size s in
    let c = joined-few s fs in
    omega arith

length-zero : (l : List ℕ) → length l ≡ 0 → l ≡ []
length-zero [] e = refl
length-zero (x ∷ l) e = absurd (omega arith)

joined-none : (s : List ℕ) → length (joined s []) ≡ 0
unfolding joined
joined-none s = refl

-- a position without bytes
module _ (s ws : List ℕ) (at p l : ℕ) (none : length (part p l s) ≡ 0) where
  empty_joined : joined s (ahead s ws at p l) ≡ joined s (fragments_from ws at)
  empty_joined = joined-ahead s ws at p l ∙ rw (length-zero (part p l s) none)

  empty_place : (k : ℕ) → place_of (ahead s ws at p l) k ≡ place_of (clipped s (fragments_from ws at)) k
  unfolding ahead place_of
  empty_place k = let e : k - 0 ≡ k = omega arith in rw (none, e) (sym (lt_no _ _ _ _ (omega arith) refl))

  empty_length : length (ahead s ws at p l) ≡ suc (length (clipped s (fragments_from ws at)))
  unfolding ahead
  empty_length = refl

-- a position with bytes
some-joined : (s ws : List ℕ) (at p l : ℕ) → length (part p l s) ≤ length (joined s (ahead s ws at p l))
some-joined s ws at p l =
    let a = ap length (joined-ahead s ws at p l) in
    let b = length-append (part p l s) (joined s (fragments_from ws at)) in
    omega arith

some_place : (s ws : List ℕ) (at p l : ℕ) → (length (part p l s) ≡ 0 → ⊥) → place_of (ahead s ws at p l) 0 ≡ p
unfolding ahead place_of
some_place s ws at p l h = sym (lt_yes _ _ _ _ (omega arith) (sym (add-zero p)))

clipped-more : (s ws : List ℕ) (at : ℕ) {o z : ℕ} → at + 3 ≤ length ws → o ≡ get_or ws at 0 → z ≡ get_or ws (at + 1) 0
    → clipped s (fragments_from ws at) ≡ ahead s ws (at + 3) o z
unfolding ahead clipped
clipped-more s ws at h x y = rw (from_more ws at h, x, y)

joined-more : (s ws : List ℕ) (at : ℕ) {o z : ℕ} → at + 3 ≤ length ws → o ≡ get_or ws at 0 → z ≡ get_or ws (at + 1) 0
    → joined s (fragments_from ws at) ≡ joined s (ahead s ws (at + 3) o z)
unfolding joined
joined-more s ws at h x y = rw (from_more ws at h, joined-ahead s ws (at + 3) _ _, x, y)

-- ---- the loop's turns
pub read_begin : (s : List ℕ) (n : ℕ) (gs ws e : List ℕ) {w₀ : List ℕ} → ranges_in s (fragments_of ws) ≡ fine → size_of (fragments_of ws) ≤ most64
    → w₀ ≡ blit 0 (replicate (length gs) 0) e → Reading s n gs ws w₀ 0 0 0 w₀
unfolding frames
read_begin s n gs ws e {w₀} r m c =
    let none : length (part 0 0 s) ≡ 0 = part-all 0 0 s (omega arith) in
    let fs : List Fragment = fragments_of ws in
    let j : joined s (ahead s ws 0 0 0) ≡ joined s fs = empty_joined s ws 0 0 0 none ∙ rw (from_start ws) in
    let f = joined-few s fs in
    let i : length (joined s (ahead s ws 0 0 0)) ≡ length (joined s fs) = ap length j in
    record {
      done = [];
      passed = 0;
      fuel = length (joined s fs) + 1;
      enough = omega arith;
      rest = rw j;
      place = λ k. empty_place s ws 0 0 0 none k ∙ rw (from_start ws, zero-add k) (place_clipped s fs k r);
      few = omega arith;
      counts = rw (tallies-none (length gs) 0, c) (sym (blit-blit (replicate (length gs) 0) (replicate (length gs) 0) 0 e refl));
      same = refl;
    }

module _ (s : List ℕ) (n : ℕ) (gs ws w₀ : List ℕ) (at p l : ℕ) (w : List ℕ) (t : Reading s n gs ws w₀ at p l w) where
  -- a position without bytes: the next fragment, or the end
  pub read_move : {here o z : ℕ} → here ≡ length (part p l s) → here ≡ 0 → at + 3 ≤ length ws → o ≡ get_or ws at 0 → z ≡ get_or ws (at + 1) 0
      → Reading s n gs ws w₀ (at + 3) o z w
  read_move {here} {o} {z} e q h x y =
      let none : length (part p l s) ≡ 0 = sym e ∙ q in
      let j : joined s (ahead s ws at p l) ≡ joined s (ahead s ws (at + 3) o z) = empty_joined s ws at p l none ∙ joined-more s ws at h x y in
      record {
        done = t.done;
        passed = t.passed;
        fuel = t.fuel;
        enough = rw j at t.enough;
        rest = rw j at t.rest;
        place = λ k. sym (rw (clipped-more s ws at h x y) at (empty_place s ws at p l none k)) ∙ t.place k;
        few = rw j at t.few;
        counts = t.counts;
        same = t.same;
      }

  pub move_less : {here o z : ℕ} → here ≡ length (part p l s) → here ≡ 0 → at + 3 ≤ length ws → o ≡ get_or ws at 0 → z ≡ get_or ws (at + 1) 0
      → length (joined s (ahead s ws (at + 3) o z)) + length (ahead s ws (at + 3) o z) < length (joined s (ahead s ws at p l)) + length
      (ahead s ws at p l)
  move_less {here} {o} {z} e q h x y =
      let none : length (part p l s) ≡ 0 = sym e ∙ q in
      let j : length (joined s (ahead s ws at p l)) ≡ length (joined s (ahead s ws (at + 3) o z)) =
      ap length (empty_joined s ws at p l none ∙ joined-more s ws at h x y) in
      let c : length (ahead s ws at p l) ≡ suc (length (ahead s ws (at + 3) o z)) = empty_length s ws at p l none
      ∙ ap (λ (f : List Fragment). suc (length f)) (clipped-more s ws at h x y) in
      omega arith

  -- the words, whatever was counted, over those before the first were set to zero
  over : (e : List ℕ) → w₀ ≡ blit 0 (replicate (length gs) 0) e → w ≡ blit 0 (tallies (length gs) 0 t.done) e
  over e c =
      t.counts ∙ rw c (blit-blit (replicate (length gs) 0) (tallies (length gs) 0 t.done) 0 e
      (length-replicate (length gs) 0 ∙ sym (length-tallies (length gs) 0 t.done)))

  pub read_end : (e : List ℕ) {here : ℕ} → w₀ ≡ blit 0 (replicate (length gs) 0) e → here ≡ length (part p l s) → here ≡ 0
      → length ws < at + 3
      → laid fine w ≡ laid_counts (tallied (length gs) (frames s n gs (fragments_of ws))) (length gs) e
  read_end e c m q h =
      let none : length (part p l s) ≡ 0 = sym m ∙ q in
      let j : length (joined s (ahead s ws at p l)) ≡ 0 = ap length (empty_joined s ws at p l none ∙ ap (joined s) (from-none ws at h))
      ∙ joined-none s in
      let o : frames s n gs (fragments_of ws) ≡ ok t.done =
      sym t.rest ∙ frames_open t.fuel s n gs (fragments_of ws) (joined s (ahead s ws at p l)) t.passed t.done (omega arith)
      ∙ sym (eq_yes _ _ _ _ j refl) in
      rw o (ap (laid fine) (over e c))

  -- a record that is no record
  pub read_broken : (e : List ℕ) {here : ℕ} {v : List ℕ} → w₀ ≡ blit 0 (replicate (length gs) 0) e → here ≡ length (part p l s)
      → (here ≡ 0 → ⊥)
      → step_at s n gs (ahead s ws at p l) ≡ stuck → v ≡ blit 0 (replicate (length gs) 0) w
      → laid (refused 15 p) v ≡ laid_counts (tallied (length gs) (frames s n gs (fragments_of ws))) (length gs) e
  read_broken e {here} {v} c m q k x =
      let some : length (part p l s) ≡ 0 → ⊥ = λ z. q (m ∙ z) in
      let j = some-joined s ws at p l in
      let b : frame_at s n gs (joined s (ahead s ws at p l)) ≡ broken = stuck_broken s n gs (ahead s ws at p l) (ahead-counts s ws at p l) k in
      let y : place_of (fragments_of ws) t.passed ≡ p = rw (add-zero t.passed) at (sym (t.place 0)) ∙ some_place s ws at p l some in
      let o : frames s n gs (fragments_of ws) ≡ refused 15 p =
      sym t.rest ∙ frames_open t.fuel s n gs (fragments_of ws) (joined s (ahead s ws at p l)) t.passed t.done (omega arith)
      ∙ sym (eq_no _ _ _ _ (λ z. some (omega arith)) refl) ∙ rw (b, y) in
      let d : v ≡ blit 0 (replicate (length gs) 0) e =
      x ∙ rw (over e c) (blit-blit (tallies (length gs) 0 t.done) (replicate (length gs) 0) 0 e
      (length-tallies (length gs) 0 t.done ∙ sym (length-replicate (length gs) 0))) in
      rw o (ap (laid (refused 15 p)) d)

  -- a record
  module _ (at' p' l' : ℕ) {k m : ℕ} (id : 0 < n) (e : step_at s n gs (ahead s ws at p l) ≡ stepped k m (ahead s ws at' p' l')) where
    step : Stepping s n gs (ahead s ws at p l) k (ahead s ws at' p' l')
    step = stepping s n gs (ahead s ws at p l) e

    past_is : joined s (ahead s ws at' p' l') ≡ drop step.frame.size (joined s (ahead s ws at p l))
    past_is = (ahead-counts s ws at p l).drops step.frame.size step.on

    past-length : length (joined s (ahead s ws at' p' l')) ≡ length (joined s (ahead s ws at p l)) - step.frame.size
    past-length = ap length past_is ∙ length-drop step.frame.size (joined s (ahead s ws at p l))

    pub record_low : get_or w k 0 < most64
    record_low =
        let a = tallied_low (length gs) t.done step.frame w₀ t.counts step.fits.group_in_lem in
        let b : get_or w step.frame.group 0 ≡ get_or w k 0 = rw step.group_is in
        let f = t.few in
        let g = step.fits.id_in in
        let h = step.fits.size_in_lem in
        omega arith

    pub record_less : length (joined s (ahead s ws at' p' l')) + length (ahead s ws at' p' l') < length (joined s (ahead s ws at p l)) +
        length (ahead s ws at p l)
    record_less =
        let a = past-length in
        let b = skip_fewer (ahead s ws at p l) step.frame.size step.on in
        let g = step.fits.id_in in
        let h = step.fits.size_in_lem in
        omega arith

    pub read_record : {v : List ℕ} → v ≡ set w k (get_or w k 0 + 1) → Reading s n gs ws w₀ at' p' l' v
    read_record {v} x =
        let r : Frame = step.frame in
        let d : List ℕ = joined s (ahead s ws at p l) in
        let z : ℕ = r.size in
        let a : length (joined s (ahead s ws at' p' l')) ≡ length d - z = past-length in
        let g = step.fits.id_in in
        let h = step.fits.size_in_lem in
        let f = t.few in
        let u = t.enough in
        let some : length d ≡ 0 → ⊥ = λ y. omega arith in
        let o : frames_from (t.fuel - 1) s n gs (fragments_of ws) (drop z d) (t.passed + z) (t.done ++ (r ∷ [])) ≡ frames s n gs
        (fragments_of ws) =
        rw step.is at (eq_no _ _ _ _ some refl
        ∙ sym (frames_open t.fuel s n gs (fragments_of ws) d t.passed t.done (omega arith)) ∙ t.rest) in
        record {
          done = t.done ++ (r ∷ []);
          passed = t.passed + z;
          fuel = t.fuel - 1;
          enough = omega arith;
          rest = rw past_is o;
          place = λ q. skip_place (ahead s ws at p l) z step.on q ∙ t.place (z + q) ∙ rw (add_assoc t.passed z q);
          few = let i = length-append t.done (r ∷ []) in omega arith;
          counts = tallied-up (length gs) t.done r w₀ t.counts step.fits.group_in_lem (rw step.group_is x);
          same = ap length x ∙ length-set w k (get_or w k 0 + 1) ∙ t.same;
        }
