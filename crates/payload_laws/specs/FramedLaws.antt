-- Several groups in a DG: a group has as many records as are counted, all of one length, in the DG's bytes.
use Prim.Native.Nat.{ℕ, zero, suc, ◌+◌, ◌-◌, ◌*◌, ◌≤◌, ◌<◌}
use Rattle.std.specs.Prelude.{Bool, true, false, List, [], ◌∷◌, ◌++◌, ◌≡◌, refl, ◌⊎◌, length, take, drop, get_or}
use Rattle.std.proofs.Common.{append-nil, append_assoc, sym, ap, ◌∙◌, subst, inl, inr, add-zero, one-mul, add-mul, arith, length-drop, take-append-drop, length-take-le, drop-drop}
use Rattle.std.proofs.Math.Nat.{zero-mul}
use Rattle.base.specs.Choice.{pick, if_lt, if_le, if_eq}
use Rattle.base.specs.ChoiceLaws.{le-first, eq_yes, eq_no}
use Rattle.base.specs.Checked.{Checked, ok, refused, and_then, Verdict, fine}
use Rattle.base.specs.Field.{le_at}
use Rattle.base.specs.Blit.{part}
use Rattle.mdf.specs.Chain.{Fragment}
use Rattle.mdf.specs.Walk.{id_size}
use Rattle.mdf.specs.Group.{record_id, samples, inval_bytes, is_storage}
use Rattle.mdf.specs.Records.{most64, ranges_in, joined, any_dv, place_of, size_of, Frame, Framed, framed, broken, Known, known, unknown, with_id, on_known, of_bytes, frame_of, frame_at, on_framed, frames_from, frames, equal_ids, unsorted_frames, unsorted_records}
use Rattle.mdf.specs.Count.{of_group, tallies}
use Rattle.result.specs.Recording.{IsRecord, Fill}
use Rattle.payload_laws.specs.Answers.{refused≢ok, ok_same, then_fine, passed, eq_cases}
use Rattle.payload_laws.specs.Lists.{Long, length_part}
use Rattle.payload_laws.specs.SortedLaws.{joined_length}

-- ---- counting

pub counted-group : (k : ℕ) (rs : List Frame) → length (unsorted_records k rs) ≡ of_group k rs
unfolding unsorted_records of_group
counted-group k [] = refl
counted-group k (r ∷ rs) = go (eq_cases r.group k (r.bytes ∷ unsorted_records k rs) (unsorted_records k rs) refl) (counted-group k rs)
  where
    Cases : Type 0
    Cases = ((r.group ≡ k) × (r.bytes ∷ unsorted_records k rs ≡ unsorted_records k (r ∷ rs)))
        ⊎ ((r.group ≡ k → ⊥) × (unsorted_records k rs ≡ unsorted_records k (r ∷ rs)))

    go : Cases → length (unsorted_records k rs) ≡ of_group k rs → length (unsorted_records k (r ∷ rs)) ≡ if_eq r.group k 1 0 + of_group k rs
    go (inl e) ih = let z : ◌≡◌ {A = ℕ} 1 (if_eq r.group k 1 0) = eq_yes _ _ _ _ e.0 refl in omega (arith, ap length e.1)
    go (inr e) ih = let z : ◌≡◌ {A = ℕ} 0 (if_eq r.group k 1 0) = eq_no _ _ _ _ e.0 refl in omega (arith, ap length e.1)

pub length-tallies : (n k : ℕ) (rs : List Frame) → length (tallies n k rs) ≡ n
unfolding tallies
length-tallies zero k rs = refl
length-tallies (suc n) k rs = ap suc (length-tallies n (k + 1) rs)

pub tallies-at : (n k i : ℕ) (rs : List Frame) → i < n → get_or (tallies n k rs) i 0 ≡ of_group (k + i) rs
unfolding tallies
tallies-at zero k i rs h = absurd (omega arith)
tallies-at (suc n) k zero rs h = rw add-zero
tallies-at (suc n) k (suc i) rs h =
    let e : k + 1 + i ≡ k + suc i = omega arith in
    tallies-at n (k + 1) i rs (omega arith) ∙ rw e

-- ---- the group of an id

-- the group known as number j, counted from k, with address g, is in the list
record Listed (s : List ℕ) (id : ℕ) (gs : List ℕ) (k j g : ℕ) : Type 0 where
  place : ℕ
  number : j ≡ k + place
  within : place < length gs
  address : get_or gs place 0 ≡ g
  named : record_id s g ≡ id

known_same : {k j g h : ℕ} → known k g ≡ known j h → (k ≡ j) × (g ≡ h)
known_same e = (cc, cc)

unknown≢known : {k g : ℕ} → unknown ≡ known k g → ⊥
unknown≢known e = let z : ◌≡◌ {A = ℕ} 0 1 = cc in omega arith

id_listed : (s : List ℕ) (id k j g : ℕ) (gs : List ℕ) → with_id s id k gs ≡ known j g → Listed s id gs k j g
unfolding with_id
id_listed s id k j g [] e = absurd (unknown≢known e)
id_listed s id k j g (h ∷ gs) e =
    go (eq_cases (record_id s h) id (known k h) (with_id s id (k + 1) gs) e) (λ q. id_listed s id (k + 1) j g gs q)
  where
    go : ((record_id s h ≡ id) × (known k h ≡ known j g)) ⊎ ((record_id s h ≡ id → ⊥) × (with_id s id (k + 1) gs ≡ known j g))
        → (with_id s id (k + 1) gs ≡ known j g → Listed s id gs (k + 1) j g) → Listed s id (h ∷ gs) k j g
    go (inl q) ih =
        let both = known_same q.1 in
        record { place = 0; number = omega arith; within = omega arith; address = both.1; named = rw both.1 at q.0 }
    go (inr q) ih =
        let l = ih q.1 in
        record { place = suc l.place; number = omega arith; within = omega arith; address = l.address; named = l.named }

-- ---- a frame

framed_same : {r t : Frame} → framed r ≡ framed t → r ≡ t
framed_same e = cc

broken≢framed : {r : Frame} → broken ≡ framed r → ⊥
broken≢framed e = let z : ◌≡◌ {A = ℕ} 0 1 = cc in omega arith

-- a record of group k with m bytes past its id of n bytes, in front of what is left of the data, d
record Framing (d : List ℕ) (n k m : ℕ) (r : Frame) : Type 0 where
  group : r.group ≡ k
  bytes : length r.bytes ≡ m
  size : r.size ≡ n + m
  fits : r.size ≤ length d
  parts : d ≡ take n d ++ (r.bytes ++ drop r.size d)

cut_parts : (d : List ℕ) (n m : ℕ) → d ≡ take n d ++ (part n m d ++ drop (n + m) d)
unfolding part
cut_parts d n m =
    sym (take-append-drop n d)
    ∙ ap (λ (l : List ℕ). take n d ++ l) (sym (take-append-drop m (drop n d)) ∙ ap (λ (l : List ℕ). take m (drop n d) ++ l) (drop-drop m n d))

bytes_framing : (d : List ℕ) (n k m : ℕ) {r : Frame} → of_bytes d n k m ≡ framed r → Framing d n k m r
unfolding of_bytes
bytes_framing d n k m {r} e =
    let b = le-first _ _ _ _ e broken≢framed in
    let h : n + m ≤ length d = b.0 in
    subst (Framing d n k m) (framed_same b.1)
    (record { group = refl; bytes = length_part n m d h; size = refl; fits = h; parts = cut_parts d n m })

-- what is known of a record: its group is one of gs; past its id of n bytes it has samples and invalidation bytes, but for VLSD storage
pub record KnownFrame (s : List ℕ) (n : ℕ) (gs : List ℕ) (r : Frame) : Type 0 where
  pub within : r.group < length gs
  pub long : is_storage s (get_or gs r.group 0) ≡ false
      → length r.bytes ≡ samples s (get_or gs r.group 0) + inval_bytes s (get_or gs r.group 0)
  pub size : r.size ≡ n + length r.bytes

-- the bytes of a record past its id, by its group's kind
abbrev due_bytes : List ℕ → List ℕ → ℕ → ℕ → ℕ
due_bytes s d n g = pick (is_storage s g) (4 + le_at 4 d n) (samples s g + inval_bytes s g)

frame_known : (s d : List ℕ) (n k g : ℕ) {r : Frame} → frame_of s d n k g ≡ framed r → Framing d n k (due_bytes s d n g) r
unfolding frame_of
frame_known s d n k g {r} e = go (is_storage s g) refl e
  where
    go : (b : Bool) → is_storage s g ≡ b
        → pick b (if_le (n + 4) (length d) (of_bytes d n k (4 + le_at 4 d n)) broken) (of_bytes d n k (samples s g + inval_bytes s g)) ≡ framed r
        → Framing d n k (due_bytes s d n g) r
    go true q f = rw q (bytes_framing d n k _ (le-first _ _ _ _ f broken≢framed).1)
    go false q f = rw q (bytes_framing d n k _ f)

-- the record in front of d
record First (s : List ℕ) (n : ℕ) (gs d : List ℕ) (r : Frame) : Type 0 where
  known : KnownFrame s n gs r
  fits : r.size ≤ length d
  takes : r.size ≡ n + length r.bytes
  cut : IsRecord s n gs d r (drop r.size d)

known_at : (s : List ℕ) (n : ℕ) (gs d : List ℕ) {r : Frame} → frame_at s n gs d ≡ framed r → First s n gs d r
unfolding frame_at
known_at s n gs d {r} e =
    let b = le-first _ _ _ _ e broken≢framed in
    go b.0 (with_id s (le_at n d 0) 0 gs) refl b.1
  where
    go : n ≤ length d → (o : Known) → with_id s (le_at n d 0) 0 gs ≡ o → on_known o (λ k g. frame_of s d n k g) ≡ framed r
        → First s n gs d r
    go h unknown q f = absurd (broken≢framed f)
    go h (known k g) q f =
        let l = id_listed s (le_at n d 0) 0 k g gs q in
        let w = frame_known s d n k g f in
        let p : l.place ≡ r.group = omega (arith, w.group) in
        let a : g ≡ get_or gs r.group 0 = sym l.address ∙ rw p in
        let m : length r.bytes ≡ due_bytes s d n (get_or gs r.group 0) = rw a at w.bytes in
        let i : r.group < length gs = omega (arith, w.group) in
        let z : r.size ≡ n + length r.bytes = omega (arith, w.size, w.bytes) in
        record {
          known = record { within = i; long = λ u. m ∙ rw u; size = z };
          fits = w.fits;
          takes = z;
          cut = record { id = take n d; parts = w.parts; id_length = length-take-le n d h; numbered = i; named = rw a at l.named; long = m };
        }

-- ---- all frames

pub data AllKnown (s : List ℕ) (n : ℕ) (gs : List ℕ) : List Frame → Type 0 where
  none : AllKnown s n gs []
  next : {r : Frame} {rs : List Frame} → KnownFrame s n gs r → AllKnown s n gs rs → AllKnown s n gs (r ∷ rs)

-- the bytes that records take, with their ids
unfoldable pub taken : List Frame → ℕ
taken [] = 0
taken (r ∷ rs) = r.size + taken rs

known_snoc : {s gs : List ℕ} {n : ℕ} {rs : List Frame} {r : Frame} → AllKnown s n gs rs → KnownFrame s n gs r
    → AllKnown s n gs (rs ++ (r ∷ []))
known_snoc none k = next k none
known_snoc (next h l) k = next h (known_snoc l k)

taken_snoc : (rs : List Frame) (r : Frame) → taken (rs ++ (r ∷ [])) ≡ taken rs + r.size
unfolding taken
taken_snoc [] r = omega arith
taken_snoc (t ∷ rs) r = omega (arith, taken_snoc rs r)

-- one record more
on_framed_ok : (o : Framed) (n p : ℕ) (f : Frame → Checked (List Frame)) {rs : List Frame} → on_framed o (refused n p) f ≡ ok rs
    → (r : Frame) × (o ≡ framed r) × (f r ≡ ok rs)
on_framed_ok broken n p f e = absurd (refused≢ok e)
on_framed_ok (framed r) n p f e = (r, refl, e)

-- the records are known, and what they take lies in N bytes
frames-known : (turns : ℕ) (s : List ℕ) (n : ℕ) (gs : List ℕ) (fs : List Fragment) (d : List ℕ) (p N : ℕ) (done : List Frame) {rs : List Frame}
    → frames_from turns s n gs fs d p done ≡ ok rs → AllKnown s n gs done → taken done + length d ≤ N → AllKnown s n gs rs × (taken rs ≤ N)
unfolding frames_from
frames-known zero s n gs fs d p N done {rs} e a h =
    let b : taken done ≤ N = omega arith in
    (subst (AllKnown s n gs) (ok_same e) a, subst (λ (x : List Frame). taken x ≤ N) (ok_same e) b)
frames-known (suc turns) s n gs fs d p N done {rs} e a h =
    go (eq_cases _ _ _ _ e) (λ r q a' h'. frames-known turns s n gs fs (drop r.size d) (p + r.size) N (done ++ (r ∷ [])) q a' h')
  where
    later : Frame → Checked (List Frame)
    later r = frames_from turns s n gs fs (drop r.size d) (p + r.size) (done ++ (r ∷ []))

    go : ((length d ≡ 0) × (ok done ≡ ok rs)) ⊎ ((length d ≡ 0 → ⊥) × (on_framed (frame_at s n gs d) (refused 15 (place_of fs p)) later ≡ ok rs))
        → ((r : Frame) → later r ≡ ok rs → AllKnown s n gs (done ++ (r ∷ [])) → taken (done ++ (r ∷ [])) + length (drop r.size d) ≤ N
        → AllKnown s n gs rs × (taken rs ≤ N))
        → AllKnown s n gs rs × (taken rs ≤ N)
    go (inl q) ih =
        let b : taken done ≤ N = omega arith in
        (subst (AllKnown s n gs) (ok_same q.1) a, subst (λ (x : List Frame). taken x ≤ N) (ok_same q.1) b)
    go (inr q) ih =
        let f = on_framed_ok (frame_at s n gs d) 15 (place_of fs p) later q.1 in
        let k = known_at s n gs d f.1 in
        let b : taken (done ++ (f.0 ∷ [])) + (length d - f.0.size) ≤ N = omega (arith, k.fits, taken_snoc done f.0) in
        ih f.0 f.2 (known_snoc a k.known) (rw length-drop b)

-- with more turns than bytes the records are all of the data
pub record Ended (s : List ℕ) (n : ℕ) (gs d : List ℕ) (done rs : List Frame) : Type 0 where
  pub more : List Frame
  pub after : rs ≡ done ++ more
  pub fill : Fill s n gs more d

empty : (d : List ℕ) → length d ≡ 0 → d ≡ []
empty [] e = refl
empty (x ∷ d) e = absurd (omega arith)

frames_fill : (turns : ℕ) (s : List ℕ) (n : ℕ) (gs : List ℕ) (fs : List Fragment) (d : List ℕ) (p : ℕ) (done : List Frame) {rs : List Frame}
    → frames_from turns s n gs fs d p done ≡ ok rs → 0 < n → length d < turns → Ended s n gs d done rs
unfolding frames_from Fill
frames_fill zero s n gs fs d p done e h l = absurd (omega arith)
frames_fill (suc turns) s n gs fs d p done {rs} e h l =
    go (eq_cases _ _ _ _ e) (λ r q k. frames_fill turns s n gs fs (drop r.size d) (p + r.size) (done ++ (r ∷ [])) q h k)
  where
    later : Frame → Checked (List Frame)
    later r = frames_from turns s n gs fs (drop r.size d) (p + r.size) (done ++ (r ∷ []))

    go : ((length d ≡ 0) × (ok done ≡ ok rs)) ⊎ ((length d ≡ 0 → ⊥) × (on_framed (frame_at s n gs d) (refused 15 (place_of fs p)) later ≡ ok rs))
        → ((r : Frame) → later r ≡ ok rs → length (drop r.size d) < turns → Ended s n gs (drop r.size d) (done ++ (r ∷ [])) rs)
        → Ended s n gs d done rs
    go (inl q) ih = record { more = []; after = sym (ok_same q.1) ∙ sym (append-nil done); fill = empty d q.0 }
    go (inr q) ih =
        let f = on_framed_ok (frame_at s n gs d) 15 (place_of fs p) later q.1 in
        let k = known_at s n gs d f.1 in
        let m = ih f.0 f.2 (rw length-drop (omega (arith, k.fits, k.takes, h, l))) in
        record { more = f.0 ∷ m.more; after = m.after ∙ append_assoc done (f.0 ∷ []) m.more; fill = (drop f.0.size d, k.cut, m.fill) }

-- ---- the records of one group

module _ {s gs : List ℕ} {n : ℕ} (k : ℕ) (kept : is_storage s (get_or gs k 0) ≡ false) where
  known-long : {rs : List Frame} → AllKnown s n gs rs → Long (samples s (get_or gs k 0) + inval_bytes s (get_or gs k 0)) (unsorted_records k rs)
  unfolding unsorted_records
  known-long none = Long.none
  known-long (next {r} {rs} f l) =
      go (eq_cases r.group k (r.bytes ∷ unsorted_records k rs) (unsorted_records k rs) refl) (known-long l)
    where
      L : ℕ
      L = samples s (get_or gs k 0) + inval_bytes s (get_or gs k 0)

      go : ((r.group ≡ k) × (r.bytes ∷ unsorted_records k rs ≡ unsorted_records k (r ∷ rs)))
          ⊎ ((r.group ≡ k → ⊥) × (unsorted_records k rs ≡ unsorted_records k (r ∷ rs)))
          → Long L (unsorted_records k rs) → Long L (unsorted_records k (r ∷ rs))
      go (inl q) ih = subst (Long L) q.1 (Long.next ((rw q.0 at f.long) kept) ih)
      go (inr q) ih = subst (Long L) q.1 ih

  known_bytes : {rs : List Frame} → AllKnown s n gs rs → of_group k rs * (samples s (get_or gs k 0) + inval_bytes s (get_or gs k 0)) ≤ taken rs
  unfolding of_group taken
  known_bytes none = omega (arith, zero-mul (samples s (get_or gs k 0) + inval_bytes s (get_or gs k 0)))
  known_bytes (next {r} {rs} f l) = go (eq_cases r.group k 1 0 refl) (known_bytes l)
    where
      L : ℕ
      L = samples s (get_or gs k 0) + inval_bytes s (get_or gs k 0)

      go : ((r.group ≡ k) × (◌≡◌ {A = ℕ} 1 (if_eq r.group k 1 0))) ⊎ ((r.group ≡ k → ⊥) × (◌≡◌ {A = ℕ} 0 (if_eq r.group k 1 0)))
          → of_group k rs * L ≤ taken rs → (if_eq r.group k 1 0 + of_group k rs) * L ≤ r.size + taken rs
      go (inl q) ih =
          let b : length r.bytes ≡ L = (rw q.0 at f.long) kept in
          rw (← q.1, add-mul, one-mul) (omega (arith, f.size))
      go (inr q) ih = rw (← q.1, add-mul, zero-mul) (omega arith)

-- ---- what the framing of a DG with several groups gives
pub record Several (s : List ℕ) (d : ℕ) (gs : List ℕ) (fs : List Fragment) (rs : List Frame) : Type 0 where
  pub distinct : equal_ids s gs ≡ false
  pub ids : 0 < id_size s d
  pub only_dt : any_dv fs ≡ false
  pub ranges : ranges_in s fs ≡ fine
  pub known : AllKnown s (id_size s d) gs rs
  pub bytes : taken rs ≤ size_of fs
  pub fill : Fill s (id_size s d) gs rs (joined s fs)

-- framing ends with the data, not with its turns
frames-all : (s : List ℕ) (n : ℕ) (gs : List ℕ) (fs : List Fragment) {rs : List Frame} → frames s n gs fs ≡ ok rs → 0 < n → Fill s n gs rs (joined s fs)
unfolding frames
frames-all s n gs fs e h =
    let m = frames_fill (length (joined s fs) + 1) s n gs fs (joined s fs) 0 [] e h (omega arith) in
    subst (λ (l : List Frame). Fill s n gs l (joined s fs)) (sym m.after) m.fill

frames_read : (s : List ℕ) (n : ℕ) (gs : List ℕ) (fs : List Fragment) {rs : List Frame} → frames s n gs fs ≡ ok rs
    → AllKnown s n gs rs × (taken rs ≤ length (joined s fs))
unfolding frames taken
frames_read s n gs fs e = frames-known (length (joined s fs) + 1) s n gs fs (joined s fs) 0 (length (joined s fs)) [] e none (omega arith)

some_id : (n d : ℕ) → if_eq n 0 (refused 14 d) fine ≡ fine → 0 < n
some_id n d e = go (eq_cases n 0 (refused 14 d) fine e)
  where
    go : ((n ≡ 0) × (◌≡◌ {A = Verdict} (refused 14 d) fine)) ⊎ ((n ≡ 0 → ⊥) × (◌≡◌ {A = Verdict} fine fine)) → 0 < n
    go (inl q) = absurd (refused≢ok q.1)
    go (inr q) = let h = q.0 in omega arith

pub unsorted_several : (s : List ℕ) (d : ℕ) (gs : List ℕ) (fs : List Fragment) {rs : List Frame} → unsorted_frames s d gs fs ≡ ok rs
    → Several s d gs fs rs
unfolding unsorted_frames
unsorted_several s d gs fs {rs} e =
    let read : Checked (List Frame) = frames s (id_size s d) gs fs in
    let sized : Checked (List Frame) = and_then (if_lt most64 (size_of fs) (refused 19 d) fine) (λ _. read) in
    let ranged : Checked (List Frame) = and_then (ranges_in s fs) (λ _. sized) in
    let dts : Checked (List Frame) = and_then (pick (any_dv fs) (refused 14 d) fine) (λ _. ranged) in
    let idd : Checked (List Frame) = and_then (if_eq (id_size s d) 0 (refused 14 d) fine) (λ _. dts) in
    let a1 = then_fine (pick (equal_ids s gs) (refused 14 d) fine) (λ _. idd) e in
    let a2 = then_fine (if_eq (id_size s d) 0 (refused 14 d) fine) (λ _. dts) a1.1 in
    let a3 = then_fine (pick (any_dv fs) (refused 14 d) fine) (λ _. ranged) a2.1 in
    let a4 = then_fine (ranges_in s fs) (λ _. sized) a3.1 in
    let a5 = then_fine (if_lt most64 (size_of fs) (refused 19 d) fine) (λ _. read) a4.1 in
    let k = frames_read s (id_size s d) gs fs a5.1 in
    record {
      distinct = passed _ _ _ a1.0;
      ids = some_id (id_size s d) d a2.0;
      only_dt = passed _ _ _ a3.0;
      ranges = a4.0;
      known = k.0;
      bytes = rw (joined_length s fs a4.0) at k.1;
      fill = frames-all s (id_size s d) gs fs a5.1 (some_id (id_size s d) d a2.0);
    }

-- the records of group k, which is no VLSD storage: each of samples and invalidation bytes
pub framed_long : {s gs : List ℕ} {d : ℕ} {fs : List Fragment} {rs : List Frame} (k : ℕ) → Several s d gs fs rs
    → is_storage s (get_or gs k 0) ≡ false
    → Long (samples s (get_or gs k 0) + inval_bytes s (get_or gs k 0)) (unsorted_records k rs)
framed_long k w q = known-long k q w.known

-- which are bytes of the fragments
pub framed_bytes : {s gs : List ℕ} {d : ℕ} {fs : List Fragment} {rs : List Frame} (k : ℕ) → Several s d gs fs rs
    → is_storage s (get_or gs k 0) ≡ false
    → length (unsorted_records k rs) * (samples s (get_or gs k 0) + inval_bytes s (get_or gs k 0)) ≤ size_of fs
framed_bytes {rs = rs} k w q = rw (counted-group k rs) (omega (arith, known_bytes k q w.known, w.bytes))

-- each takes its id, so there are no more than bytes
known-few : {s gs : List ℕ} {n : ℕ} {rs : List Frame} (k : ℕ) → AllKnown s n gs rs → 0 < n → of_group k rs ≤ taken rs
unfolding of_group taken
known-few k none h = omega arith
known-few k (next {r} {rs} f l) h = go (eq_cases r.group k 1 0 refl) (known-few k l h)
  where
    go : ((r.group ≡ k) × (◌≡◌ {A = ℕ} 1 (if_eq r.group k 1 0))) ⊎ ((r.group ≡ k → ⊥) × (◌≡◌ {A = ℕ} 0 (if_eq r.group k 1 0)))
        → of_group k rs ≤ taken rs → if_eq r.group k 1 0 + of_group k rs ≤ r.size + taken rs
    go (inl q) ih = omega (arith, q.1, f.size)
    go (inr q) ih = omega (arith, q.1, f.size)

pub framed_few : {s gs : List ℕ} {d : ℕ} {fs : List Fragment} {rs : List Frame} (k : ℕ) → Several s d gs fs rs → of_group k rs ≤ size_of fs
framed_few k w = let a = w.bytes in let b = known-few k w.known w.ids in omega arith
