-- Laws of the records of several groups in bytes.
use Rattle.std.specs.Prelude.{ℕ, zero, suc, ◌+◌, ◌≤◌, ◌<◌, Bool, true, false, List, [], ◌∷◌, ◌++◌, ◌≡◌, refl, ◌⊎◌, drop}
use Rattle.std.proofs.Common.{append_assoc, append-nil, sym, ◌∙◌, inl, inr, arith, length-drop}
use Rattle.std.proofs.Math.Path.{subst}
use Rattle.std.proofs.Math.ListN.{length}
use Rattle.base.specs.Choice.{pick, if_le, if_eq, if_lt}
use Rattle.base.specs.ChoiceLaws.{le-first, lt_back}
use Rattle.base.specs.Blit.{part}
use Rattle.base.specs.Field.{le_at}
use Rattle.base.specs.Checked.{Checked, ok, refused, and_then, fine}
use Rattle.base.specs.CheckedLaws.{refused≢ok, ok_same, then_fine}
use Rattle.mdf.specs.Chain.{Fragment}
use Rattle.mdf.specs.Walk.{id_size}
use Rattle.mdf.specs.Group.{samples, inval_bytes, is_storage}
use Rattle.mdf.specs.Records.{most64, ranges_in, joined, place_of, size_of, any_dv, equal_ids, Frame, Framed, framed, broken, Known, known, unknown}
use Rattle.mdf.specs.Records.{with_id, on_known, of_bytes, frame_of, frame_at, on_framed, frames_from, frames, unsorted_frames}
use Rattle.payload_laws.specs.Answers.{eq_cases}
use Rattle.payload_laws.specs.Lists.{length_part}
use Rattle.payload_laws.specs.FramedLaws.{unsorted_several}
use Rattle.places.specs.Several.{Read, end, more}

-- ---- a frame
pub broken≢framed : {r : Frame} → broken ≡ framed r → ⊥
broken≢framed e = let z : ◌≡◌ {A = ℕ} 0 1 = cc in omega arith

same_frame : {q r : Frame} → framed q ≡ framed r → q ≡ r
same_frame e = cc

-- its bytes follow the id
pub record Fits (n : ℕ) (l : List ℕ) (r : Frame) : Type 0 where
  pub size : r.size ≡ n + length r.bytes
  pub within : r.size ≤ length l
  pub bytes : r.bytes ≡ part n (length r.bytes) l

module _ (s : List ℕ) (n : ℕ) (gs l : List ℕ) where
  sized-fits : (k m : ℕ) {r : Frame} → of_bytes l n k m ≡ framed r → Fits n l r
  unfolding of_bytes
  sized-fits k m e =
      let q = le-first _ _ _ _ e broken≢framed in
      let h : n + m ≤ length l = q.0 in
      let p : length (part n m l) ≡ m = length_part n m l h in
      subst (Fits n l) (same_frame q.1) (record { size = rw p; within = h; bytes = rw p })

  kind_fits : (k g : ℕ) (b : Bool) {r : Frame}
      → pick b (if_le (n + 4) (length l) (of_bytes l n k (4 + le_at 4 l n)) broken) (of_bytes l n k (samples s g + inval_bytes s g)) ≡ framed r
      → Fits n l r
  kind_fits k g true e = sized-fits k _ (le-first _ _ _ _ e broken≢framed).1
  kind_fits k g false e = sized-fits k _ e

  known-fits : (v : Known) {r : Frame} → on_known v (λ k g. frame_of s l n k g) ≡ framed r → Fits n l r
  unfolding frame_of
  known-fits unknown e = absurd (broken≢framed e)
  known-fits (known k g) e = kind_fits k g (is_storage s g) e

  pub frame_fits : {r : Frame} → frame_at s n gs l ≡ framed r → Fits n l r
  unfolding frame_at
  frame_fits e = known-fits (with_id s (le_at n l 0) 0 gs) (le-first _ _ _ _ e broken≢framed).1

-- ---- what the framing gives
on_framed_ok : (o : Framed) (n p : ℕ) (f : Frame → Checked (List Frame)) {rs : List Frame} → on_framed o (refused n p) f ≡ ok rs
    → (r : Frame) × (o ≡ framed r) × (f r ≡ ok rs)
on_framed_ok broken n p f e = absurd (refused≢ok e)
on_framed_ok (framed r) n p f e = (r, refl, e)

-- past those done
record After (s : List ℕ) (n : ℕ) (gs l : List ℕ) (done rs : List Frame) : Type 0 where
  new : List Frame
  is : rs ≡ done ++ new
  read : Read s n gs l new

after-frames : (turns : ℕ) (s : List ℕ) (n : ℕ) (gs : List ℕ) (fs : List Fragment) (l : List ℕ) (p : ℕ) (done : List Frame) {rs : List Frame}
    → 0 < n → length l < turns → frames_from turns s n gs fs l p done ≡ ok rs → After s n gs l done rs
unfolding frames_from
after-frames zero s n gs fs l p done some h e = absurd (omega arith)
after-frames (suc turns) s n gs fs l p done {rs} some h e =
    go (eq_cases _ _ _ _ e) (λ r q. after-frames turns s n gs fs (drop r.size l) (p + r.size) (done ++ (r ∷ [])) some q)
  where
    later : Frame → Checked (List Frame)
    later r = frames_from turns s n gs fs (drop r.size l) (p + r.size) (done ++ (r ∷ []))

    go : ((length l ≡ 0) × (ok done ≡ ok rs)) ⊎ ((length l ≡ 0 → ⊥) × (on_framed (frame_at s n gs l) (refused 15 (place_of fs p)) later ≡ ok rs))
        → ((r : Frame) → length (drop r.size l) < turns → later r ≡ ok rs → After s n gs (drop r.size l) (done ++ (r ∷ [])) rs)
        → After s n gs l done rs
    go (inl q) ih = record { new = []; is = sym (ok_same q.1) ∙ sym (append-nil done); read = end q.0 }
    go (inr q) ih =
        let f = on_framed_ok (frame_at s n gs l) 15 (place_of fs p) later q.1 in
        let r : Frame = f.0 in
        let b = frame_fits s n gs l f.1 in
        let c = b.size in
        let y = q.0 in
        let i = ih r (rw length-drop (omega arith)) f.2 in
        let x : 0 < length l = omega arith in
        record { new = r ∷ i.new; is = i.is ∙ append_assoc done (r ∷ []) i.new; read = more x f.1 i.read }

pub frames_read : (s : List ℕ) (n : ℕ) (gs : List ℕ) (fs : List Fragment) {rs : List Frame} → 0 < n → frames s n gs fs ≡ ok rs
    → Read s n gs (joined s fs) rs
unfolding frames
frames_read s n gs fs {rs} some e =
    let a = after-frames (length (joined s fs) + 1) s n gs fs (joined s fs) 0 [] some (omega arith) e in
    subst (Read s n gs (joined s fs)) (sym a.is) a.read

-- the framing of a DG, and its bytes
pub unsorted_frames_lem : (s : List ℕ) (d : ℕ) (gs : List ℕ) (fs : List Fragment) {rs : List Frame} → unsorted_frames s d gs fs ≡ ok rs
    → (size_of fs ≤ most64) × (frames s (id_size s d) gs fs ≡ ok rs)
unfolding unsorted_frames
unsorted_frames_lem s d gs fs {rs} e =
    let read : Checked (List Frame) = frames s (id_size s d) gs fs in
    let sized : Checked (List Frame) = and_then (if_lt most64 (size_of fs) (refused 19 d) fine) (λ _. read) in
    let ranged : Checked (List Frame) = and_then (ranges_in s fs) (λ _. sized) in
    let dts : Checked (List Frame) = and_then (pick (any_dv fs) (refused 14 d) fine) (λ _. ranged) in
    let idd : Checked (List Frame) = and_then (if_eq (id_size s d) 0 (refused 14 d) fine) (λ _. dts) in
    let a1 = then_fine (pick (equal_ids s gs) (refused 14 d) fine) (λ _. idd) e in
    let a2 = then_fine (if_eq (id_size s d) 0 (refused 14 d) fine) (λ _. dts) a1.1 in
    let a3 = then_fine (pick (any_dv fs) (refused 14 d) fine) (λ _. ranged) a2.1 in
    let a4 = then_fine (ranges_in s fs) (λ _. sized) a3.1 in
    let a5 = then_fine (if_lt most64 (size_of fs) (refused 19 d) fine) (λ _. read) a4.1 in
    ((lt_back _ _ _ _ a5.0 refused≢ok).0, a5.1)

-- all of its data is whole records
pub unsorted_whole : (s : List ℕ) (d : ℕ) (gs : List ℕ) (fs : List Fragment) {rs : List Frame} → unsorted_frames s d gs fs ≡ ok rs
    → Read s (id_size s d) gs (joined s fs) rs
unsorted_whole s d gs fs e = frames_read s (id_size s d) gs fs (unsorted_several s d gs fs e).ids (unsorted_frames_lem s d gs fs e).1
