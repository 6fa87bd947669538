-- Laws of what is ahead of a place between two records of several groups.
use Prim.Native.Nat.{ℕ, ◌+◌, ◌-◌, ◌≤◌, ◌<◌}
use Rattle.std.specs.Prelude.{Bool, true, false, not, Option, Some, None, ◌≡◌, refl, get_or}
use mathlib.Core.List.{List, [], ◌∷◌}
use Rattle.std.proofs.Common.{sym, ap, ◌∙◌, subst, arith, length-append}
use Rattle.std.proofs.Math.ListN.{length, drop, length-drop}
use Rattle.std.proofs.Math.Seq.{drop-drop}
use Rattle.base.specs.ChoiceLaws.{eq_yes, eq_no}
use Rattle.base.specs.Blit.{part}
use Rattle.base.specs.Checked.{ok, fine}
use Rattle.mdf.specs.Chain.{Fragment}
use Rattle.mdf.specs.Walk.{id_size}
use Rattle.mdf.specs.Group.{is_storage}
use Rattle.mdf.specs.Records.{most64, joined, equal_ids, Frame, framed, broken, frame_at, unsorted_frames, unsorted_records}
use Rattle.work_words.specs.Words.{fragments_of}
use Rattle.plan.specs.Data.{records_in}
use Rattle.result.specs.Payload.{framed_records, group_records}
use Rattle.payload_laws.specs.SortedLaws.{joined_length}
use Rattle.records.specs.Table.{Tabled}
use Rattle.payload_laws.specs.FramedLaws.{KnownFrame, AllKnown, next, counted-group, unsorted_several, framed_few}
use Rattle.records.specs.declared.framing.Record.{Record}
use Rattle.records.specs.Ahead.{fragments_from, ahead, stepped, step_at, step_to}
use Rattle.records.specs.Answer.{reached_of}
use Rattle.records.specs.AnswerLaws.{so_broken, so_record}
use Rattle.records.specs.FragmentLaws.{from_start, from_more, from-none}
use Rattle.records.specs.AheadLaws.{ahead-counts, joined-ahead, part-all}
use Rattle.records.specs.ReadingLaws.{Stepping, stepping, stuck_broken}
use Rattle.places.specs.Stretch.{body_bytes}
use Rattle.places.specs.Several.{Read, end, more}
use Rattle.places.specs.SeveralLaws.{broken≢framed, frame_fits, frames_read, unsorted_frames_lem}
use Rattle.places.specs.ScanLaws.{checked_frames}
use Rattle.places.specs.Longer.{RecordAt}
use Rattle.places.specs.Facing.{Facing, Faced, FoundAt}
use Rattle.places.specs.declared.stretch.Scan.{Scan}
use Rattle.places.specs.declared.frame.Found.{Found}

same_frame : {q r : Frame} → framed q ≡ framed r → q ≡ r
same_frame e = cc

-- ---- a DG with several groups whose records were read to the end
pub record Whole (s : List ℕ) (d : ℕ) (gs ws : List ℕ) : Type 0 where
  pub frames : List Frame
  pub is : unsorted_frames s d gs (fragments_of ws) ≡ ok frames
  pub id : 0 < id_size s d
  pub apart : equal_ids s gs ≡ false
  pub read : Read s (id_size s d) gs (joined s (fragments_of ws)) frames
  pub known : AllKnown s (id_size s d) gs frames
  pub bytes : length (joined s (fragments_of ws)) ≤ most64
  pub records : (k : ℕ) → length (unsorted_records k frames) ≤ most64

framed_whole : (s : List ℕ) (d : ℕ) (gs ws : List ℕ) {rs : List Frame} → unsorted_frames s d gs (fragments_of ws) ≡ ok rs → Whole s d gs ws
framed_whole s d gs ws {rs} e =
    let fs : List Fragment = fragments_of ws in
    let v = unsorted_several s d gs fs e in
    let u = unsorted_frames_lem s d gs fs e in
    let u0 = u.0 in
    let j = joined_length s fs v.ranges in
    record {
      frames = rs;
      is = e;
      id = v.ids;
      apart = v.distinct;
      read = frames_read s (id_size s d) gs fs v.ids u.1;
      known = v.known;
      bytes = omega (arith, j, u0);
      records = λ k. let a = counted-group k rs in let b = framed_few k v in omega (arith, a, b, u0);
    }

-- what was checked was framed
pub whole_checked : (s : List ℕ) (d : ℕ) (gs ws : List ℕ) → (length gs ≡ 1 → ⊥) → 0 < length gs → records_in s d gs (fragments_of ws) ≡ fine
    → Whole s d gs ws
whole_checked s d gs ws o h e = framed_whole s d gs ws (checked_frames s d gs ws h o e).1

pub group_framed : (s : List ℕ) (d k : ℕ) (gs : List ℕ) (fs : List Fragment) → (length gs ≡ 1 → ⊥) → 0 < length gs
    → group_records s d k gs fs ≡ framed_records k (unsorted_frames s d gs fs)
group_framed s d k [] fs o h = absurd (omega arith)
group_framed s d k (g ∷ []) fs o h = absurd (o refl)
group_framed s d k (g ∷ i ∷ gs) fs o h = refl

-- ---- a place between two records
length-zero : (l : List ℕ) → length l ≡ 0 → l ≡ []
length-zero [] e = refl
length-zero (x ∷ l) e = absurd (omega arith)

module _ (s ws : List ℕ) (at p l : ℕ) {here : ℕ} (is : here ≡ length (part p l s)) where
  none_here : here ≡ 0 → joined s (ahead s ws at p l) ≡ joined s (fragments_from ws at)
  none_here q = joined-ahead s ws at p l ∙ rw (length-zero (part p l s) (sym is ∙ q))

  joined_end : here ≡ 0 → length ws < at + 3 → joined s (ahead s ws at p l) ≡ []
  unfolding joined
  joined_end q h = none_here q ∙ rw (from-none ws at h)

  joined-next : {o z : ℕ} → here ≡ 0 → at + 3 ≤ length ws → o ≡ get_or ws at 0 → z ≡ get_or ws (at + 1) 0
      → joined s (ahead s ws at p l) ≡ joined s (ahead s ws (at + 3) o z)
  unfolding joined
  joined-next {o} {z} q h x y = none_here q ∙ rw (from_more ws at h, joined-ahead s ws (at + 3) o z, x, y)

  joined-some : (here ≡ 0 → ⊥) → 0 < length (joined s (ahead s ws at p l))
  joined-some q =
      let a = ap length (joined-ahead s ws at p l) in
      let b = length-append (part p l s) (joined s (fragments_from ws at)) in
      omega arith

-- the place before all records
pub face_start : (s : List ℕ) (d : ℕ) (gs ws : List ℕ) (w : Whole s d gs ws) → Facing s (id_size s d) gs ws 0 0 0 0 w.frames
face_start s d gs ws w =
    let e : 0 ≡ length (part 0 0 s) = sym (part-all 0 0 s (omega arith)) in
    record {
      rest = none_here s ws 0 0 0 e refl ∙ rw (from_start ws);
      within = omega arith;
      read = w.read;
      known = w.known;
    }

stepped_same : {j k i m : ℕ} {hs bs : List Fragment} → stepped j i hs ≡ stepped k m bs → i ≡ m
stepped_same e = cc

step-size : (s : List ℕ) (n : ℕ) (gs : List ℕ) (hs : List Fragment) {k m : ℕ} {bs : List Fragment} → step_at s n gs hs ≡ stepped k m bs
    → (t : Stepping s n gs hs k bs) → t.frame.size - n ≡ m
unfolding step_at
step-size s n gs hs e t = stepped_same (rw (t.is, t.on) at e)

record FirstRead (s : List ℕ) (n : ℕ) (gs l : List ℕ) (r : Frame) (rs : List Frame) : Type 0 where
  later : List Frame
  is : rs ≡ r ∷ later
  read : Read s n gs (drop r.size l) later

first_read : {s : List ℕ} {n : ℕ} {gs l : List ℕ} {r : Frame} {rs : List Frame} → 0 < length l → frame_at s n gs l ≡ framed r → Read s n gs l rs
    → FirstRead s n gs l r rs
first_read z f (end y) = absurd (omega arith)
first_read {s} {n} {gs} {l} {r} z f (more {r = q} {rs = rs} y g k) =
    let e : q ≡ r = same_frame (sym g ∙ f) in
    record { later = rs; is = ap (λ (x : Frame). x ∷ rs) e; read = subst (λ (x : Frame). Read s n gs (drop x.size l) rs) e k }

first-known : {s gs : List ℕ} {n : ℕ} {r : Frame} {rs : List Frame} → AllKnown s n gs (r ∷ rs) → KnownFrame s n gs r × AllKnown s n gs rs
first-known (next k l) = (k, l)

module _ {s : List ℕ} {n : ℕ} {gs ws : List ℕ} {at p l offset : ℕ} {rs : List Frame} (t : Facing s n gs ws at p l offset rs) {here : ℕ}
    (is : here ≡ length (part p l s)) where
  -- no bytes here: the next fragment, or the end
  pub face_move : {o z : ℕ} → here ≡ 0 → at + 3 ≤ length ws → o ≡ get_or ws at 0 → z ≡ get_or ws (at + 1) 0
      → Facing s n gs ws (at + 3) o z offset rs
  face_move q h x y =
      record { rest = sym (joined-next s ws at p l is q h x y) ∙ t.rest; within = t.within; read = t.read; known = t.known }

  pub face_end : here ≡ 0 → length ws < at + 3 → rs ≡ []
  face_end q h = go (ap length (sym t.rest ∙ joined_end s ws at p l is q h)) t.read
    where
      go : {m : List ℕ} {qs : List Frame} → length m ≡ 0 → Read s n gs m qs → qs ≡ []
      go e (end y) = refl
      go e (more y g k) = absurd (omega arith)

  face_some : (here ≡ 0 → ⊥) → 0 < length (drop offset (joined s (fragments_of ws)))
  face_some q = rw t.rest at (joined-some s ws at p l is q)

  -- a record
  module _ (q : here ≡ 0 → ⊥) {o : Option Record} (e : reached_of o ≡ step_to s n gs (ahead s ws at p l) at) where
    pub face_broken : o ≡ None → ⊥
    face_broken b = go (face_some q) t.read
      where
        no_frame : frame_at s n gs (drop offset (joined s (fragments_of ws))) ≡ broken
        no_frame =
            rw t.rest at
            (stuck_broken s n gs (ahead s ws at p l) (ahead-counts s ws at p l)
            (so_broken s n gs ws (record { at = at; position = p; left = l }) e b))

        go : {qs : List Frame} → 0 < length (drop offset (joined s (fragments_of ws))) → Read s n gs (drop offset (joined s (fragments_of ws))) qs
            → ⊥
        go z (end y) = omega arith
        go z (more y g k) = broken≢framed (sym no_frame ∙ g)

    pub face_record : {x : Record} → o ≡ Some x
        → Faced s n gs ws rs x.group (offset + n) x.next.at x.next.position x.next.left (offset + n + x.bytes)
        × (offset + n + x.bytes ≤ length (joined s (fragments_of ws)))
    unfolding part
    face_record {x} b =
        let m : ℕ = x.bytes in
        let a = so_record s n gs ws (record { at = at; position = p; left = l }) e b in
        let k : Stepping s n gs (ahead s ws at p l) x.group (ahead s ws x.next.at x.next.position x.next.left) =
        stepping s n gs (ahead s ws at p l) a in
        let r : Frame = k.frame in
        let J : List ℕ = joined s (fragments_of ws) in
        let f : frame_at s n gs (drop offset J) ≡ framed r = rw t.rest at k.is in
        let u = first_read (face_some q) f t.read in
        let w = first-known (subst (AllKnown s n gs) u.is t.known) in
        let i = frame_fits s n gs (drop offset J) f in
        let i1 = i.size in
        let i2 = i.within in
        let i3 = length-drop offset J in
        let z = step-size s n gs (ahead s ws at p l) a k in
        let g = k.group_is in
        let c : length r.bytes ≡ m = omega (arith, z, i1) in
        let y : r.size ≡ n + m = omega (arith, z, i1) in
        let v : offset + n + m ≤ length J = omega (arith, y, i2, i3, t.within) in
        let d1 : drop r.size (drop offset J) ≡ drop (offset + n + m) J =
        drop-drop r.size offset J ∙ (let h : offset + r.size ≡ offset + n + m = omega (arith, y) in rw h) in (
          record {
            first = r;
            later = u.later;
            is = u.is;
            group = g;
            listed = rw g at w.0.within;
            bytes = i.bytes ∙ rw (drop-drop n offset J);
            inside = omega (arith, c, v);
            long = rw g at w.0.long;
            facing = record {
              rest = (ahead-counts s ws at p l).drops r.size k.on ∙ rw t.rest d1;
              within = v;
              read = rw d1 at u.read;
              known = w.1;
            };
          },
          v,
        )

-- ---- the record that follows
pub not-false : (b : Bool) → not b ≡ false → b ≡ true
not-false true e = refl
not-false false e = sym e

pub not-true : (b : Bool) → not b ≡ true → b ≡ false
not-true true e = sym e
not-true false e = refl

step_for : (s : List ℕ) (n : ℕ) (gs ws : List ℕ) (at p l i : ℕ) (x : Option Record) → n ≡ i → reached_of x ≡ step_to s n gs (ahead s ws at p l) at
    → reached_of x ≡ step_to s i gs (ahead s ws at p l) at
step_for s n gs ws at p l i x q e = e ∙ ap (λ (m : ℕ). step_to s m gs (ahead s ws at p l) at) q

-- the same records are ahead of two places
pub record Ahead (s : List ℕ) (n : ℕ) (gs ws : List ℕ) (c : Scan) (at p l : ℕ) : Type 0 where
  pub on : (d : ℕ) → n ≡ id_size s d → (rs : List Frame) → Facing s (id_size s d) gs ws c.at c.position c.left c.offset rs
      → Facing s (id_size s d) gs ws at p l c.offset rs

pub ahead_begin : {s : List ℕ} {n : ℕ} {gs ws : List ℕ} {c : Scan} → Ahead s n gs ws c c.at c.position c.left
ahead_begin = record { on = λ d i rs f. f }

none_found : {A : Type 0} {x : Found} → ◌≡◌ {A = Option Found} None (Some x) → A
none_found e = absurd (let z : ◌≡◌ {A = ℕ} 0 1 = cc in omega arith)

some_found : {A : Type 0} {x : Found} → ◌≡◌ {A = Option Found} (Some x) None → A
some_found e = absurd (let z : ◌≡◌ {A = ℕ} 0 1 = cc in omega arith)

same_found : {x y : Found} → ◌≡◌ {A = Option Found} (Some x) (Some y) → y ≡ x
same_found e = cc

module _ (s : List ℕ) (n : ℕ) (gs ws ids sizes : List ℕ) (c : Scan) where
  -- none is found
  nothing : ((d : ℕ) → n ≡ id_size s d → 0 < n → Tabled s gs ids sizes → length (joined s (fragments_of ws)) ≤ most64 → (rs : List Frame)
      → Facing s (id_size s d) gs ws c.at c.position c.left c.offset rs → rs ≡ []) → FoundAt s n gs ws ids sizes c None
  nothing f = record {
    further = λ r e. none_found e;
    number = λ r e. none_found e;
    right = λ d i some tb few rs g. (λ _. f d i some tb few rs g, λ r e. none_found e);
  }

  pub found-without : n ≡ 0 → FoundAt s n gs ws ids sizes c None
  found-without z = nothing (λ d i h tb few rs f. absurd (omega arith))

  module _ {at p l : ℕ} (t : Ahead s n gs ws c at p l) {here : ℕ} (is : here ≡ length (part p l s)) where
    pub ahead_move : {o z : ℕ} → here ≡ 0 → at + 3 ≤ length ws → o ≡ get_or ws at 0 → z ≡ get_or ws (at + 1) 0 → Ahead s n gs ws c (at + 3) o z
    ahead_move q h x y = record { on = λ d i rs f. face_move (t.on d i rs f) is q h x y }

    pub found_end : here ≡ 0 → length ws < at + 3 → FoundAt s n gs ws ids sizes c None
    found_end q h = nothing (λ d i some tb few rs f. face_end (t.on d i rs f) is q h)

    module _ (q : here ≡ 0 → ⊥) (x : Option Record) (e : Tabled s gs ids sizes → reached_of x ≡ step_to s n gs (ahead s ws at p l) at) where
      pub found_broken : x ≡ None → FoundAt s n gs ws ids sizes c None
      found_broken b =
          nothing (λ d i some tb few rs f. absurd (face_broken (t.on d i rs f) is q (step_for s n gs ws at p l (id_size s d) x i (e tb)) b))

      module _ {y : Record} (b : x ≡ Some y) where
        -- numbers of 64 bits are enough
        pub found_far : most64 < c.offset + n + y.bytes → FoundAt s n gs ws ids sizes c None
        found_far h =
            nothing (λ d i some tb few rs f.
            let a = (face_record (t.on d i rs f) is q (step_for s n gs ws at p l (id_size s d) x i (e tb)) b).1 in
            absurd (omega (arith, h, a, few, i)))

        pub found_record : 0 < n → {place offset : ℕ} → place ≡ c.offset + n → offset ≡ place + y.bytes → offset ≤ most64
            → FoundAt s n gs ws ids sizes c
            (Some (record {
              group = y.group;
              place = place;
              past = record { at = y.next.at; position = y.next.position; left = y.next.left; offset = offset; number = c.number };
            }))
        found_record z {place} {offset} pl of h = record {
          further = λ r v. rw (same_found v) (omega arith, h);
          number = λ r v. rw (same_found v);
          right = λ d i some tb few rs f. (
            λ v. some_found v,
            λ r v.
                let a = (face_record (t.on d i rs f) is q (step_for s n gs ws at p l (id_size s d) x i (e tb)) b).0 in
                rw (same_found v, of, pl)
                (subst (λ (k : ℕ). Faced s (id_size s d) gs ws rs y.group (c.offset + k) y.next.at y.next.position y.next.left (c.offset + k + y.bytes)) (sym i) a),
          );
        }

-- ---- the records of one group: those of rs are the group's from number i on
pub record Numbered (s : List ℕ) (d k : ℕ) (gs ws : List ℕ) (rs : List Frame) (i : ℕ) : Type 0 where
  pub records : unsorted_records k rs ≡ drop i (group_records s d k gs (fragments_of ws))
  pub few : i ≤ length (group_records s d k gs (fragments_of ws))

own_yes : (k : ℕ) (r : Frame) (rs : List Frame) → r.group ≡ k → unsorted_records k (r ∷ rs) ≡ r.bytes ∷ unsorted_records k rs
unfolding unsorted_records
own_yes k r rs e = sym (eq_yes _ _ _ _ e refl)

own_no : (k : ℕ) (r : Frame) (rs : List Frame) → (r.group ≡ k → ⊥) → unsorted_records k (r ∷ rs) ≡ unsorted_records k rs
unfolding unsorted_records
own_no k r rs e = sym (eq_no _ _ _ _ e refl)

own-none : (k : ℕ) → length (unsorted_records k []) ≡ 0
unfolding unsorted_records
own-none k = refl

drop-next : {A : Type 0} (l : List A) (i : ℕ) {x : A} {xs : List A} → drop i l ≡ x ∷ xs → drop (i + 1) l ≡ xs
drop-next l i e = sym (drop-drop 1 i l) ∙ ap (drop 1) e

drop_low : {A : Type 0} (l : List A) (i : ℕ) {x : A} {xs : List A} → drop i l ≡ x ∷ xs → i < length l
drop_low l i e = let a = ap length e in let b = length-drop i l in omega arith

module _ (s : List ℕ) (d k : ℕ) (gs ws : List ℕ) (o : length gs ≡ 1 → ⊥) (w : Whole s d gs ws) where
  pub framed_is : 0 < length gs → group_records s d k gs (fragments_of ws) ≡ unsorted_records k w.frames
  framed_is h = group_framed s d k gs (fragments_of ws) o h ∙ ap (framed_records k) w.is

  pub numbered-start : 0 < length gs → Numbered s d k gs ws w.frames 0
  numbered-start h = record { records = sym (framed_is h); few = omega arith }

module _ {s : List ℕ} {d k : ℕ} {gs ws : List ℕ} {rs : List Frame} {i : ℕ} (t : Numbered s d k gs ws rs i) where
  pub numbered_end : rs ≡ [] → length (group_records s d k gs (fragments_of ws)) ≤ i
  numbered_end e =
      let a = own-none k in
      let b : length (unsorted_records k []) ≡ length (drop i (group_records s d k gs (fragments_of ws))) = ap length (rw e at t.records) in
      let c = length-drop i (group_records s d k gs (fragments_of ws)) in
      omega arith

  module _ {n j place at' p' l' offset' : ℕ} (f : Faced s n gs ws rs j place at' p' l' offset') where
    pub numbered-other : (j ≡ k → ⊥) → Numbered s d k gs ws f.later i
    numbered-other q =
        let g = f.group in
        record {
          records = sym (own_no k f.first f.later (λ e. q (sym g ∙ e))) ∙ (rw f.is at t.records);
          few = t.few;
        }

    own-here : j ≡ k → drop i (group_records s d k gs (fragments_of ws)) ≡ f.first.bytes ∷ unsorted_records k f.later
    own-here q = sym (rw f.is at t.records) ∙ own_yes k f.first f.later (f.group ∙ q)

    pub numbered-own : j ≡ k → Numbered s d k gs ws f.later (i + 1)
    numbered-own q =
        let a = own-here q in
        let h = drop_low (group_records s d k gs (fragments_of ws)) i a in
        record { records = sym (drop-next (group_records s d k gs (fragments_of ws)) i a); few = omega arith }

    pub own_low : j ≡ k → i < length (group_records s d k gs (fragments_of ws))
    own_low q = drop_low (group_records s d k gs (fragments_of ws)) i (own-here q)

    pub own_at : j ≡ k → is_storage s (get_or gs k 0) ≡ false → RecordAt s d k gs ws i place
    own_at q h =
        let a = own-here q in
        let e : length f.first.bytes ≡ body_bytes s (get_or gs k 0) = rw q at f.long h in
        let v = f.inside in
        record {
          is = a ∙ rw (f.bytes, e, drop-next (group_records s d k gs (fragments_of ws)) i a);
          inside = omega (arith, e, v);
        }
