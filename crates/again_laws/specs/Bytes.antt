-- Lists of bytes: closed under joining, parts and fields; so are the records of a group whose image is of bytes.
use Prim.{tt}
use Prim.Native.Nat.{ℕ, zero, suc, ◌+◌, ◌/◌, ◌%◌, ◌<◌}
use mathlib.Core.List.{List, [], ◌∷◌, ◌++◌}
use Rattle.std.specs.Prelude.{Bool, eqb, leb, length, take, drop, set, replicate}
use Rattle.std.proofs.Math.Bool.{true, false}
use Rattle.std.proofs.Common.{arith, lit<}
use Rattle.base.specs.Choice.{pick, if_lt, if_le, if_eq}
use Rattle.base.specs.Field.{le_at, le}
use Rattle.base.specs.Blit.{part, blit}
use Rattle.base.specs.Checked.{Checked, ok, refused, and_then, Verdict, fine}
use Rattle.mdf.specs.Chain.{Fragment}
use Rattle.mdf.specs.Group.{addresses, samples, inval_bytes, is_storage}
use Rattle.mdf.specs.Walk.{id_size}
use Rattle.mdf.specs.Records.{most64, ranges_in, joined, any_dv, equal_ids, runs, Run, record_size, id_bytes, pieces, without_ids, run_records, sorted_records, size_of, Frame, Framed, framed, broken, Known, known, unknown, with_id, on_known, of_bytes, frame_of, frame_at, on_framed, frames_from, frames, unsorted_frames, unsorted_records}
use Rattle.plan.specs.Columns.{SrcGroup}
use Rattle.result.specs.Payload.{framed_records, group_records, records_of}
use Rattle.guarantee.specs.Theorem.{AllBytes}

-- every element is below 256
pub data Bytes : List ℕ → Type 0 where
  none : Bytes []
  next : {b : ℕ} {bs : List ℕ} → b < 256 → Bytes bs → Bytes (b ∷ bs)

pub bytes_of : (s : List ℕ) → AllBytes s → Bytes s
bytes_of [] h = none
bytes_of (b ∷ bs) h = next (h 0) (bytes_of bs (λ i. h (suc i)))

pub bytes-all : {s : List ℕ} → Bytes s → AllBytes s
bytes-all none i = lit< tt
bytes-all (next h l) zero = h
bytes-all (next h l) (suc i) = bytes-all l i

-- ---- joining, parts, stores
pub bytes-append : {xs ys : List ℕ} → Bytes xs → Bytes ys → Bytes (xs ++ ys)
bytes-append none l = l
bytes-append (next h k) l = next h (bytes-append k l)

pub bytes_take : {l : List ℕ} (n : ℕ) → Bytes l → Bytes (take n l)
bytes_take zero h = none
bytes_take (suc n) none = none
bytes_take (suc n) (next h l) = next h (bytes_take n l)

pub bytes_drop : {l : List ℕ} (n : ℕ) → Bytes l → Bytes (drop n l)
bytes_drop zero h = h
bytes_drop (suc n) none = none
bytes_drop (suc n) (next h l) = bytes_drop n l

pub bytes-part : {l : List ℕ} (i n : ℕ) → Bytes l → Bytes (part i n l)
unfolding part
bytes-part i n h = bytes_take n (bytes_drop i h)

pub bytes-zeros : (n : ℕ) → Bytes (replicate n 0)
bytes-zeros zero = none
bytes-zeros (suc n) = next (lit< tt) (bytes-zeros n)

pub bytes-set : {l : List ℕ} (i b : ℕ) → b < 256 → Bytes l → Bytes (set l i b)
bytes-set i b h none = none
bytes-set zero b h (next k l) = next h l
bytes-set (suc i) b h (next k l) = next k (bytes-set i b h l)

pub bytes-blit : {bs l : List ℕ} (i : ℕ) → Bytes bs → Bytes l → Bytes (blit i bs l)
unfolding blit
bytes-blit i none k = k
bytes-blit i (next {b} h l) k = bytes-blit (suc i) l (bytes-set i b h k)

-- ---- a field
pub bytes_le : (n x : ℕ) → Bytes (le n x)
unfolding le
bytes_le zero x = none
bytes_le (suc n) x = next {b = x % 256} (omega arith) (bytes_le n (x / 256))

pub bytes-pick : {xs ys : List ℕ} (t : Bool) → Bytes xs → Bytes ys → Bytes (pick t xs ys)
bytes-pick true h k = h
bytes-pick false h k = k

-- ---- lists of lists of bytes
pub data Rows : List (List ℕ) → Type 0 where
  no_rows : Rows []
  row : {r : List ℕ} {rs : List (List ℕ)} → Bytes r → Rows rs → Rows (r ∷ rs)

pub rows_append : {rs ts : List (List ℕ)} → Rows rs → Rows ts → Rows (rs ++ ts)
rows_append no_rows t = t
rows_append (row h k) t = row h (rows_append k t)

pub rows_take : {rs : List (List ℕ)} (n : ℕ) → Rows rs → Rows (take n rs)
rows_take zero h = no_rows
rows_take (suc n) no_rows = no_rows
rows_take (suc n) (row h l) = row h (rows_take n l)

pub rows_drop : {rs : List (List ℕ)} (n : ℕ) → Rows rs → Rows (drop n rs)
rows_drop zero h = h
rows_drop (suc n) no_rows = no_rows
rows_drop (suc n) (row h l) = rows_drop n l

-- ---- records
module _ {s : List ℕ} (b : Bytes s) where
  pub joined_bytes : (fs : List Fragment) → Bytes (joined s fs)
  unfolding joined
  joined_bytes [] = none
  joined_bytes (f ∷ fs) = bytes-append (bytes-part f.offset f.size b) (joined_bytes fs)

  pieces_rows : (k n : ℕ) (l : List ℕ) → Bytes l → Rows (pieces k n l)
  unfolding pieces
  pieces_rows zero n l h = no_rows
  pieces_rows (suc k) n l h = row (bytes_take n h) (pieces_rows k n (drop n l) (bytes_drop n h))

  without_rows : {rs : List (List ℕ)} (n : ℕ) → Rows rs → Rows (without_ids n rs)
  unfolding without_ids
  without_rows n no_rows = no_rows
  without_rows n (row h l) = row (bytes_drop n h) (without_rows n l)

  sorted_rows : (d g : ℕ) (rs : List Run) → Rows (sorted_records s d g rs)
  unfolding sorted_records run_records
  sorted_rows d g [] = no_rows
  sorted_rows d g (r ∷ rs) =
      rows_append (without_rows (id_bytes s d r.kind)
      (pieces_rows (size_of r.fragments / record_size s d g r.kind) (record_size s d g r.kind) (joined s r.fragments) (joined_bytes r.fragments)))
      (sorted_rows d g rs)

  -- a record that was framed, and records
  data FrameBytes : Framed → Type 0 where
    one : {r : Frame} → Bytes r.bytes → FrameBytes (framed r)
    lost : FrameBytes broken

  data FramesBytes : List Frame → Type 0 where
    no_frames : FramesBytes []
    frame : {r : Frame} {rs : List Frame} → Bytes r.bytes → FramesBytes rs → FramesBytes (r ∷ rs)

  data AnswerBytes : Checked (List Frame) → Type 0 where
    yes : {rs : List Frame} → FramesBytes rs → AnswerBytes (ok rs)
    stop : {number place : ℕ} → AnswerBytes (refused number place)

  frames-more : {rs : List Frame} (r : Frame) → FramesBytes rs → Bytes r.bytes → FramesBytes (rs ++ (r ∷ []))
  frames-more r no_frames h = frame h no_frames
  frames-more r (frame k l) h = frame k (frames-more r l h)

  le_frame : (m n : ℕ) (x y : Framed) → FrameBytes x → FrameBytes y → FrameBytes (if_le m n x y)
  unfolding if_le
  le_frame m n x y h k = go (leb m n)
    where
      go : (t : Bool) → FrameBytes (pick t x y)
      go true = h
      go false = k

  of-bytes : (d : List ℕ) (n k m : ℕ) → Bytes d → FrameBytes (of_bytes d n k m)
  unfolding of_bytes
  of-bytes d n k m h = le_frame (n + m) (length d) _ _ (one (bytes-part n m h)) lost

  frame_of_lem : (d : List ℕ) (n k g : ℕ) → Bytes d → FrameBytes (frame_of s d n k g)
  unfolding frame_of
  frame_of_lem d n k g h = go (is_storage s g)
    where
      go : (t : Bool) → FrameBytes (pick t (if_le (n + 4) (length d) (of_bytes d n k (4 + le_at 4 d n)) broken) (of_bytes d n k (samples s g + inval_bytes s g)))
      go true = le_frame (n + 4) (length d) _ _ (of-bytes d n k (4 + le_at 4 d n) h) lost
      go false = of-bytes d n k (samples s g + inval_bytes s g) h

  known_frame : (d : List ℕ) (n : ℕ) → Bytes d → (o : Known) → FrameBytes (on_known o (λ k g. frame_of s d n k g))
  known_frame d n h unknown = lost
  known_frame d n h (known k g) = frame_of_lem d n k g h

  frame_at_lem : (n : ℕ) (gs d : List ℕ) → Bytes d → FrameBytes (frame_at s n gs d)
  unfolding frame_at
  frame_at_lem n gs d h = le_frame n (length d) _ _ (known_frame d n h (with_id s (le_at n d 0) 0 gs)) lost

  eq_answer : (m n : ℕ) (x y : Checked (List Frame)) → AnswerBytes x → AnswerBytes y → AnswerBytes (if_eq m n x y)
  unfolding if_eq
  eq_answer m n x y h k = go (eqb m n)
    where
      go : (t : Bool) → AnswerBytes (pick t x y)
      go true = h
      go false = k

  framed_answer : {o : Framed} (x : Checked (List Frame)) (f : Frame → Checked (List Frame)) → FrameBytes o → AnswerBytes x
      → ((r : Frame) → Bytes r.bytes → AnswerBytes (f r)) → AnswerBytes (on_framed o x f)
  framed_answer x f (one {r} h) a g = g r h
  framed_answer x f lost a g = a

  from_bytes : (turns n : ℕ) (gs : List ℕ) (fs : List Fragment) (d : List ℕ) (p : ℕ) (done : List Frame) → Bytes d → FramesBytes done
      → AnswerBytes (frames_from turns s n gs fs d p done)
  unfolding frames_from
  from_bytes zero n gs fs d p done h k = yes k
  from_bytes (suc turns) n gs fs d p done h k =
      eq_answer (length d) 0 _ _ (yes k)
      (framed_answer _ (λ r. frames_from turns s n gs fs (drop r.size d) (p + r.size) (done ++ (r ∷ []))) (frame_at_lem n gs d h) stop
      (λ r q. from_bytes turns n gs fs (drop r.size d) (p + r.size) (done ++ (r ∷ [])) (bytes_drop r.size h) (frames-more r k q)))

  then_answer : (v : Verdict) (x : Checked (List Frame)) → AnswerBytes x → AnswerBytes (and_then v (λ _. x))
  then_answer (ok u) x h = h
  then_answer (refused number place) x h = stop

  unsorted_bytes : (d : ℕ) (gs : List ℕ) (fs : List Fragment) → AnswerBytes (unsorted_frames s d gs fs)
  unfolding unsorted_frames frames
  unsorted_bytes d gs fs =
      then_answer (pick (equal_ids s gs) (refused 14 d) fine) _
      (then_answer (if_eq (id_size s d) 0 (refused 14 d) fine) _
      (then_answer (pick (any_dv fs) (refused 14 d) fine) _
      (then_answer (ranges_in s fs) _
      (then_answer (if_lt most64 (size_of fs) (refused 19 d) fine) _
      (from_bytes (length (joined s fs) + 1) (id_size s d) gs fs (joined s fs) 0 [] (joined_bytes fs) no_frames)))))

  unsorted_rows : {rs : List Frame} (k : ℕ) → FramesBytes rs → Rows (unsorted_records k rs)
  unfolding unsorted_records if_eq
  unsorted_rows k no_frames = no_rows
  unsorted_rows k (frame {r} {rs} h l) = go (eqb r.group k) (unsorted_rows k l)
    where
      go : (t : Bool) → Rows (unsorted_records k rs) → Rows (pick t (r.bytes ∷ unsorted_records k rs) (unsorted_records k rs))
      go true more = row h more
      go false more = more

  framed_rows : {v : Checked (List Frame)} (k : ℕ) → AnswerBytes v → Rows (framed_records k v)
  framed_rows k (yes h) = unsorted_rows k h
  framed_rows k stop = no_rows

  group_rows : (d k : ℕ) (gs : List ℕ) (fs : List Fragment) → Rows (group_records s d k gs fs)
  group_rows d k [] fs = no_rows
  group_rows d k (g ∷ []) fs = sorted_rows d g (runs fs)
  group_rows d k (g ∷ h ∷ gs) fs = framed_rows k (unsorted_bytes d (g ∷ h ∷ gs) fs)

  -- the records of a group
  pub records_rows : (g : SrcGroup) → Rows (records_of s g)
  unfolding records_of
  records_rows g = group_rows g.data_group.at g.number (addresses g.data_group.groups) g.data_group.fragments
