-- The records of a data group: how they are framed, and which refusals they give (document 01, counting and e).
use Rattle.std.specs.Prelude.{ℕ, zero, suc, ◌+◌, ◌-◌, ◌/◌, ◌%◌, List, [], ◌∷◌, ◌++◌, Bool, true, false, length, take, drop, eqb}
use Rattle.base.specs.Choice.{pick, if_lt, if_le, if_eq}
use Rattle.base.specs.Blit.{part}
use Rattle.base.specs.Field.{le_at}
use Rattle.base.specs.Checked.{Checked, ok, refused, and_then, Verdict, fine}
use Rattle.mdf.specs.Chain.{Kind, dt, dv, Fragment}
use Rattle.mdf.specs.Walk.{id_size}
use Rattle.mdf.specs.Group.{record_id, samples, inval_bytes, is_storage}

-- "2^64 − 1"
abbrev pub most64 : ℕ
most64 = 18446744073709551615

-- ---- fragments

-- "4, start of the range: .. a fragment's data (24 past its header) runs past the image"
unfoldable pub ranges_in : List ℕ → List Fragment → Verdict
ranges_in s [] = fine
ranges_in s (f ∷ fs) = if_lt (length s) (f.offset + f.size) (refused 4 f.offset) (ranges_in s fs)

-- "Joined: block data in link order"
unfoldable pub joined : List ℕ → List Fragment → List ℕ
joined s [] = []
joined s (f ∷ fs) = part f.offset f.size s ++ joined s fs

-- "15, record start": the image offset of byte p of the joined data
unfoldable pub place_of : List Fragment → ℕ → ℕ
place_of [] p = 0
place_of (f ∷ fs) p = let later = place_of fs (p - f.size) in if_lt p f.size (f.offset + p) later

-- "DV with several groups or with invalidation bytes" (14): whether there is a DV, an empty one too
abbrev pub is_dv : Kind → Bool
is_dv dt = false
is_dv dv = true

-- the same of fragments
unfoldable pub any_dv : List Fragment → Bool
any_dv [] = false
any_dv (f ∷ fs) = let more = any_dv fs in pick (is_dv f.kind) true more

-- ---- one group: "In a sorted group (one CG in its DG) id bytes aren't looked at."

-- "DT bytes / (id size + samples + invalidation bytes) .. DV bytes / samples": the bytes of a record
abbrev pub record_size : List ℕ → ℕ → ℕ → Kind → ℕ
record_size s d g dt = id_size s d + samples s g + inval_bytes s g
record_size s d g dv = samples s g

-- "without ids (a sorted group's DV has none)": the id bytes of a record
abbrev pub id_bytes : List ℕ → ℕ → Kind → ℕ
id_bytes s d dt = id_size s d
id_bytes s d dv = 0

-- fragments that follow each other with one kind; those without bytes count, so that
-- "A zero-length fragment of the other kind inside a record is a straddle."
pub record Run : Type 0 where
  pub kind : Kind
  pub fragments : List Fragment

-- bookkeeping: equal kinds
abbrev same_kind : Kind → Kind → Bool
same_kind dt dt = true
same_kind dt dv = false
same_kind dv dt = false
same_kind dv dv = true

-- bookkeeping: a fragment in front of runs
unfoldable pub in_front : Fragment → List Run → List Run
in_front f [] = record { kind = f.kind; fragments = f ∷ [] } ∷ []
in_front f (r ∷ rs) =
    pick (same_kind f.kind r.kind) (record { kind = r.kind; fragments = f ∷ r.fragments } ∷ rs)
    (record { kind = f.kind; fragments = f ∷ [] } ∷ r ∷ rs)

-- the runs of fragments
unfoldable pub runs : List Fragment → List Run
runs [] = []
runs (f ∷ fs) = in_front f (runs fs)

-- bookkeeping: the bytes of fragments together
unfoldable pub size_of : List Fragment → ℕ
size_of [] = 0
size_of (f ∷ fs) = f.size + size_of fs

-- "15, record start: a record ends early, straddles DT and DV": a run holds whole records of n bytes, else its last begins at the place;
-- without bytes in a record there are no records ("a zero divisor giving 0")
unfoldable pub run_whole : ℕ → List Fragment → Verdict
run_whole n fs = if_eq n 0 fine (if_eq (size_of fs % n) 0 fine (refused 15 (place_of fs (size_of fs - size_of fs % n))))

-- the same of every run
unfoldable pub runs_whole : List ℕ → ℕ → ℕ → List Run → Verdict
runs_whole s d g [] = fine
runs_whole s d g (r ∷ rs) = and_then (run_whole (record_size s d g r.kind) r.fragments) (λ _. runs_whole s d g rs)

-- bookkeeping: the first k pieces of n bytes each
unfoldable pub pieces : ℕ → ℕ → List ℕ → List (List ℕ)
pieces zero n l = []
pieces (suc k) n l = take n l ∷ pieces k n (drop n l)

-- "without ids"
unfoldable pub without_ids : ℕ → List (List ℕ) → List (List ℕ)
without_ids n [] = []
without_ids n (r ∷ rs) = drop n r ∷ without_ids n rs

-- "from the front of the DG's joined fragments": the records of a run
unfoldable pub run_records : List ℕ → ℕ → ℕ → Run → List (List ℕ)
run_records s d g r =
    let n = record_size s d g r.kind in
    without_ids (id_bytes s d r.kind) (pieces (size_of r.fragments / n) n (joined s r.fragments))

-- "a sorted group (one CG in its DG)": its records
unfoldable pub sorted_records : List ℕ → ℕ → ℕ → List Run → List (List ℕ)
sorted_records s d g [] = []
sorted_records s d g (r ∷ rs) = run_records s d g r ++ sorted_records s d g rs

-- its checks: "14: .. DV .. with invalidation bytes", ranges, records
unfoldable pub sorted_in : List ℕ → ℕ → ℕ → List Fragment → Verdict
sorted_in s d g fs =
    and_then (pick (any_dv fs) (if_eq (inval_bytes s g) 0 fine (refused 14 d)) fine) (λ _.
    and_then (ranges_in s fs) (λ _.
    runs_whole s d g (runs fs)))

-- ---- several groups: "With several groups a record is its id, then samples + invalidation bytes; in a VLSD storage group a 32-bit length
-- and that many bytes follow the id. Such a DG's data is always read to the end." Groups are given by the addresses of their CG

-- bookkeeping: a record: the number of its group in the DG, from 0, its bytes past the id, and the bytes that it takes with its id
pub record Frame : Type 0 where
  pub group : ℕ
  pub bytes : List ℕ
  pub size : ℕ

-- bookkeeping: a record, or data that doesn't begin with one
pub data Framed : Type 0 where
  framed : Frame → Framed
  broken : Framed

-- bookkeeping: the group with an id: its number, counted from k, and its address
pub data Known : Type 0 where
  known : ℕ → ℕ → Known
  unknown : Known

-- the first of the groups whose id it is; "an unknown id" (15) where there is none
unfoldable pub with_id : List ℕ → ℕ → ℕ → List ℕ → Known
with_id s id k [] = unknown
with_id s id k (g ∷ gs) = let later = with_id s id (k + 1) gs in if_eq (record_id s g) id (known k g) later

-- bookkeeping: what follows a known group
abbrev pub on_known : Known → (ℕ → ℕ → Framed) → Framed
on_known unknown f = broken
on_known (known k g) f = f k g

-- "a record ends early" (15): a record of group k with m bytes past its id of n bytes, if what is left of the joined data, d, has them
unfoldable pub of_bytes : List ℕ → ℕ → ℕ → ℕ → Framed
of_bytes d n k m = if_le (n + m) (length d) (framed (record { group = k; bytes = part n m d; size = n + m })) broken

-- "samples + invalidation bytes; in a VLSD storage group a 32-bit length and that many bytes follow the id"
unfoldable pub frame_of : List ℕ → List ℕ → ℕ → ℕ → ℕ → Framed
frame_of s d n k g =
    pick (is_storage s g)
    (if_le (n + 4) (length d) (of_bytes d n k (4 + le_at 4 d n)) broken)
    (of_bytes d n k (samples s g + inval_bytes s g))

-- the record that d begins with; "15: a record ends early .. or has an unknown id"
unfoldable pub frame_at : List ℕ → ℕ → List ℕ → List ℕ → Framed
frame_at s n gs d = if_le n (length d) (on_known (with_id s (le_at n d 0) 0 gs) (λ k g. frame_of s d n k g)) broken

-- bookkeeping: what follows a record
abbrev pub on_framed : Framed → Checked (List Frame) → (Frame → Checked (List Frame)) → Checked (List Frame)
on_framed broken a f = a
on_framed (framed r) a f = f r

-- "Such a DG's data is always read to the end": the records of d, which is what is left past p bytes of the joined data, after those framed before
unfoldable pub frames_from : ℕ → List ℕ → ℕ → List ℕ → List Fragment → List ℕ → ℕ → List Frame → Checked (List Frame)
frames_from zero s n gs fs d p done = ok done
frames_from (suc turns) s n gs fs d p done =
    let here = on_framed (frame_at s n gs d) (refused 15 (place_of fs p))
    (λ r. frames_from turns s n gs fs (drop r.size d) (p + r.size) (done ++ (r ∷ []))) in
    if_eq (length d) 0 (ok done) here

-- the same from the front; each record takes at least its id's bytes, so there are at most as many as bytes
unfoldable pub frames : List ℕ → ℕ → List ℕ → List Fragment → Checked (List Frame)
frames s n gs fs = frames_from (length (joined s fs) + 1) s n gs fs (joined s fs) 0 []

-- bookkeeping: the id is that of one of the groups
unfoldable pub is_id_of : List ℕ → ℕ → List ℕ → Bool
is_id_of s id [] = false
is_id_of s id (g ∷ gs) = let more = is_id_of s id gs in pick (eqb (record_id s g) id) true more

-- "several groups with equal ids" (14)
unfoldable pub equal_ids : List ℕ → List ℕ → Bool
equal_ids s [] = false
equal_ids s (g ∷ gs) = let more = equal_ids s gs in pick (is_id_of s (record_id s g) gs) true more

-- "14 with equal ids first, then missing ids, then DV; fragment ranges; records", of the DG at d with groups gs and fragments fs;
-- "19, DG: the DT bytes .. exceed 2^64 - 1" after the ranges, where an image within the limits can't have it
unfoldable pub unsorted_frames : List ℕ → ℕ → List ℕ → List Fragment → Checked (List Frame)
unsorted_frames s d gs fs =
    and_then (pick (equal_ids s gs) (refused 14 d) fine) (λ _.
    and_then (if_eq (id_size s d) 0 (refused 14 d) fine) (λ _.
    and_then (pick (any_dv fs) (refused 14 d) fine) (λ _.
    and_then (ranges_in s fs) (λ _.
    and_then (if_lt most64 (size_of fs) (refused 19 d) fine) (λ _.
    frames s (id_size s d) gs fs)))))

-- "they are its own": the records of group k among those framed
unfoldable pub unsorted_records : ℕ → List Frame → List (List ℕ)
unsorted_records k [] = []
unsorted_records k (r ∷ rs) = let more = unsorted_records k rs in if_eq r.group k (r.bytes ∷ more) more
