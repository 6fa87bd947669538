-- What is ahead in a data group's joined data: the bytes left from a position of the image on, then the fragments whose words begin at
-- an index. What would lie past the image is left out, as `joined` leaves it out.
use Rattle.std.specs.Prelude.{ℕ, ◌+◌, ◌-◌, List, [], ◌∷◌, length, get_or, drop}
use Rattle.base.specs.Choice.{if_le}
use Rattle.base.specs.Blit.{part}
use Rattle.mdf.specs.Chain.{dt, Fragment}
use Rattle.work_words.specs.Words.{kind_of, fragments_of}
use Rattle.mdf.specs.Records.{Framed, framed, broken, joined, frame_at}

-- the fragment whose words begin at i
abbrev pub fragment_at : List ℕ → ℕ → Fragment
fragment_at ws i = record { offset = get_or ws i 0; size = get_or ws (i + 1) 0; kind = kind_of (get_or ws (i + 2) 0) }

-- the fragments whose words begin at i or later
unfoldable pub fragments_from : List ℕ → ℕ → List Fragment
fragments_from ws i = fragments_of (drop i ws)

-- the part of the image at o, as many of the n bytes as there are; which kind it is no longer matters
abbrev pub within : List ℕ → ℕ → ℕ → Fragment
within s o n = record { offset = o; size = length (part o n s); kind = dt }

unfoldable pub clipped : List ℕ → List Fragment → List Fragment
clipped s [] = []
clipped s (f ∷ fs) = within s f.offset f.size ∷ clipped s fs

unfoldable pub ahead : List ℕ → List ℕ → ℕ → ℕ → ℕ → List Fragment
ahead s ws at position left = within s position left ∷ clipped s (fragments_from ws at)

-- what is ahead past m bytes, if there are so many
pub data Skipped : Type 0 where
  short : Skipped
  onto : List Fragment → Skipped

unfoldable pub skip : ℕ → List Fragment → Skipped
skip m [] = short
skip m (f ∷ fs) =
    let later = skip (m - f.size) fs in
    if_le m f.size (onto (record { offset = f.offset + m; size = f.size - m; kind = f.kind } ∷ fs)) later

-- the same by numbers: the index of the words of the fragments that follow, a position of the image, and the bytes left of its fragment.
-- `at` is the index of the words of the fragments past the first
pub data Spot : Type 0 where
  nowhere : Spot
  spot : ℕ → ℕ → ℕ → Spot

unfoldable pub spot_past : ℕ → List Fragment → ℕ → Spot
spot_past m [] at = nowhere
spot_past m (f ∷ fs) at =
    let later = spot_past (m - f.size) fs (at + 3) in
    if_le m f.size (spot at (f.offset + m) (f.size - m)) later

-- a step: the number of the record's group, its bytes past the id, and what is ahead past it
pub data Stepped : Type 0 where
  stepped : ℕ → ℕ → List Fragment → Stepped
  stuck : Stepped

abbrev pub past : Skipped → ℕ → ℕ → Stepped
past short g m = stuck
past (onto fs) g m = stepped g m fs

abbrev pub on_frame : Framed → ℕ → List Fragment → Stepped
on_frame broken n fs = stuck
on_frame (framed r) n fs = past (skip r.size fs) r.group (r.size - n)

-- the record that the fragments begin with; its id has n bytes
unfoldable pub step_at : List ℕ → ℕ → List ℕ → List Fragment → Stepped
step_at s n gs fs = on_frame (frame_at s n gs (joined s fs)) n fs

-- the same by numbers: the index, position and bytes left past the record
pub data Reached : Type 0 where
  reached : ℕ → ℕ → ℕ → ℕ → ℕ → Reached
  halted : Reached

abbrev pub up_to : Spot → ℕ → ℕ → Reached
up_to nowhere g m = halted
up_to (spot at position left) g m = reached g m at position left

abbrev pub on_framed_to : Framed → ℕ → List Fragment → ℕ → Reached
on_framed_to broken n fs at = halted
on_framed_to (framed r) n fs at = up_to (spot_past r.size fs at) r.group (r.size - n)

unfoldable pub step_to : List ℕ → ℕ → List ℕ → List Fragment → ℕ → Reached
step_to s n gs fs at = on_framed_to (frame_at s n gs (joined s fs)) n fs at
