-- Records of one column, copied into a buffer or handed back as a part of the file's own bytes (document 02, request 1).
use Rattle.std.specs.Prelude.{ℕ, zero, suc, ◌+◌, ◌*◌, ◌-◌, List, [], ◌∷◌, length}
use Rattle.std.proofs.Math.Option.{Option, none, some}
use Rattle.base.specs.Choice.{if_lt, if_le, if_eq}
use Rattle.base.specs.Blit.{part}
use Rattle.base.specs.Checked.{Checked, ok, refused, and_then, Verdict, fine}
use Rattle.mdf.specs.Chain.{Fragment}
use Rattle.mdf.specs.Records.{joined}
use Rattle.file.specs.Form.{FileColumn, cycles, record_bytes}
use Rattle.file.specs.Opened.{on_column, opened}

-- column number k
unfoldable pub file_column_at : ℕ → List FileColumn → Option FileColumn
file_column_at k [] = none
file_column_at zero (c ∷ cs) = some c
file_column_at (suc k) (c ∷ cs) = file_column_at k cs

-- the column asked for: "24 for the image, 22 when the column number isn't below the number of columns, 23 when first plus count exceeds the
-- records"
unfoldable pub asked : List ℕ → ℕ → ℕ → ℕ → Checked FileColumn
asked s k first count =
    and_then (opened s) (λ cs.
    on_column (file_column_at k cs) (refused 22 0) (λ c.
    if_lt (cycles s c.cg) (first + count) (refused 23 0) (ok c)))

-- "count records of one column, beginning at a given one": where they begin in the column's joined data
unfoldable pub start_of : List ℕ → FileColumn → ℕ → ℕ
start_of s c first = first * record_bytes s c.cg

-- how many bytes they have
unfoldable pub bytes_of : List ℕ → FileColumn → ℕ → ℕ
bytes_of s c count = count * record_bytes s c.cg

-- these bytes
unfoldable pub range_of : List ℕ → ℕ → ℕ → FileColumn → List ℕ
range_of s first count c = part (start_of s c first) (bytes_of s c count) (joined s c.fragments)

-- the records themselves
unfoldable pub ranged : List ℕ → ℕ → ℕ → ℕ → Checked (List ℕ)
ranged s k first count = and_then (asked s k first count) (λ c. ok (range_of s first count c))

-- ---- "copied into a buffer of exactly that many bytes"

-- what a call answers, and what it leaves in the buffer
pub record Copied : Type 0 where
  pub answered : Verdict
  pub buffer : List ℕ

-- "A refusal leaves the buffer unchanged."
abbrev pub copied : List ℕ → Checked (List ℕ) → Copied
copied buffer (ok bs) = record { answered = fine; buffer = bs }
copied buffer (refused number place) = record { answered = refused number place; buffer = buffer }

-- "24 when .. the buffer has another length", after the others
unfoldable pub into_buffer : List ℕ → ℕ → ℕ → ℕ → ℕ → Checked (List ℕ)
into_buffer s k first count n =
    and_then (asked s k first count) (λ c. if_eq n (bytes_of s c count) (ok (range_of s first count c)) (refused 24 0))

-- the first call
unfoldable pub read_into : List ℕ → ℕ → ℕ → ℕ → List ℕ → Copied
read_into s k first count buffer = copied buffer (into_buffer s k first count (length buffer))

-- ---- "By a second call a range inside one block, or of no bytes, is handed back as a part of the file's own bytes, not a copy; for any other
-- it answers `split`."

-- offset and length in the image
pub data Place : Type 0 where
  at : ℕ → ℕ → Place
  split : Place

-- n bytes of the joined data from byte p on, inside the block that holds byte p
unfoldable pub within : List Fragment → ℕ → ℕ → Place
within [] p n = split
within (f ∷ fs) p n =
    let later = within fs (p - f.size) n in
    if_lt p f.size (if_le (p + n) f.size (at (f.offset + p) n) split) later

-- "or of no bytes": the empty part at 0
unfoldable pub place_in : List Fragment → ℕ → ℕ → Place
place_in fs p n = if_eq n 0 (at 0 0) (within fs p n)

-- where the second call finds the records
unfoldable pub located : List ℕ → ℕ → ℕ → ℕ → Checked Place
located s k first count =
    and_then (asked s k first count) (λ c. ok (place_in c.fragments (start_of s c first) (bytes_of s c count)))

-- what the second call hands back: three words and a part of the image
pub record Handed : Type 0 where
  pub words : List ℕ
  pub bytes : List ℕ

-- bookkeeping: the words are 0, offset and length of the part; or 1, 0, 0 for `split`
abbrev pub handed_at : List ℕ → Place → Handed
handed_at s (at a n) = record { words = 0 ∷ a ∷ n ∷ []; bytes = part a n s }
handed_at s split = record { words = 1 ∷ 0 ∷ 0 ∷ []; bytes = [] }

-- or 2, a refusal's number and its place; then the part is empty
abbrev pub handed : List ℕ → Checked Place → Handed
handed s (ok p) = handed_at s p
handed s (refused number place) = record { words = 2 ∷ number ∷ place ∷ []; bytes = [] }
