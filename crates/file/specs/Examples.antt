-- Ranges at one small column: where records begin, how many bytes they have, in which block they lie. Whole files are in the crate `file_cases`.
use Rattle.std.specs.Prelude.{ℕ, List, [], ◌∷◌, ◌++◌, ◌≡◌, refl, replicate}
use Rattle.base.specs.Blit as base_blit
use Rattle.base.specs.Choice as base_choice
use Rattle.base.specs.Field as base_field
use Rattle.mdf.specs.Block as mdf_block
use Rattle.mdf.specs.Chain.{Fragment, dt}
use Rattle.mdf.specs.Group as mdf_group
use Rattle.mdf.specs.Records as mdf_records
use Rattle.file.specs.Form.{FileColumn}
use Rattle.file.specs.Form as form
use Rattle.file.specs.Range.{at, split}
use Rattle.file.specs.Range as range

-- bookkeeping: n bytes of data at a
abbrev block : ℕ → ℕ → Fragment
block a n = record { offset = a; size = n; kind = dt }

-- a CG at 0 with data bytes 2 and invalidation bytes 1, then the data of blocks of 2, 2 and 5 bytes: three records
abbrev image : List ℕ
image = replicate 48 0 ++ (2 ∷ 0 ∷ 0 ∷ 0 ∷ 1 ∷ 0 ∷ 0 ∷ 0 ∷ 1 ∷ 2 ∷ 3 ∷ 4 ∷ 5 ∷ 6 ∷ 7 ∷ 8 ∷ 9 ∷ [])

-- these blocks as a column
abbrev column : FileColumn
column = record { dg = 0; cg = 0; cn = 0; fragments = block 56 2 ∷ block 58 2 ∷ block 60 5 ∷ [] }

abbrev pub Ranges : Type 0
Ranges =
    (range.range_of image 0 1 column ≡ 1 ∷ 2 ∷ 3 ∷ [])
    × (range.range_of image 1 2 column ≡ 4 ∷ 5 ∷ 6 ∷ 7 ∷ 8 ∷ 9 ∷ [])
    × (range.bytes_of image column 2 ≡ 6)
    -- over the end of the first block; in the last, which is longer than the others; over its beginning
    × (range.place_in column.fragments 0 3 ≡ split)
    × (range.place_in column.fragments 6 3 ≡ at 62 3)
    × (range.place_in column.fragments 3 3 ≡ split)
    -- no bytes
    × (range.place_in column.fragments 9 0 ≡ at 0 0)

pub ranges : Ranges
unfolding
    base_blit.part base_choice.if_lt base_choice.if_le base_choice.if_eq base_field.le_at mdf_block.links_at mdf_block.data_at mdf_group.samples mdf_group.inval_bytes
    mdf_records.joined form.record_bytes range.start_of range.bytes_of range.range_of range.within range.place_in
ranges = (refl, refl, refl, refl, refl, refl, refl)
