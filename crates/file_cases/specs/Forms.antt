-- Document 02, request 1, at small files: which have the form, which faults come first, and the borders of 22, 23 and 24.
use Rattle.std.specs.Prelude.{ℕ, List, [], ◌∷◌, ◌++◌, ◌≡◌, refl, replicate, set}
use Rattle.base.specs.Checked.{ok, refused, fine}
use Rattle.mdf.specs.Block.{kind_dt, kind_hl}
use Rattle.file.specs.Opened.{opened}
use Rattle.file.specs.Range.{ranged, into_buffer, read_into, located, at, split}
use Rattle.base.specs.Blit as base_blit
use Rattle.base.specs.Choice as base_choice
use Rattle.base.specs.Field as base_field
use Rattle.mdf.specs.Block as mdf_block
use Rattle.mdf.specs.Chain as mdf_chain
use Rattle.mdf.specs.Group as mdf_group
use Rattle.mdf.specs.Identification as mdf_identification
use Rattle.mdf.specs.Name as mdf_name
use Rattle.mdf.specs.Records as mdf_records
use Rattle.mdf.specs.Walk as mdf_walk
use Rattle.file.specs.Form as file_form
use Rattle.file.specs.Opened as file_opened
use Rattle.file.specs.Range as file_range
use Rattle.file_cases.specs.Image.{ident, header, links_to, dg, cg, cn, dl_of, dl, dt, dv, file, outline}

-- 3 records of 4 bytes in blocks of 8 and 4 bytes: DL at 496, blocks at 560 and 592
abbrev pub two : List ℕ
two = file (dg 0 496) (cg 3 4 0) (cn 0) (dl (0 ∷ 560 ∷ 592 ∷ []) 8 ++ dv (1 ∷ 2 ∷ 3 ∷ 4 ∷ 5 ∷ 6 ∷ 7 ∷ 8 ∷ []) ++ dv (9 ∷ 10 ∷ 11 ∷ 12 ∷ []))

-- the same with one record over a block's end: w = 3, blocks of 4 bytes
abbrev pub over : List ℕ
over = file (dg 0 496) (cg 2 2 1) (cn 0) (dl (0 ∷ 560 ∷ 588 ∷ []) 4 ++ dt (1 ∷ 2 ∷ 3 ∷ 4 ∷ []) ++ dt (5 ∷ 6 ∷ []))

-- a DL of length 0: blocks of 0, 0 and 12 bytes, at 568, 592 and 616
abbrev pub none : List ℕ
none = file (dg 0 496) (cg 3 4 0) (cn 0)
    (dl (0 ∷ 568 ∷ 592 ∷ 616 ∷ []) 0 ++ dv [] ++ dv [] ++ dv (1 ∷ 2 ∷ 3 ∷ 4 ∷ 5 ∷ 6 ∷ 7 ∷ 8 ∷ 9 ∷ 10 ∷ 11 ∷ 12 ∷ []))

abbrev pub bare : ℕ → ℕ → ℕ → List ℕ
bare cycles samples inval = file (dg 0 0) (cg cycles samples inval) (cn 0) []

-- one block of kind and bytes behind a DL with such data
abbrev pub one : List ℕ → List ℕ → List ℕ
one bytes block = file (dg 0 496) (cg 1 4 0) (cn 0) (dl_of (0 ∷ 552 ∷ []) bytes ++ block)

abbrev sound : List ℕ
sound = 1 ∷ replicate 7 0 ++ (4 ∷ replicate 7 0)

abbrev column : ℕ → List (List ℕ)
column n = (168 ∷ 232 ∷ 336 ∷ n ∷ []) ∷ []

abbrev lacks : List (List ℕ)
lacks = (24 ∷ 0 ∷ []) ∷ []

abbrev pub Forms : Type 0
Forms =
    (outline (opened two) ≡ column 2)
    × (outline (opened over) ≡ column 2)
    -- the DL's length may be 0, and the last block longer
    × (outline (opened none) ≡ column 3)
    -- a block listed twice
    × (outline (opened (file (dg 0 496) (cg 2 4 0) (cn 0) (dl (0 ∷ 560 ∷ 560 ∷ []) 4 ++ dv (1 ∷ 2 ∷ 3 ∷ 4 ∷ [])))) ≡ column 2)
    -- a data link of 0: no records, or records of no bytes, any number of them
    × (outline (opened (bare 0 4 0)) ≡ column 0)
    × (outline (opened (bare 18446744073709551615 0 0)) ≡ column 0)
    × (outline (opened (bare 1 4 0)) ≡ lacks)
    -- 2^62 records of 4 bytes are not none
    × (outline (opened (bare 4611686018427387904 4 0)) ≡ lacks)
    -- a DL with its first link alone; without links; with another one that is 0
    × (outline (opened (file (dg 0 496) (cg 0 4 0) (cn 0) (dl (0 ∷ []) 8))) ≡ column 0)
    × (outline (opened (file (dg 0 496) (cg 0 4 0) (cn 0) (dl [] 8))) ≡ lacks)
    × (outline (opened (file (dg 0 496) (cg 0 4 0) (cn 0) (dl (0 ∷ 0 ∷ []) 8))) ≡ lacks)
    -- a next DL
    × (outline (opened (file (dg 0 496) (cg 0 4 0) (cn 0) (dl (544 ∷ []) 8 ++ dl (0 ∷ []) 8))) ≡ lacks)
    -- a DT in place of the DL; an HL before it
    × (outline (opened (file (dg 0 496) (cg 1 4 0) (cn 0) (dt (1 ∷ 2 ∷ 3 ∷ 4 ∷ [])))) ≡ lacks)
    × (outline (opened (file (dg 0 496) (cg 0 4 0) (cn 0) (header kind_hl 32 1 ++ links_to (528 ∷ []) ++ dl (0 ∷ []) 8))) ≡ lacks)
    -- the same with all else as in a DL: one link, which is 0, and data with bit 0
    × (outline (opened (file (dg 0 496) (cg 6 4 0) (cn 0) (header kind_dt 48 1 ++ links_to (0 ∷ []) ++ (1 ∷ replicate 15 0)))) ≡ lacks)
    × (outline (opened (file (dg 0 496) (cg 0 4 0) (cn 0) (header kind_hl 48 1 ++ links_to (0 ∷ []) ++ (1 ∷ replicate 15 0)))) ≡ lacks)
    -- the equal-length bit, the room for the length; other flags and the number of blocks are not looked at
    × (outline (opened (one sound (dv (1 ∷ 2 ∷ 3 ∷ 4 ∷ [])))) ≡ column 1)
    × (outline (opened (one (255 ∷ replicate 15 7) (dv (1 ∷ 2 ∷ 3 ∷ 4 ∷ [])))) ≡ column 1)
    × (outline (opened (one (2 ∷ replicate 15 0) (dv (1 ∷ 2 ∷ 3 ∷ 4 ∷ [])))) ≡ lacks)
    × (outline (opened (file (dg 0 496) (cg 1 4 0) (cn 0) (dl_of (0 ∷ 551 ∷ []) (1 ∷ replicate 14 0) ++ dv (1 ∷ 2 ∷ 3 ∷ 4 ∷ [])))) ≡ lacks)
    -- a block before the last of another length
    × (outline (opened (file (dg 0 496) (cg 2 4 0) (cn 0) (dl (0 ∷ 560 ∷ 588 ∷ []) 5 ++ dv (1 ∷ 2 ∷ 3 ∷ 4 ∷ []) ++ dv (1 ∷ 2 ∷ 3 ∷ 4 ∷ [])))) ≡ lacks)
    -- DV with invalidation bytes, DT with them, both kinds
    × (outline (opened (file (dg 0 496) (cg 1 3 1) (cn 0) (dl (0 ∷ 552 ∷ []) 4 ++ dv (1 ∷ 2 ∷ 3 ∷ 4 ∷ [])))) ≡ lacks)
    × (outline (opened (file (dg 0 496) (cg 1 3 1) (cn 0) (dl (0 ∷ 552 ∷ []) 4 ++ dt (1 ∷ 2 ∷ 3 ∷ 4 ∷ [])))) ≡ column 1)
    × (outline (opened (file (dg 0 496) (cg 2 4 0) (cn 0) (dl (0 ∷ 560 ∷ 588 ∷ []) 4 ++ dv (1 ∷ 2 ∷ 3 ∷ 4 ∷ []) ++ dt (1 ∷ 2 ∷ 3 ∷ 4 ∷ [])))) ≡ lacks)
    -- a record more or fewer than the cycle count, a part of a record
    × (outline (opened (file (dg 0 496) (cg 2 4 0) (cn 0) (dl (0 ∷ 552 ∷ []) 4 ++ dv (1 ∷ 2 ∷ 3 ∷ 4 ∷ [])))) ≡ lacks)
    × (outline (opened (file (dg 0 496) (cg 0 4 0) (cn 0) (dl (0 ∷ 552 ∷ []) 4 ++ dv (1 ∷ 2 ∷ 3 ∷ 4 ∷ [])))) ≡ lacks)
    × (outline (opened (file (dg 0 496) (cg 1 4 0) (cn 0) (dl (0 ∷ 552 ∷ []) 5 ++ dv (1 ∷ 2 ∷ 3 ∷ 4 ∷ 5 ∷ [])))) ≡ lacks)
    -- id size; a second CN; a second CG; no CG; no DG at all, which is the form without columns
    × (outline (opened (file (dg 1 0) (cg 0 4 0) (cn 0) [])) ≡ lacks)
    × (outline (opened (file (dg 0 0) (cg 0 4 0) (cn 496) (cn 0))) ≡ lacks)
    × (outline (opened (set (set (file (dg 0 0) (cg 0 4 0) (cn 0) (header mdf_block.kind_cg 104 6 ++ replicate 80 0)) 256 240) 257 1)) ≡ lacks)
    × (outline (opened (file (header mdf_block.kind_dg 64 4 ++ replicate 40 0) (cg 0 4 0) (cn 0) [])) ≡ lacks)
    × (outline (opened (ident ++ header mdf_block.kind_hd 104 6 ++ replicate 80 0)) ≡ [])
    -- faults of the walk come before a fragment's range, that before the form: 13, 4, 24
    × (outline (opened (file (dg 3 496) (cg 5 4 0) (cn 0) (header kind_dt 9000 0))) ≡ (13 ∷ 168 ∷ []) ∷ [])
    × (outline (opened (file (dg 1 496) (cg 5 4 0) (cn 0) (header kind_dt 9000 0))) ≡ (4 ∷ 520 ∷ []) ∷ [])
    -- also of a DG without CG
    × (outline (opened (file (header mdf_block.kind_dg 64 4 ++ links_to (0 ∷ 0 ∷ 496 ∷ 0 ∷ []) ++ replicate 8 0) (cg 0 4 0) (cn 0) (header kind_dt 9000 0)))
    ≡ (4 ∷ 520 ∷ []) ∷ [])
    -- an HL over 268,435,456 bytes is 9, a DL of that length is not
    × (outline (opened (file (dg 0 496) (cg 0 4 0) (cn 0) (header kind_hl 268435457 1 ++ links_to (0 ∷ [])))) ≡ (9 ∷ 496 ∷ []) ∷ [])
    × (outline (opened (file (dg 0 496) (cg 0 4 0) (cn 0) (header mdf_block.kind_dl 268435457 1 ++ links_to (0 ∷ [])))) ≡ (4 ∷ 496 ∷ []) ∷ [])

abbrev pub Ranges : Type 0
Ranges =
    (ranged two 0 1 2 ≡ ok (5 ∷ 6 ∷ 7 ∷ 8 ∷ 9 ∷ 10 ∷ 11 ∷ 12 ∷ []))
    × (located two 0 0 2 ≡ ok (at 584 8))
    × (located two 0 1 1 ≡ ok (at 588 4))
    × (located two 0 2 1 ≡ ok (at 616 4))
    × (located two 0 1 2 ≡ ok split)
    -- a record over a block's end
    × (ranged over 0 1 1 ≡ ok (4 ∷ 5 ∷ 6 ∷ []))
    × (located over 0 0 1 ≡ ok (at 584 3))
    × (located over 0 1 1 ≡ ok split)
    -- past empty blocks
    × (located none 0 1 2 ≡ ok (at 644 8))
    × (ranged none 0 0 1 ≡ ok (1 ∷ 2 ∷ 3 ∷ 4 ∷ []))
    -- no bytes
    × (located two 0 3 0 ≡ ok (at 0 0))
    × (located (bare 5 0 0) 0 2 3 ≡ ok (at 0 0))
    × (ranged (bare 5 0 0) 0 2 3 ≡ ok [])
    -- 22 and 23, also with count 0
    × (located two 1 0 0 ≡ refused 22 0)
    × (located two 0 4 0 ≡ refused 23 0)
    × (located two 0 3 1 ≡ refused 23 0)
    × (located two 0 18446744073709551615 2 ≡ refused 23 0)
    -- 24 for the image comes before 22, 23 before 24 for the buffer
    × (located (bare 1 4 0) 7 0 0 ≡ refused 24 0)
    × (into_buffer two 0 3 1 0 ≡ refused 23 0)
    -- a buffer of another length, which stays
    × (into_buffer two 0 2 1 4 ≡ ok (9 ∷ 10 ∷ 11 ∷ 12 ∷ []))
    × (into_buffer two 0 2 1 3 ≡ refused 24 0)
    × (into_buffer two 0 2 1 5 ≡ refused 24 0)
    × (read_into two 0 2 1 (7 ∷ 7 ∷ 7 ∷ 7 ∷ []) ≡ record { answered = fine; buffer = 9 ∷ 10 ∷ 11 ∷ 12 ∷ [] })
    × (read_into two 0 2 1 (7 ∷ []) ≡ record { answered = refused 24 0; buffer = 7 ∷ [] })

pub forms : Forms
unfolding
    base_blit.part base_blit.blit base_choice.if_lt base_choice.if_le base_choice.if_eq base_field.le_at base_field.le mdf_block.kind_at mdf_block.size_at
    mdf_block.links_at mdf_block.link_at mdf_block.first_link mdf_block.data_at mdf_block.header_in mdf_block.length_in mdf_block.whole_at mdf_block.wanted_at
    mdf_block.block_at mdf_chain.leaf_of mdf_chain.added mdf_chain.fragment_at mdf_chain.listed mdf_chain.is_in mdf_chain.list_in mdf_chain.chain_from mdf_chain.chain
    mdf_group.addresses mdf_group.channels_of mdf_group.groups_of mdf_group.up_to mdf_group.data_groups_of
    mdf_group.data_groups mdf_group.samples mdf_group.inval_bytes mdf_identification.drop_while
    mdf_identification.trimmed mdf_identification.first_part mdf_identification.past_dot mdf_identification.digits_from mdf_identification.digits
    mdf_identification.number mdf_identification.version_of mdf_identification.is_ascii mdf_identification.version_in mdf_identification.identified
    mdf_name.text_in mdf_name.name_at mdf_records.ranges_in mdf_records.joined mdf_records.size_of mdf_walk.is_met mdf_walk.tally mdf_walk.visit
    mdf_walk.entered mdf_walk.level mdf_walk.below_cn mdf_walk.below_cg mdf_walk.id_size mdf_walk.id_size_in mdf_walk.below_dg mdf_walk.walk_of
    file_form.cycles file_form.record_bytes file_form.alone file_form.none_zero file_form.links_formed file_form.is_equal_length file_form.equal_length
    file_form.have_length file_form.list_formed file_form.all_dt file_form.all_dv file_form.one_kind file_form.formed file_opened.column_in file_opened.columns_in
    file_opened.opened file_range.file_column_at file_range.asked file_range.start_of file_range.bytes_of file_range.range_of file_range.ranged
    file_range.into_buffer file_range.read_into file_range.within file_range.place_in file_range.located
forms = (refl, refl, refl, refl, refl, refl, refl, refl, refl, refl, refl, refl, refl, refl, refl, refl, refl, refl, refl, refl, refl, refl, refl, refl, refl, refl, refl, refl, refl, refl, refl, refl, refl, refl, refl, refl, refl)

pub ranges : Ranges
unfolding
    base_blit.part base_blit.blit base_choice.if_lt base_choice.if_le base_choice.if_eq base_field.le_at base_field.le mdf_block.kind_at mdf_block.size_at
    mdf_block.links_at mdf_block.link_at mdf_block.first_link mdf_block.data_at mdf_block.header_in mdf_block.length_in mdf_block.whole_at mdf_block.wanted_at
    mdf_block.block_at mdf_chain.leaf_of mdf_chain.added mdf_chain.fragment_at mdf_chain.listed mdf_chain.is_in mdf_chain.list_in mdf_chain.chain_from mdf_chain.chain
    mdf_group.addresses mdf_group.channels_of mdf_group.groups_of mdf_group.up_to mdf_group.data_groups_of
    mdf_group.data_groups mdf_group.samples mdf_group.inval_bytes mdf_identification.drop_while
    mdf_identification.trimmed mdf_identification.first_part mdf_identification.past_dot mdf_identification.digits_from mdf_identification.digits
    mdf_identification.number mdf_identification.version_of mdf_identification.is_ascii mdf_identification.version_in mdf_identification.identified
    mdf_name.text_in mdf_name.name_at mdf_records.ranges_in mdf_records.joined mdf_records.size_of mdf_walk.is_met mdf_walk.tally mdf_walk.visit
    mdf_walk.entered mdf_walk.level mdf_walk.below_cn mdf_walk.below_cg mdf_walk.id_size mdf_walk.id_size_in mdf_walk.below_dg mdf_walk.walk_of
    file_form.cycles file_form.record_bytes file_form.alone file_form.none_zero file_form.links_formed file_form.is_equal_length file_form.equal_length
    file_form.have_length file_form.list_formed file_form.all_dt file_form.all_dv file_form.one_kind file_form.formed file_opened.column_in file_opened.columns_in
    file_opened.opened file_range.file_column_at file_range.asked file_range.start_of file_range.bytes_of file_range.range_of file_range.ranged
    file_range.into_buffer file_range.read_into file_range.within file_range.place_in file_range.located
ranges = (refl, refl, refl, refl, refl, refl, refl, refl, refl, refl, refl, refl, refl, refl, refl, refl, refl, refl, refl, refl, refl, refl, refl, refl)
