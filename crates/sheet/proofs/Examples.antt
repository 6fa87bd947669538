-- The inventory sheet at small columns: each field from both sides of its borders, pages by the number of columns. Whole files are in the crate
-- `file_cases`.
use Rattle.std.specs.Prelude.{ℕ, ◌+◌, List, [], ◌∷◌, ◌++◌, map, ◌≡◌, refl, length, replicate}
use Rattle.base.specs.Checked.{ok, refused}
use Rattle.base.specs.Field.{le}
use Rattle.mdf.specs.Block.{kind, kind_cg, kind_cn, kind_tx, kind_md}
use Rattle.file.specs.Form.{FileColumn}
use Rattle.sheet.specs.Sheet.{ascii, right_in, sheet_line, heading, page_count, pages, sheet_of}
use Rattle.base.specs.Blit as base_blit
use Rattle.base.specs.Choice as base_choice
use Rattle.base.specs.Field as base_field
use Rattle.mdf.specs.Block as mdf_block
use Rattle.mdf.specs.Group as mdf_group
use Rattle.plan.specs.Channel as plan_channel_lem
use Rattle.plan.specs.Columns as plan_columns
use Rattle.result.specs.Fill.{header, words}
use Rattle.result.specs.Fill as result_fill
use Rattle.result.specs.Listing as result_listing
use Rattle.result.specs.Sharing as result_sharing
use Rattle.file.specs.Form as file_form
use Rattle.sheet.specs.Sheet as sheet_sheet

-- ---- one column: CG at 8, CN at 120, the block that the CN's third link leads to at 280

-- the CG's third link, its seventh link, cycle count, flags, data bytes
abbrev cg : ℕ → ℕ → ℕ → ℕ → ℕ → List ℕ
cg name seventh records flags size =
    header kind_cg 112 7 ++ words (0 ∷ 120 ∷ name ∷ 0 ∷ 0 ∷ 0 ∷ seventh ∷ []) ++ le 8 0 ++ le 8 records ++ le 2 flags ++ replicate 6 0 ++ le 4 size ++ le 4 0

-- the CN's third link, channel type
abbrev cn : ℕ → ℕ → List ℕ
cn name type = header kind_cn 160 8 ++ words (0 ∷ 0 ∷ name ∷ 0 ∷ 0 ∷ 0 ∷ 0 ∷ 0 ∷ []) ++ (type ∷ replicate 71 0)

abbrev image : List ℕ → List ℕ → List ℕ → List ℕ
image g c name = replicate 8 0 ++ g ++ c ++ name

abbrev block : ℕ → List ℕ → List ℕ
block k bytes = header k (24 + length bytes) 0 ++ bytes

abbrev at : ℕ → ℕ → FileColumn
at g c = record { dg = 0; cg = g; cn = c; fragments = [] }

-- the column's line as number 1, behind a column with its CG at 5000
abbrev line : List ℕ → List ℕ
line s = sheet_line s (at 5000 0 ∷ at 8 120 ∷ []) 1 (at 8 120)

-- its line by the name's block alone
abbrev named : List ℕ → List ℕ
named name = line (image (cg 0 0 20 0 4) (cn 280 0) name)

-- by its channel type
abbrev typed : ℕ → List ℕ
typed type = line (image (cg 0 0 20 0 4) (cn 0 type) [])

-- by cycle count and data bytes
abbrev sized : ℕ → ℕ → List ℕ
sized records size = line (image (cg 0 0 records 0 size) (cn 0 0) [])

-- by the CG's seventh link and flags
abbrev led : ℕ → ℕ → List ℕ
led seventh flags = line (image (cg 0 seventh 20 flags 4) (cn 0 0) [])

abbrev Names : Type 0
Names =
    (named (block kind_tx (ascii "speed")) ≡ ascii "       1 s speed                                       4           20 -         ")
    × (named (block kind_md (ascii "<TX>speed</TX>\0\0")) ≡ ascii "       1 s <TX>speed</TX>                              4           20 -         ")
    -- 31, 32 and 33 bytes
    × (named (block kind_tx (ascii "abcdefghijklmnopqrstuvwxyz01234"))
    ≡ ascii "       1 s abcdefghijklmnopqrstuvwxyz01234             4           20 -         ")
    × (named (block kind_tx (ascii "abcdefghijklmnopqrstuvwxyz012345"))
    ≡ ascii "       1 s abcdefghijklmnopqrstuvwxyz012345            4           20 -         ")
    × (named (block kind_tx (ascii "abcdefghijklmnopqrstuvwxyz0123456"))
    ≡ ascii "       1 s abcdefghijklmnopqrstuvwxyz012345            4           20 -         ")
    -- a zero byte at 31, inside, at 0; no bytes
    × (named (block kind_tx (ascii "abcdefghijklmnopqrstuvwxyz01234\0lost"))
    ≡ ascii "       1 s abcdefghijklmnopqrstuvwxyz01234             4           20 -         ")
    × (named (block kind_tx (ascii "in\0side")) ≡ ascii "       1 s in                                          4           20 -         ")
    × (named (block kind_tx (ascii "\0lost")) ≡ ascii "       1 s                                             4           20 -         ")
    × (named (block kind_tx []) ≡ ascii "       1 s                                             4           20 -         ")
    -- bytes 31, 32, 126, 127, 255
    × (named (block kind_tx (31 ∷ 32 ∷ 126 ∷ 127 ∷ 255 ∷ [])) ≡ ascii "       1 s ? ~??                                       4           20 -         ")
    -- the links of a TX are bytes of the name
    × (named (header kind_tx 34 1 ++ le 8 5208208757389214273 ++ ascii "IJ")
    ≡ ascii "       1 s ABCDEFGHIJ                                  4           20 -         ")
    -- another kind, no link; the CG's name, which is another's
    × (named (block (kind "C" "C") (ascii "speed")) ≡ ascii "       1 s -                                           4           20 -         ")
    × (typed 0 ≡ ascii "       1 s -                                           4           20 -         ")
    × (line (image (cg 280 0 20 0 4) (cn 0 0) (block kind_tx (ascii "group")))
    ≡ ascii "       1 s -                                           4           20 -         ")

abbrev Others : Type 0
Others =
    -- channel types 1 to 4
    (typed 1 ≡ ascii "       1 s -                                           4           20 -         ")
    × (typed 2 ≡ ascii "       1 t -                                           4           20 -         ")
    × (typed 3 ≡ ascii "       1 t -                                           4           20 -         ")
    × (typed 4 ≡ ascii "       1 s -                                           4           20 -         ")
    -- twelve digits, thirteen, the most; the most data bytes
    × (sized 999999999999 0 ≡ ascii "       1 s -                                           0 999999999999 -         ")
    × (sized 1000000000000 0 ≡ ascii "       1 s -                                           0 ############ -         ")
    × (sized 18446744073709551615 0 ≡ ascii "       1 s -                                           0 ############ -         ")
    × (sized 0 4294967295 ≡ ascii "       1 s -                                  4294967295            0 -         ")
    × (right_in 8 99999999 ≡ ascii "99999999")
    × (right_in 8 100000000 ≡ ascii "########")
    -- the column before, itself; no column, 0; without flag bit 3
    × (led 5000 8 ≡ ascii "       1 s -                                           4           20          0")
    × (led 8 65535 ≡ ascii "       1 s -                                           4           20          1")
    × (led 120 8 ≡ ascii "       1 s -                                           4           20 -         ")
    × (led 0 8 ≡ ascii "       1 s -                                           4           20 -         ")
    × (led 5000 65527 ≡ ascii "       1 s -                                           4           20 -         ")

-- n columns
abbrev some : ℕ → List FileColumn
some n = replicate n (at 8 120)

-- the lines of each page
abbrev lines : ℕ → List ℕ
lines n = map length (pages [] (some n))

abbrev Pages : Type 0
Pages =
    (heading 1 1 ≡ ascii "page 1 of 1                                                                     ")
    × (heading 10 12 ≡ ascii "page 10 of 12                                                                   ")
    × (lines 0 ≡ 1 ∷ [])
    × (lines 1 ≡ 2 ∷ [])
    × (lines 59 ≡ 60 ∷ [])
    × (lines 60 ≡ 60 ∷ 2 ∷ [])
    × (lines 118 ≡ 60 ∷ 60 ∷ [])
    × (lines 119 ≡ 60 ∷ 60 ∷ 2 ∷ [])
    × (map page_count (0 ∷ 1 ∷ 59 ∷ 60 ∷ 118 ∷ 119 ∷ 512 ∷ []) ≡ 1 ∷ 1 ∷ 1 ∷ 2 ∷ 2 ∷ 3 ∷ 9 ∷ [])
    -- the whole: no columns, one, a refusal
    × (sheet_of [] (ok []) ≡ ascii "page 1 of 1                                                                     \n")
    × (sheet_of [] (ok (some 1))
    ≡ ascii "page 1 of 1                                                                     \n"
    ++ ascii "       0 s -                                           0            0 -         \n")
    × (sheet_of [] (refused 24 0) ≡ ascii "refused 24 place 0\n")

abbrev pub Sheets : Type 0
Sheets = Names × Others × Pages

pub sheets : Sheets
unfolding
    base_blit.part base_choice.if_lt base_choice.if_eq base_field.le_at base_field.le mdf_block.kind_at mdf_block.size_at mdf_block.links_at mdf_block.link_at
    mdf_block.data_at mdf_group.group_flags mdf_group.samples plan_channel_lem.channel_type plan_channel_lem.is_master_type plan_columns.remote_link
    result_fill.header result_fill.words result_listing.digits_of result_listing.decimal result_sharing.text_at file_form.cycles sheet_sheet.left_in
    sheet_sheet.right_in sheet_sheet.kind_of sheet_sheet.up_to_zero sheet_sheet.printable sheet_sheet.name_of sheet_sheet.number_at sheet_sheet.master_of
    sheet_sheet.sheet_line sheet_sheet.sheet_lines sheet_sheet.heading sheet_sheet.page_count sheet_sheet.page_of sheet_sheet.pages_from sheet_sheet.pages
    sheet_sheet.lines_text sheet_sheet.pages_text
sheets = (
  (refl, refl, refl, refl, refl, refl, refl, refl, refl, refl, refl, refl, refl, refl),
  (refl, refl, refl, refl, refl, refl, refl, refl, refl, refl, refl, refl, refl, refl, refl),
  (refl, refl, refl, refl, refl, refl, refl, refl, refl, refl, refl, refl),
)
