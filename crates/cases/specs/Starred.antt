-- The starred cases of document 01, as one table about the definitions: payloads, versions, and the worked example of `columns`.
use Rattle.std.specs.Prelude.{ℕ, false, List, [], ◌∷◌, ◌≡◌, refl, replicate, length}
use Rattle.base.specs.Checked as base_checked
use Rattle.base.specs.Field as base_field
use Rattle.mdf.specs.Block as mdf_block
use Rattle.mdf.specs.Identification as mdf_identification
use Rattle.plan.specs.Columns as plan_columns
use Rattle.plan.specs.Copies as plan_copies
use Rattle.plan.specs.Photos as plan_photos
use Rattle.plan.specs.Geometry as plan_geometry
use Rattle.plan.specs.Layout as plan_layout
use Rattle.result.specs.Listing as result_listing
use Rattle.result.specs.Result as result_result
use Rattle.cases.specs.Evaluated.{evaluated}

-- "Width and block size to full payload*: 1, 100: 96. 3, 10: 24. 12, 20: 24. 3, 4194304: 4194288."
abbrev pub Payloads : Type 0
Payloads =
    (plan_geometry.full_payload 100 1 ≡ 96)
    × (plan_geometry.full_payload 10 3 ≡ 24)
    × (plan_geometry.full_payload 20 12 ≡ 24)
    × (plan_geometry.full_payload 4194304 3 ≡ 4194288)

-- the version text of eight bytes: `4.10` is 410, accepted; `4.1` is 401, refused; `5` is 500; `4.+20` is 420
abbrev pub Versions : Type 0
Versions =
    (mdf_identification.version_of (mdf_identification.trimmed (52 ∷ 46 ∷ 49 ∷ 48 ∷ 32 ∷ 32 ∷ 32 ∷ 32 ∷ [])) ≡ mdf_identification.value 410)
    × (mdf_identification.version_in (52 ∷ 46 ∷ 49 ∷ 48 ∷ 32 ∷ 32 ∷ 32 ∷ 32 ∷ []) ≡ base_checked.fine)
    × (mdf_identification.version_of (mdf_identification.trimmed (52 ∷ 46 ∷ 49 ∷ 0 ∷ 0 ∷ 0 ∷ 0 ∷ 0 ∷ [])) ≡ mdf_identification.value 401)
    × (mdf_identification.version_in (52 ∷ 46 ∷ 49 ∷ 0 ∷ 0 ∷ 0 ∷ 0 ∷ 0 ∷ []) ≡ base_checked.refused 7 0)
    × (mdf_identification.version_of (mdf_identification.trimmed (53 ∷ 32 ∷ 32 ∷ 32 ∷ 32 ∷ 32 ∷ 32 ∷ 32 ∷ [])) ≡ mdf_identification.value 500)
    × (mdf_identification.version_of (mdf_identification.trimmed (52 ∷ 46 ∷ 43 ∷ 50 ∷ 48 ∷ 32 ∷ 32 ∷ 32 ∷ [])) ≡ mdf_identification.value 420)

-- kinds are their letters: the four bytes of each block's kind
abbrev pub Kinds : Type 0
Kinds =
    (base_field.le 4 mdf_block.kind_hd ≡ 35 ∷ 35 ∷ 72 ∷ 68 ∷ [])
    × (base_field.le 4 mdf_block.kind_dg ≡ 35 ∷ 35 ∷ 68 ∷ 71 ∷ [])
    × (base_field.le 4 mdf_block.kind_cg ≡ 35 ∷ 35 ∷ 67 ∷ 71 ∷ [])
    × (base_field.le 4 mdf_block.kind_cn ≡ 35 ∷ 35 ∷ 67 ∷ 78 ∷ [])
    × (base_field.le 4 mdf_block.kind_dt ≡ 35 ∷ 35 ∷ 68 ∷ 84 ∷ [])
    × (base_field.le 4 mdf_block.kind_dv ≡ 35 ∷ 35 ∷ 68 ∷ 86 ∷ [])
    × (base_field.le 4 mdf_block.kind_dl ≡ 35 ∷ 35 ∷ 68 ∷ 76 ∷ [])
    × (base_field.le 4 mdf_block.kind_hl ≡ 35 ∷ 35 ∷ 72 ∷ 76 ∷ [])
    × (base_field.le 4 mdf_block.kind_sd ≡ 35 ∷ 35 ∷ 83 ∷ 68 ∷ [])
    × (base_field.le 4 mdf_block.kind_tx ≡ 35 ∷ 35 ∷ 84 ∷ 88 ∷ [])
    × (base_field.le 4 mdf_block.kind_md ≡ 35 ∷ 35 ∷ 77 ∷ 68 ∷ [])
    × (base_field.le 4 plan_columns.kind_ca ≡ 35 ∷ 35 ∷ 67 ∷ 65 ∷ [])
    × (base_field.le 4 plan_copies.kind_cc ≡ 35 ∷ 35 ∷ 67 ∷ 67 ∷ [])
    × (base_field.le 4 plan_copies.kind_si ≡ 35 ∷ 35 ∷ 83 ∷ 73 ∷ [])
    × (base_field.le 4 plan_copies.kind_fh ≡ 35 ∷ 35 ∷ 70 ∷ 72 ∷ [])
    × (base_field.le 4 plan_photos.kind_at_block ≡ 35 ∷ 35 ∷ 65 ∷ 84 ∷ [])

-- one group with samples 6, one invalidation byte, 20 records, a 32-bit master at byte 0, a 16-bit signal at byte 4 with a kept bit
abbrev pub image : List ℕ
image =
    77 ∷ 68 ∷ 70 ∷ 32 ∷ 32 ∷ 32 ∷ 32 ∷ 32 ∷ 52 ∷ 46 ∷ 49 ∷ 48 ∷ 32 ∷ 32 ∷ 32 ∷ 32 ∷ 116 ∷ 101 ∷ 115 ∷ 116 ∷ 32 ∷ 32 ∷ 32 ∷ 32 ∷ 0 ∷ 0 ∷ 0 ∷ 0 ∷ 0 ∷ 0 ∷
    0 ∷ 0 ∷ 0 ∷ 0 ∷ 0 ∷ 0 ∷ 0 ∷ 0 ∷ 0 ∷ 0 ∷ 0 ∷ 0 ∷ 0 ∷ 0 ∷ 0 ∷ 0 ∷ 0 ∷ 0 ∷ 0 ∷ 0 ∷ 0 ∷ 0 ∷ 0 ∷ 0 ∷ 0 ∷ 0 ∷ 0 ∷ 0 ∷ 0 ∷ 0 ∷ 0 ∷ 0 ∷ 0 ∷ 0 ∷ 35 ∷ 35 ∷
    72 ∷ 68 ∷ 0 ∷ 0 ∷ 0 ∷ 0 ∷ 104 ∷ 0 ∷ 0 ∷ 0 ∷ 0 ∷ 0 ∷ 0 ∷ 0 ∷ 6 ∷ 0 ∷ 0 ∷ 0 ∷ 0 ∷ 0 ∷ 0 ∷ 0 ∷ 248 ∷ 2 ∷ 0 ∷ 0 ∷ 0 ∷ 0 ∷ 0 ∷ 0 ∷ 0 ∷ 0 ∷ 0 ∷ 0 ∷ 0 ∷
    0 ∷ 0 ∷ 0 ∷ 0 ∷ 0 ∷ 0 ∷ 0 ∷ 0 ∷ 0 ∷ 0 ∷ 0 ∷ 0 ∷ 0 ∷ 0 ∷ 0 ∷ 0 ∷ 0 ∷ 0 ∷ 0 ∷ 0 ∷ 0 ∷ 0 ∷ 0 ∷ 0 ∷ 0 ∷ 0 ∷ 0 ∷ 0 ∷ 0 ∷ 0 ∷ 0 ∷ 0 ∷ 0 ∷ 0 ∷ 0 ∷ 0 ∷ 0 ∷
    0 ∷ 0 ∷ 0 ∷ 0 ∷ 0 ∷ 0 ∷ 0 ∷ 0 ∷ 0 ∷ 0 ∷ 0 ∷ 0 ∷ 0 ∷ 0 ∷ 0 ∷ 0 ∷ 0 ∷ 0 ∷ 0 ∷ 0 ∷ 0 ∷ 0 ∷ 0 ∷ 0 ∷ 0 ∷ 0 ∷ 0 ∷ 0 ∷ 0 ∷ 0 ∷ 35 ∷ 35 ∷ 68 ∷ 84 ∷ 0 ∷ 0 ∷
    0 ∷ 0 ∷ 164 ∷ 0 ∷ 0 ∷ 0 ∷ 0 ∷ 0 ∷ 0 ∷ 0 ∷ 0 ∷ 0 ∷ 0 ∷ 0 ∷ 0 ∷ 0 ∷ 0 ∷ 0 ∷ 0 ∷ 0 ∷ 0 ∷ 0 ∷ 232 ∷ 3 ∷ 0 ∷ 1 ∷ 0 ∷ 0 ∷ 0 ∷ 233 ∷ 3 ∷ 1 ∷ 2 ∷ 0 ∷ 0 ∷
    0 ∷ 234 ∷ 3 ∷ 0 ∷ 3 ∷ 0 ∷ 0 ∷ 0 ∷ 235 ∷ 3 ∷ 1 ∷ 4 ∷ 0 ∷ 0 ∷ 0 ∷ 236 ∷ 3 ∷ 0 ∷ 5 ∷ 0 ∷ 0 ∷ 0 ∷ 237 ∷ 3 ∷ 1 ∷ 6 ∷ 0 ∷ 0 ∷ 0 ∷ 238 ∷ 3 ∷ 0 ∷ 7 ∷ 0 ∷
    0 ∷ 0 ∷ 239 ∷ 3 ∷ 1 ∷ 8 ∷ 0 ∷ 0 ∷ 0 ∷ 240 ∷ 3 ∷ 0 ∷ 9 ∷ 0 ∷ 0 ∷ 0 ∷ 241 ∷ 3 ∷ 1 ∷ 10 ∷ 0 ∷ 0 ∷ 0 ∷ 242 ∷ 3 ∷ 0 ∷ 11 ∷ 0 ∷ 0 ∷ 0 ∷ 243 ∷ 3 ∷ 1 ∷
    12 ∷ 0 ∷ 0 ∷ 0 ∷ 244 ∷ 3 ∷ 0 ∷ 13 ∷ 0 ∷ 0 ∷ 0 ∷ 245 ∷ 3 ∷ 1 ∷ 14 ∷ 0 ∷ 0 ∷ 0 ∷ 246 ∷ 3 ∷ 0 ∷ 15 ∷ 0 ∷ 0 ∷ 0 ∷ 247 ∷ 3 ∷ 1 ∷ 16 ∷ 0 ∷ 0 ∷ 0 ∷ 248 ∷
    3 ∷ 0 ∷ 17 ∷ 0 ∷ 0 ∷ 0 ∷ 249 ∷ 3 ∷ 1 ∷ 18 ∷ 0 ∷ 0 ∷ 0 ∷ 250 ∷ 3 ∷ 0 ∷ 19 ∷ 0 ∷ 0 ∷ 0 ∷ 251 ∷ 3 ∷ 1 ∷ 0 ∷ 0 ∷ 0 ∷ 0 ∷ 35 ∷ 35 ∷ 67 ∷ 78 ∷ 0 ∷ 0 ∷
    0 ∷ 0 ∷ 160 ∷ 0 ∷ 0 ∷ 0 ∷ 0 ∷ 0 ∷ 0 ∷ 0 ∷ 8 ∷ 0 ∷ 0 ∷ 0 ∷ 0 ∷ 0 ∷ 0 ∷ 0 ∷ 0 ∷ 0 ∷ 0 ∷ 0 ∷ 0 ∷ 0 ∷ 0 ∷ 0 ∷ 0 ∷ 0 ∷ 0 ∷ 0 ∷ 0 ∷ 0 ∷ 0 ∷ 0 ∷ 0 ∷ 0 ∷
    0 ∷ 0 ∷ 0 ∷ 0 ∷ 0 ∷ 0 ∷ 0 ∷ 0 ∷ 0 ∷ 0 ∷ 0 ∷ 0 ∷ 0 ∷ 0 ∷ 0 ∷ 0 ∷ 0 ∷ 0 ∷ 0 ∷ 0 ∷ 0 ∷ 0 ∷ 0 ∷ 0 ∷ 0 ∷ 0 ∷ 0 ∷ 0 ∷ 0 ∷ 0 ∷ 0 ∷ 0 ∷ 0 ∷ 0 ∷ 0 ∷ 0 ∷ 0 ∷
    0 ∷ 0 ∷ 0 ∷ 0 ∷ 0 ∷ 0 ∷ 0 ∷ 0 ∷ 0 ∷ 0 ∷ 0 ∷ 0 ∷ 0 ∷ 4 ∷ 0 ∷ 0 ∷ 0 ∷ 16 ∷ 0 ∷ 0 ∷ 0 ∷ 2 ∷ 0 ∷ 0 ∷ 0 ∷ 0 ∷ 0 ∷ 0 ∷ 0 ∷ 0 ∷ 0 ∷ 0 ∷ 0 ∷ 0 ∷ 0 ∷ 0 ∷
    0 ∷ 0 ∷ 0 ∷ 0 ∷ 0 ∷ 0 ∷ 0 ∷ 0 ∷ 0 ∷ 0 ∷ 0 ∷ 0 ∷ 0 ∷ 0 ∷ 0 ∷ 0 ∷ 0 ∷ 0 ∷ 0 ∷ 0 ∷ 0 ∷ 0 ∷ 0 ∷ 0 ∷ 0 ∷ 0 ∷ 0 ∷ 0 ∷ 0 ∷ 0 ∷ 0 ∷ 0 ∷ 0 ∷ 0 ∷ 0 ∷ 0 ∷ 0 ∷
    0 ∷ 0 ∷ 0 ∷ 0 ∷ 0 ∷ 0 ∷ 0 ∷ 0 ∷ 35 ∷ 35 ∷ 67 ∷ 78 ∷ 0 ∷ 0 ∷ 0 ∷ 0 ∷ 160 ∷ 0 ∷ 0 ∷ 0 ∷ 0 ∷ 0 ∷ 0 ∷ 0 ∷ 8 ∷ 0 ∷ 0 ∷ 0 ∷ 0 ∷ 0 ∷ 0 ∷ 0 ∷ 80 ∷ 1 ∷ 0 ∷
    0 ∷ 0 ∷ 0 ∷ 0 ∷ 0 ∷ 0 ∷ 0 ∷ 0 ∷ 0 ∷ 0 ∷ 0 ∷ 0 ∷ 0 ∷ 0 ∷ 0 ∷ 0 ∷ 0 ∷ 0 ∷ 0 ∷ 0 ∷ 0 ∷ 0 ∷ 0 ∷ 0 ∷ 0 ∷ 0 ∷ 0 ∷ 0 ∷ 0 ∷ 0 ∷ 0 ∷ 0 ∷ 0 ∷ 0 ∷ 0 ∷ 0 ∷ 0 ∷
    0 ∷ 0 ∷ 0 ∷ 0 ∷ 0 ∷ 0 ∷ 0 ∷ 0 ∷ 0 ∷ 0 ∷ 0 ∷ 0 ∷ 0 ∷ 0 ∷ 0 ∷ 0 ∷ 0 ∷ 0 ∷ 0 ∷ 0 ∷ 0 ∷ 0 ∷ 0 ∷ 0 ∷ 2 ∷ 1 ∷ 0 ∷ 0 ∷ 0 ∷ 0 ∷ 0 ∷ 0 ∷ 32 ∷ 0 ∷ 0 ∷ 0 ∷
    0 ∷ 0 ∷ 0 ∷ 0 ∷ 0 ∷ 0 ∷ 0 ∷ 0 ∷ 0 ∷ 0 ∷ 0 ∷ 0 ∷ 0 ∷ 0 ∷ 0 ∷ 0 ∷ 0 ∷ 0 ∷ 0 ∷ 0 ∷ 0 ∷ 0 ∷ 0 ∷ 0 ∷ 0 ∷ 0 ∷ 0 ∷ 0 ∷ 0 ∷ 0 ∷ 0 ∷ 0 ∷ 0 ∷ 0 ∷ 0 ∷ 0 ∷ 0 ∷
    0 ∷ 0 ∷ 0 ∷ 0 ∷ 0 ∷ 0 ∷ 0 ∷ 0 ∷ 0 ∷ 0 ∷ 0 ∷ 0 ∷ 0 ∷ 0 ∷ 0 ∷ 0 ∷ 0 ∷ 0 ∷ 0 ∷ 0 ∷ 0 ∷ 0 ∷ 0 ∷ 35 ∷ 35 ∷ 67 ∷ 71 ∷ 0 ∷ 0 ∷ 0 ∷ 0 ∷ 104 ∷ 0 ∷ 0 ∷ 0 ∷
    0 ∷ 0 ∷ 0 ∷ 0 ∷ 6 ∷ 0 ∷ 0 ∷ 0 ∷ 0 ∷ 0 ∷ 0 ∷ 0 ∷ 0 ∷ 0 ∷ 0 ∷ 0 ∷ 0 ∷ 0 ∷ 0 ∷ 0 ∷ 240 ∷ 1 ∷ 0 ∷ 0 ∷ 0 ∷ 0 ∷ 0 ∷ 0 ∷ 0 ∷ 0 ∷ 0 ∷ 0 ∷ 0 ∷ 0 ∷ 0 ∷ 0 ∷
    0 ∷ 0 ∷ 0 ∷ 0 ∷ 0 ∷ 0 ∷ 0 ∷ 0 ∷ 0 ∷ 0 ∷ 0 ∷ 0 ∷ 0 ∷ 0 ∷ 0 ∷ 0 ∷ 0 ∷ 0 ∷ 0 ∷ 0 ∷ 0 ∷ 0 ∷ 0 ∷ 0 ∷ 0 ∷ 0 ∷ 0 ∷ 0 ∷ 0 ∷ 0 ∷ 0 ∷ 0 ∷ 0 ∷ 0 ∷ 0 ∷ 0 ∷ 0 ∷
    0 ∷ 0 ∷ 0 ∷ 0 ∷ 0 ∷ 0 ∷ 0 ∷ 0 ∷ 0 ∷ 0 ∷ 0 ∷ 6 ∷ 0 ∷ 0 ∷ 0 ∷ 1 ∷ 0 ∷ 0 ∷ 0 ∷ 35 ∷ 35 ∷ 68 ∷ 71 ∷ 0 ∷ 0 ∷ 0 ∷ 0 ∷ 64 ∷ 0 ∷ 0 ∷ 0 ∷ 0 ∷ 0 ∷ 0 ∷ 0 ∷
    4 ∷ 0 ∷ 0 ∷ 0 ∷ 0 ∷ 0 ∷ 0 ∷ 0 ∷ 0 ∷ 0 ∷ 0 ∷ 0 ∷ 0 ∷ 0 ∷ 0 ∷ 0 ∷ 144 ∷ 2 ∷ 0 ∷ 0 ∷ 0 ∷ 0 ∷ 0 ∷ 0 ∷ 168 ∷ 0 ∷ 0 ∷ 0 ∷ 0 ∷ 0 ∷ 0 ∷ 0 ∷ 0 ∷ 0 ∷ 0 ∷ 0 ∷
    0 ∷ 0 ∷ 0 ∷ 0 ∷ 0 ∷ 0 ∷ 0 ∷ 0 ∷ 0 ∷ 0 ∷ 0 ∷ 0 ∷ []

-- `columns` lends block size 64, history text `convert`, time 0
abbrev pub args : result_result.Args
args = record { image = image; block_size = 64; ident = ident; text = 99 ∷ 111 ∷ 110 ∷ 118 ∷ 101 ∷ 114 ∷ 116 ∷ []; time = 0; unit = 8; table = []; share = false; photos = false }
  where
    ident : List ℕ
    ident = 77 ∷ 68 ∷ 70 ∷ 32 ∷ 32 ∷ 32 ∷ 32 ∷ 32 ∷ 52 ∷ 46 ∷ 50 ∷ 48 ∷ 32 ∷ 32 ∷ 32 ∷ 32 ∷ 83 ∷ 105 ∷ 116 ∷ 97 ∷ 117 ∷ 110 ∷ 103 ∷ 111 ∷ replicate 40 0

-- what is read off of what was decided: metadata's end, the columns' data, the file's size, and the length of the file
abbrev pub places_of : List plan_layout.Placed → List ℕ
places_of [] = []
places_of (p ∷ ps) = p.first ∷ places_of ps

abbrev pub seen : result_result.Args → base_checked.Checked result_result.Decided → List ℕ
seen x (base_checked.ok d) = d.laid_out.metadata_end_lem ∷ d.laid_out.file_size_lem ∷ length (result_result.file_of x d.laid_out) ∷ places_of d.laid_out.placed
seen x (base_checked.refused number place) = number ∷ place ∷ []

-- its listing, "There metadata ends at 1048, column data starts at 1048 and 1176, the file has 1288 bytes*"
abbrev pub Worked : Type 0
Worked =
    (result_listing.listing args (result_result.decided args) ≡
    99 ∷ 111 ∷ 108 ∷ 117 ∷ 109 ∷ 110 ∷ 115 ∷ 32 ∷ 50 ∷ 10 ∷ 48 ∷ 32 ∷ 116 ∷ 32 ∷ 52 ∷ 32 ∷ 48 ∷ 32 ∷ 50 ∷ 48 ∷ 32 ∷ 50 ∷ 32 ∷ 56 ∷ 48 ∷ 32 ∷ 45 ∷ 10 ∷
    49 ∷ 32 ∷ 115 ∷ 32 ∷ 50 ∷ 32 ∷ 49 ∷ 32 ∷ 50 ∷ 48 ∷ 32 ∷ 50 ∷ 32 ∷ 54 ∷ 48 ∷ 32 ∷ 48 ∷ 10 ∷ 111 ∷ 109 ∷ 105 ∷ 116 ∷ 116 ∷ 101 ∷ 100 ∷ 32 ∷ 48 ∷ 10 ∷
    [])
    × (seen args (result_result.decided args) ≡ 1048 ∷ 1288 ∷ 1288 ∷ 1048 ∷ 1176 ∷ [])

pub starred : Payloads × Versions × Kinds × Worked
unfolding evaluated
starred = (
  (refl, refl, refl, refl),
  (refl, refl, refl, refl, refl, refl),
  (refl, refl, refl, refl, refl, refl, refl, refl, refl, refl, refl, refl, refl, refl, refl, refl),
  (refl, refl),
)
