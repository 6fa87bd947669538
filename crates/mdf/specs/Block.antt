-- A block of an MDF 4 image: its header, links and data (ASAM MDF 4.2, block structure), and the checks of document 01.
use Rattle.std.specs.Prelude.{ℕ, ◌+◌, ◌*◌, List, length}
use Prim.Native.Char.{Char, code}
use Rattle.base.specs.Choice.{if_lt, if_le, if_eq}
use Rattle.base.specs.Field.{le_at}
use Rattle.base.specs.Checked.{refused, and_then, Verdict, fine}

-- a block's kind: the 32-bit number of the four bytes `##` and two letters (ASAM MDF 4.2, block header)
abbrev pub kind : Char → Char → ℕ
kind a b = 35 + 256 * (35 + 256 * (code a + 256 * code b))

-- the kinds that document 01 names
abbrev pub kind_hd : ℕ
kind_hd = kind "H" "D"

abbrev pub kind_dg : ℕ
kind_dg = kind "D" "G"

abbrev pub kind_cg : ℕ
kind_cg = kind "C" "G"

abbrev pub kind_cn : ℕ
kind_cn = kind "C" "N"

abbrev pub kind_dt : ℕ
kind_dt = kind "D" "T"

abbrev pub kind_dv : ℕ
kind_dv = kind "D" "V"

abbrev pub kind_dl : ℕ
kind_dl = kind "D" "L"

abbrev pub kind_hl : ℕ
kind_hl = kind "H" "L"

abbrev pub kind_sd : ℕ
kind_sd = kind "S" "D"

abbrev pub kind_tx : ℕ
kind_tx = kind "T" "X"

abbrev pub kind_md : ℕ
kind_md = kind "M" "D"

-- ---- the header of the block at a: kind, four reserved bytes, length, number of links (ASAM MDF 4.2, block header)
unfoldable pub kind_at : List ℕ → ℕ → ℕ
kind_at s a = le_at 4 s a

unfoldable pub size_at : List ℕ → ℕ → ℕ
size_at s a = le_at 8 s (a + 8)

unfoldable pub links_at : List ℕ → ℕ → ℕ
links_at s a = le_at 8 s (a + 16)

-- link number i, from 0; document 01 counts links from 1
unfoldable pub link_at : List ℕ → ℕ → ℕ → ℕ
link_at s a i = le_at 8 s (a + 24 + 8 * i)

-- the first link, 0 where there is none: "HL leads to its first link", a DL to the next DL; history and attachment chains go on by it
unfoldable pub first_link : List ℕ → ℕ → ℕ
first_link s a = if_lt 0 (links_at s a) (link_at s a 0) 0

-- where the data of the block at a begins: past its links
unfoldable pub data_at : List ℕ → ℕ → ℕ
data_at s a = a + 24 + 8 * links_at s a

-- ---- "In one block: 11 before it is read, header range, 12 in a data chain, 8, 9, range, 10."

-- 4: the header runs past the image
unfoldable pub header_in : List ℕ → ℕ → Verdict
header_in s a = if_le (a + 24) (length s) fine (refused 4 a)

-- 8: 24 + 8 × links over the block length; 9: length over the most allowed; 4: the block runs past the image
unfoldable pub length_in : ℕ → List ℕ → ℕ → Verdict
length_in most s a =
    if_lt (size_at s a) (24 + 8 * links_at s a) (refused 8 a)
    (if_lt most (size_at s a) (refused 9 a)
    (if_lt (length s) (a + size_at s a) (refused 4 a) fine))

-- "9: length over 268,435,456"
abbrev pub most_bytes : ℕ
most_bytes = 268435456

-- header range, 8, 9, range: a block that is read whole
unfoldable pub whole_at : List ℕ → ℕ → Verdict
whole_at s a = and_then (header_in s a) (λ _. length_in most_bytes s a)

-- bookkeeping of 10: what is wanted of a block: its kind, and its least number of links and of data bytes
pub record Wanted : Type 0 where
  pub kind : ℕ
  pub links : ℕ
  pub bytes : ℕ

-- "10: not the HD, DG, CG or CN wanted; links under 6, 4, 6, 8; data under 0, 1, 32, 72 bytes"
abbrev pub HD : Wanted
HD = record { kind = kind_hd; links = 6; bytes = 0 }

abbrev pub DG : Wanted
DG = record { kind = kind_dg; links = 4; bytes = 1 }

abbrev pub CG : Wanted
CG = record { kind = kind_cg; links = 6; bytes = 32 }

abbrev pub CN : Wanted
CN = record { kind = kind_cn; links = 8; bytes = 72 }

-- 10, as the sentence above has it
unfoldable pub wanted_at : Wanted → List ℕ → ℕ → Verdict
wanted_at k s a =
    if_eq (kind_at s a) k.kind
    (if_lt (links_at s a) k.links (refused 10 a)
    (if_lt (size_at s a) (24 + 8 * links_at s a + k.bytes) (refused 10 a) fine))
    (refused 10 a)

-- header range, 8, 9, range, 10
unfoldable pub block_at : Wanted → List ℕ → ℕ → Verdict
block_at k s a = and_then (whole_at s a) (λ _. wanted_at k s a)
