-- A small column file of one column, made from its parts: HD at 64, DG at 168, CG at 232, CN at 336, what the data link leads to at 496.
use Rattle.std.specs.Prelude.{ℕ, ◌+◌, ◌*◌, List, [], ◌∷◌, ◌++◌, length, replicate}
use Rattle.base.specs.Field.{le}
use Rattle.base.specs.Checked.{Checked, ok, refused}
use Rattle.mdf.specs.Block.{kind_hd, kind_dg, kind_cg, kind_cn, kind_dl, kind_dt, kind_dv}
use Rattle.file.specs.Form.{FileColumn}

-- `MDF`, five blanks, `4.20`, four blanks
abbrev pub ident : List ℕ
ident = 77 ∷ 68 ∷ 70 ∷ 32 ∷ 32 ∷ 32 ∷ 32 ∷ 32 ∷ 52 ∷ 46 ∷ 50 ∷ 48 ∷ 32 ∷ 32 ∷ 32 ∷ 32 ∷ replicate 48 0

abbrev pub header : ℕ → ℕ → ℕ → List ℕ
header kind size links = le 4 kind ++ replicate 4 0 ++ le 8 size ++ le 8 links

abbrev pub links_to : List ℕ → List ℕ
links_to [] = []
links_to (a ∷ bs) = le 8 a ++ links_to bs

-- id size, data link
abbrev pub dg : ℕ → ℕ → List ℕ
dg id link = header kind_dg 64 4 ++ links_to (0 ∷ 232 ∷ link ∷ 0 ∷ []) ++ (id ∷ replicate 7 0)

-- cycle count, data bytes, invalidation bytes
abbrev pub cg : ℕ → ℕ → ℕ → List ℕ
cg cycles samples inval =
    header kind_cg 104 6 ++ links_to (0 ∷ 336 ∷ 0 ∷ 0 ∷ 0 ∷ 0 ∷ []) ++ le 8 0 ++ le 8 cycles ++ replicate 8 0 ++ le 4 samples ++ le 4 inval

-- a CN without a next one, or with one at the address
abbrev pub cn : ℕ → List ℕ
cn next = header kind_cn 160 8 ++ le 8 next ++ replicate 128 0

-- a DL with these links and data bytes
abbrev pub dl_of : List ℕ → List ℕ → List ℕ
dl_of links bytes = header kind_dl (24 + 8 * length links + length bytes) (length links) ++ links_to links ++ bytes

-- equal-length bit, the number of blocks, length
abbrev pub dl : List ℕ → ℕ → List ℕ
dl links size = dl_of links (1 ∷ 0 ∷ 0 ∷ 0 ∷ le 4 0 ++ le 8 size)

abbrev pub dt : List ℕ → List ℕ
dt bytes = header kind_dt (24 + length bytes) 0 ++ bytes

abbrev pub dv : List ℕ → List ℕ
dv bytes = header kind_dv (24 + length bytes) 0 ++ bytes

-- with the DG, the CG, the CN, and what stands from 496 on
abbrev pub file : List ℕ → List ℕ → List ℕ → List ℕ → List ℕ
file d g c rest = ident ++ header kind_hd 104 6 ++ le 8 168 ++ replicate 72 0 ++ d ++ g ++ c ++ rest

-- what opening answers: for each column its DG, CG, CN and the number of its blocks, or number and place of a refusal
abbrev columns : List FileColumn → List (List ℕ)
columns [] = []
columns (c ∷ cs) = (c.dg ∷ c.cg ∷ c.cn ∷ length c.fragments ∷ []) ∷ columns cs

abbrev pub outline : Checked (List FileColumn) → List (List ℕ)
outline (ok cs) = columns cs
outline (refused number place) = (number ∷ place ∷ []) ∷ []
