-- Refusals at files of two columns without records: each against its neighbour in the order of document 02, request 13.
use Rattle.std.specs.Prelude.{ℕ, suc, List, [], ◌∷◌, ◌++◌, ◌≡◌, refl, replicate}
use Rattle.std.proofs.Math.Option.{Option, none, some}
use Rattle.base.specs.Field.{le}
use Rattle.base.specs.Checked.{Checked, ok, refused}
use Rattle.mdf.specs.Block.{kind, kind_hd, kind_dg, kind_cg, kind_cn, kind_dt, kind_sd, kind_tx}
use Rattle.plan.specs.Layout.{Layout}
use Rattle.file.specs.Form.{FileColumn}
use Rattle.file.specs.Opened.{opened}
use Rattle.sheet.specs.Sheet.{master_of}
use Rattle.file_cases.specs.Image.{ident, header, links_to}
use Rattle.thin.specs.TakenOut.{arranged}
use Rattle.thin_cases.specs.Evaluated.{taken}
use Rattle.thin_cases.specs.Worked.{without}

-- HD: history, attachment, comment
abbrev hd : ℕ → ℕ → ℕ → List ℕ
hd history attachment comment = header kind_hd 104 6 ++ links_to (168 ∷ history ∷ 0 ∷ attachment ∷ 0 ∷ comment ∷ []) ++ replicate 32 0

-- DG: the next one, its CG
abbrev dg : ℕ → ℕ → List ℕ
dg next g = header kind_dg 64 4 ++ links_to (next ∷ g ∷ 0 ∷ 0 ∷ []) ++ replicate 8 0

-- CG: its CN, flags, seventh link
abbrev cg : ℕ → ℕ → ℕ → List ℕ
cg c flags seventh =
    header kind_cg 112 7 ++ links_to (0 ∷ c ∷ 0 ∷ 0 ∷ 0 ∷ 0 ∷ seventh ∷ []) ++ replicate 16 0 ++ le 2 flags ++ replicate 6 0 ++ le 4 4 ++ le 4 0

-- CN: type, link 6, the number of its references
abbrev cn : ℕ → ℕ → ℕ → List ℕ
cn type six count =
    header kind_cn 160 8 ++ links_to (0 ∷ 0 ∷ 0 ∷ 0 ∷ 0 ∷ six ∷ 0 ∷ 0 ∷ []) ++ (type ∷ replicate 21 0) ++ le 2 count ++ replicate 48 0

-- columns with CG at 232 and 568, what else there is from 840 on
abbrev two : List ℕ → List ℕ → List ℕ → List ℕ → List ℕ → List ℕ → List ℕ
two h g1 c1 g2 c2 rest = ident ++ h ++ dg 504 232 ++ g1 ++ c1 ++ dg 0 568 ++ g2 ++ c2 ++ rest

-- the first column's CG and CN are these, the second names the first
abbrev first : List ℕ → List ℕ → List ℕ → List ℕ
first g c rest = two (hd 0 0 0) g c (cg 680 8 232) (cn 0 0 0) rest

-- the first column is without a master, its type and link 6 are these
abbrev led : ℕ → ℕ → List ℕ → List ℕ
led type six rest = first (cg 344 0 0) (cn type six 0) rest

-- a sound file
abbrev plain : List ℕ
plain = led 2 0 []

-- the bytes of the new file, or number and place of the refusal
abbrev said : Checked Layout → List ℕ
said (ok l) = l.file_size_lem ∷ []
said (refused number place) = number ∷ place ∷ []

abbrev of : List ℕ → List ℕ → List ℕ
of s numbers = said (arranged 8 s numbers)

abbrev Signals : Type 0
Signals =
    -- a CG without a master takes 104 bytes
    (of plain [] ≡ 832 ∷ [])
    -- an SD; of no bytes
    × (of (led 1 840 (header kind_sd 27 0 ++ (1 ∷ 2 ∷ 3 ∷ []))) [] ≡ 864 ∷ [])
    × (of (led 1 840 (header kind_sd 24 0)) [] ≡ 856 ∷ [])
    -- another kind: 24; its header past the file, 24 + 8 × links over its length, its end past the file first
    × (of (led 1 840 (header kind_dt 24 0)) [] ≡ 24 ∷ 0 ∷ [])
    × (of (led 1 840 (replicate 23 0)) [] ≡ 4 ∷ 840 ∷ [])
    × (of (led 1 840 (header kind_dt 31 1 ++ replicate 8 0)) [] ≡ 8 ∷ 840 ∷ [])
    × (of (led 1 840 (header kind_dt 25 0)) [] ≡ 4 ∷ 840 ∷ [])
    -- of a column that is taken out as well; link 6 of another type isn't looked at
    × (of (led 1 841 []) (0 ∷ 1 ∷ []) ≡ 4 ∷ 841 ∷ [])
    × (of (led 4 841 []) [] ≡ 832 ∷ [])

abbrev Masters : Type 0
Masters =
    -- a seventh link to no column: 24; 0, or without flag bit 3: none
    (of (first (cg 344 8 233) (cn 0 0 0) []) [] ≡ 24 ∷ 0 ∷ [])
    × (of (first (cg 344 8 0) (cn 0 0 0) []) [] ≡ 832 ∷ [])
    × (of (first (cg 344 0 233) (cn 0 0 0) []) [] ≡ 832 ∷ [])
    -- a later column, the column itself
    × (of (first (cg 344 8 568) (cn 0 0 0) []) [] ≡ 840 ∷ [])
    × (of (first (cg 344 8 232) (cn 0 0 0) []) [] ≡ 840 ∷ [])
    -- column by column: the first one's master before the second one's SD, its SD before its master
    × (of (two (hd 0 0 0) (cg 344 8 233) (cn 0 0 0) (cg 680 0 0) (cn 1 841 0) []) [] ≡ 24 ∷ 0 ∷ [])
    × (of (first (cg 344 8 233) (cn 1 841 0) []) [] ≡ 4 ∷ 841 ∷ [])

abbrev Lists : Type 0
Lists =
    -- 24 before the list is looked at
    (of (first (cg 344 8 233) (cn 0 0 0) []) (9 ∷ []) ≡ 24 ∷ 0 ∷ [])
    -- 33 before 34, also where the number that is no column comes last
    × (of plain (0 ∷ 2 ∷ []) ≡ 33 ∷ 0 ∷ [])
    × (of plain (0 ∷ 0 ∷ []) ≡ 33 ∷ 0 ∷ [])
    × (of plain (0 ∷ []) ≡ 34 ∷ 0 ∷ [])
    × (of plain (1 ∷ 0 ∷ []) ≡ 168 ∷ [])
    × (of plain (1 ∷ []) ≡ 496 ∷ [])
    -- one that names itself may go; one that the other names may not
    × (of (two (hd 0 0 0) (cg 344 0 0) (cn 0 0 0) (cg 680 8 568) (cn 0 0 0) []) (1 ∷ []) ≡ 496 ∷ [])
    × (of (first (cg 344 8 568) (cn 0 0 0) []) (1 ∷ []) ≡ 34 ∷ 0 ∷ [])
    -- 26 before all else
    × (said (arranged 12 [] (9 ∷ [])) ≡ 26 ∷ 0 ∷ [])
    × (said (arranged 8 [] (9 ∷ [])) ≡ 4 ∷ 0 ∷ [])

-- an AT of 96 bytes with the next one
abbrev at : ℕ → List ℕ
at next = header (kind "A" "T") 96 4 ++ links_to (next ∷ 0 ∷ 0 ∷ 0 ∷ []) ++ replicate 40 7

abbrev Rest : Type 0
Rest =
    -- 34 before the attachments; these (18) before 28; 28 of a kept column only, before what is copied
    (of (two (hd 0 841 0) (cg 344 0 0) (cn 0 0 1) (cg 680 8 232) (cn 0 0 0) []) (0 ∷ []) ≡ 34 ∷ 0 ∷ [])
    × (of (two (hd 0 840 0) (cg 344 0 0) (cn 0 0 1) (cg 680 8 232) (cn 0 0 0) (header (kind "A" "T") 48 3 ++ replicate 24 0)) [] ≡ 18 ∷ 840 ∷ [])
    × (of (two (hd 0 0 841) (cg 344 0 0) (cn 0 0 1) (cg 680 8 232) (cn 0 0 0) []) [] ≡ 28 ∷ 344 ∷ [])
    × (of (two (hd 0 0 841) (cg 344 0 0) (cn 0 0 0) (cg 680 8 232) (cn 0 0 1) []) (1 ∷ []) ≡ 4 ∷ 841 ∷ [])
    -- the comment before the history; a history block without links
    × (of (two (hd 842 0 841) (cg 344 0 0) (cn 0 0 0) (cg 680 8 232) (cn 0 0 0) []) [] ≡ 4 ∷ 841 ∷ [])
    × (of (two (hd 840 0 0) (cg 344 0 0) (cn 0 0 0) (cg 680 8 232) (cn 0 0 0) (header kind_tx 24 0)) [] ≡ 17 ∷ 840 ∷ [])
    -- an attachment is kept with all columns taken out
    × (of (two (hd 0 840 0) (cg 344 0 0) (cn 0 0 0) (cg 680 8 232) (cn 0 0 0) (at 0)) (0 ∷ 1 ∷ []) ≡ 264 ∷ [])

abbrev pub Orders : Type 0
Orders = Signals × Masters × Lists × Rest

pub orders : Orders
unfolding taken
orders = (
  (refl, refl, refl, refl, refl, refl, refl, refl, refl),
  (refl, refl, refl, refl, refl, refl, refl),
  (refl, refl, refl, refl, refl, refl, refl, refl, refl, refl),
  (refl, refl, refl, refl, refl, refl, refl),
)

-- with a column taken out and then the other nothing is left but the front; the same as both at once
pub in_turn : without (without plain (1 ∷ [])) (0 ∷ []) ≡ without plain (0 ∷ 1 ∷ [])
unfolding taken
in_turn = refl

-- nothing taken out of what was made before: the same file
pub as_before : without (without plain []) [] ≡ without plain []
unfolding taken
as_before = refl

-- ---- masters by number: a column more before these two, which goes
abbrev three : List ℕ
three =
    ident ++ hd 0 0 0 ++ dg 504 232 ++ cg 344 0 0 ++ cn 0 0 0 ++ dg 840 568 ++ cg 680 0 0 ++ cn 2 0 0
    ++ dg 0 904 ++ cg 1016 8 568 ++ cn 0 0 0

-- the number of each column's master, and 1; 0 for none
abbrev numbered : Option ℕ → ℕ
numbered none = 0
numbered (some m) = suc m

abbrev masters : List ℕ → List FileColumn → List FileColumn → List ℕ
masters f all [] = []
masters f all (c ∷ cs) = numbered (master_of f all c.cg) ∷ masters f all cs

abbrev masters_of : List ℕ → Checked (List FileColumn) → List ℕ
masters_of f (ok all) = masters f all all
masters_of f (refused number place) = []

abbrev pub Renumbered : Type 0
Renumbered =
    (masters_of three (opened three) ≡ 0 ∷ 0 ∷ 2 ∷ [])
    × (masters_of (without three (0 ∷ [])) (opened (without three (0 ∷ []))) ≡ 0 ∷ 1 ∷ [])
    × (masters_of (without three []) (opened (without three [])) ≡ 0 ∷ 0 ∷ 2 ∷ [])

pub renumbered : Renumbered
unfolding taken
renumbered = (refl, refl, refl)
