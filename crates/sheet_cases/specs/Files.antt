-- Sheets of small files: no columns, names, numbers, masters, refusals.
use Rattle.std.specs.Prelude.{ℕ, List, [], ◌∷◌, ◌++◌, ◌≡◌, refl, replicate}
use Rattle.mdf.specs.Block.{kind, kind_hd, kind_cn, kind_tx}
use Rattle.file_cases.specs.Image.{ident, header, links_to, dg, cg, cn, file}
use Rattle.file_cases.specs.Forms.{two, bare}
use Rattle.sheet.specs.Sheet.{ascii, sheet}
use Rattle.sheet_cases.specs.Evaluated.{printed}

-- a CN of a type, with the name at 496
abbrev named : ℕ → List ℕ
named type = header kind_cn 160 8 ++ links_to (0 ∷ 0 ∷ 496 ∷ 0 ∷ 0 ∷ 0 ∷ 0 ∷ 0 ∷ []) ++ (type ∷ replicate 71 0)

abbrev with_name : ℕ → ℕ → List ℕ → List ℕ
with_name k type bytes = file (dg 0 0) (cg 0 4 0) (named type) (header k 60 0 ++ bytes ++ replicate 36 0)

abbrev page : List ℕ
page = ascii "page 1 of 1                                                                     \n"

abbrev pub Files : Type 0
Files =
    -- no columns: one page with its heading
    (sheet (ident ++ header kind_hd 104 6 ++ replicate 80 0) ≡ page)
    × (sheet two ≡ page ++ ascii "       0 s -                                           4            3 -         \n")
    × (sheet (with_name kind_tx 2 (ascii "engine speed")) ≡ page ++ ascii "       0 t engine speed                                4            0 -         \n")
    -- over 32 bytes, a zero inside, bytes that aren't printed, another kind
    × (sheet (with_name kind_tx 3 (ascii "abcdefghijklmnopqrstuvwxyz0123456"))
    ≡ page ++ ascii "       0 t abcdefghijklmnopqrstuvwxyz012345            4            0 -         \n")
    × (sheet (with_name kind_tx 0 (ascii "in\0side")) ≡ page ++ ascii "       0 s in                                          4            0 -         \n")
    × (sheet (with_name kind_tx 0 (9 ∷ 195 ∷ 164 ∷ [])) ≡ page ++ ascii "       0 s ???                                         4            0 -         \n")
    × (sheet (with_name (kind "C" "C") 0 (ascii "speed")) ≡ page ++ ascii "       0 s -                                           4            0 -         \n")
    -- the most records
    × (sheet (bare 18446744073709551615 0 0) ≡ page ++ ascii "       0 s -                                           0 ############ -         \n")
    -- refusals
    × (sheet (bare 1 4 0) ≡ ascii "refused 24 place 0\n")
    × (sheet (file (dg 3 0) (cg 0 4 0) (cn 0) []) ≡ ascii "refused 13 place 168\n")
    × (sheet [] ≡ ascii "refused 4 place 0\n")

pub files : Files
unfolding printed
files = (refl, refl, refl, refl, refl, refl, refl, refl, refl, refl, refl)
