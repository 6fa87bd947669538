-- The sheet of document 01's example file, whose bytes are those that the definitions give for the worked example.
use Rattle.std.specs.Prelude.{◌++◌, ◌≡◌, refl}
use Rattle.file_cases.specs.Worked.{file}
use Rattle.sheet.specs.Sheet.{ascii, sheet}
use Rattle.sheet_cases.specs.Evaluated.{printed}

abbrev pub Worked : Type 0
Worked =
    sheet file
    ≡ ascii "page 1 of 1                                                                     \n"
    ++ ascii "       0 t -                                           4           20 -         \n"
    ++ ascii "       1 s -                                           2           20          0\n"

pub worked : Worked
unfolding printed
worked = refl
