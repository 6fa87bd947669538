-- Document 01's example file with columns taken out.
use Rattle.std.specs.Prelude.{ℕ, List, [], ◌∷◌, ◌≡◌, refl, length}
use Rattle.base.specs.Checked.{Checked, ok, refused}
use Rattle.plan.specs.Layout.{Layout}
use Rattle.file_cases.specs.Worked.{file}
use Rattle.thin.specs.Fill.{file_kept}
use Rattle.thin.specs.TakenOut.{arranged, answer}
use Rattle.thin_cases.specs.Evaluated.{taken}

-- the file that is made, none where the call is refused
abbrev pub made : List ℕ → Checked Layout → List ℕ
made s (ok l) = file_kept s l
made s (refused number place) = []

abbrev pub without : List ℕ → List ℕ → List ℕ
without s numbers = made s (arranged 8 s numbers)

pub none_left : length (without file (0 ∷ 1 ∷ [])) ≡ 256
unfolding taken
none_left = refl

pub named : answer 8 file (0 ∷ []) 2000 ≡ refused 34 0
unfolding taken
named = refl

pub one_left : length (without file (1 ∷ [])) ≡ 776
unfolding taken
one_left = refl
