-- Parts of a column's line.
use Rattle.std.specs.Prelude.{ℕ, ◌<◌, List, [], ◌∷◌, ◌++◌, ◌≡◌}
use Rattle.std.proofs.Math.Option.{Option, none, some}
use Rattle.mdf.specs.Group.{samples}
use Rattle.file.specs.Form.{cycles}
use Rattle.sheet.specs.Sheet.{ascii, left_in, right_in, kind_of}
use Rattle.std.specs.Prelude as std

-- the code's answer
abbrev pub found_as : std.Option ℕ → Option ℕ
found_as std.None = none
found_as (std.Some number) = some number

-- r is the letter of the CN at c
pub record KindOf (s : List ℕ) (c r : ℕ) : Type 0 where
  pub is : left_in 1 (kind_of s c) ≡ r ∷ []
  pub small : r < 256

-- number and kind
unfoldable pub front_text : List ℕ → ℕ → ℕ → List ℕ
front_text s k c = right_in 8 k ++ ascii " " ++ left_in 1 (kind_of s c) ++ ascii " "

-- data bytes and records
unfoldable pub sizes_text : List ℕ → ℕ → List ℕ
sizes_text s g = right_in 12 (samples s g) ++ ascii " " ++ right_in 12 (cycles s g)
