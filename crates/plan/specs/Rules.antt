-- What a call chooses (document 02). Each choice is a field; the built-in ones give what was made before there was a choice.
use Rattle.std.specs.Prelude.{ℕ, List, [], ◌∷◌, Bool, true, false}
use Rattle.base.specs.Choice.{pick, if_eq}
use Rattle.base.specs.Checked.{refused, and_then, Verdict, fine}
use Rattle.plan.specs.Table.{table_in}

-- request 5: "A unit is chosen per call"; request 6: the table of treatments that "sites with their own recorders bring"; request 8: whether equal time
-- columns are shared, "as an option"; request 9: whether references to photos are kept, "a choice per call"
pub record Rules : Type 0 where
  pub unit : ℕ
  pub table : List ℕ
  pub share : Bool
  pub photos : Bool

-- "`columns` takes unit 8 and no later choice"; "a table of length 0 leaves all to" what is built in
abbrev pub built_in : Rules
built_in = record { unit = 8; table = []; share = false; photos = false }

-- "a power of two from 8 to 4096"
abbrev pub units : List ℕ
units = 8 ∷ 16 ∷ 32 ∷ 64 ∷ 128 ∷ 256 ∷ 512 ∷ 1024 ∷ 2048 ∷ 4096 ∷ []

-- bookkeeping: whether a number is one of these
unfoldable pub is_among : ℕ → List ℕ → Bool
is_among u [] = false
is_among u (v ∷ vs) = let later = is_among u vs in if_eq u v true later

-- "26 when the unit is not a power of two from 8 to 4096"
unfoldable pub unit_in : ℕ → Verdict
unit_in u = pick (is_among u units) fine (refused 26 0)

-- "it follows 2": 26; "it follows 26": 27
unfoldable pub choices_in : Rules → Verdict
choices_in o = and_then (unit_in o.unit) (λ _. table_in o.table)
