-- Document 02, request 6: tables of treatments, 27 from both sides, and how types are treated.
use Rattle.std.specs.Prelude.{ℕ, false, List, [], ◌∷◌, ◌≡◌, refl}
use Rattle.base.specs.Choice.{if_lt, if_eq}
use Rattle.base.specs.Checked.{refused, fine}
use Rattle.plan.specs.Table.{count_in, type_at, treated_at, entry_of, is_sized, is_allowed, is_entry, are_entries, table_in, built_in_for, chosen_by, treatment}
use Rattle.plan.specs.Rules.{is_among, unit_in, choices_in}

-- "a count byte n from 1 to 7, then n type bytes, then n treatment bytes"; "a table of length 0 leaves all to it"
abbrev pub Sizes : Type 0
Sizes =
    -- no bytes; a count of none; a type without its treatment; one type; a byte too many
    (table_in [] ≡ fine)
    × (table_in (0 ∷ []) ≡ refused 27 0)
    × (table_in (1 ∷ 0 ∷ []) ≡ refused 27 0)
    × (table_in (1 ∷ 0 ∷ 0 ∷ []) ≡ fine)
    × (table_in (1 ∷ 0 ∷ 0 ∷ 0 ∷ []) ≡ refused 27 0)
    -- all seven types; eight
    × (table_in (7 ∷ 0 ∷ 1 ∷ 2 ∷ 3 ∷ 4 ∷ 5 ∷ 6 ∷ 2 ∷ 2 ∷ 0 ∷ 0 ∷ 0 ∷ 2 ∷ 1 ∷ []) ≡ fine)
    × (table_in (8 ∷ 0 ∷ 1 ∷ 2 ∷ 3 ∷ 4 ∷ 5 ∷ 6 ∷ 7 ∷ 0 ∷ 0 ∷ 0 ∷ 0 ∷ 0 ∷ 2 ∷ 0 ∷ 0 ∷ []) ≡ refused 27 0)

-- "a type repeats or exceeds 6, a treatment exceeds 2, type 2 or 3 isn't kept, type 5 is kept, or type 6 is stored as 0"
abbrev pub Entries : Type 0
Entries =
    -- a type over 6; a type twice, also with one treatment or apart; a treatment over 2
    (table_in (1 ∷ 6 ∷ 0 ∷ []) ≡ fine)
    × (table_in (1 ∷ 7 ∷ 0 ∷ []) ≡ refused 27 0)
    × (table_in (2 ∷ 0 ∷ 1 ∷ 1 ∷ 1 ∷ []) ≡ fine)
    × (table_in (2 ∷ 0 ∷ 0 ∷ 1 ∷ 2 ∷ []) ≡ refused 27 0)
    × (table_in (2 ∷ 0 ∷ 0 ∷ 1 ∷ 1 ∷ []) ≡ refused 27 0)
    × (table_in (3 ∷ 0 ∷ 1 ∷ 0 ∷ 1 ∷ 1 ∷ 1 ∷ []) ≡ refused 27 0)
    × (table_in (1 ∷ 0 ∷ 2 ∷ []) ≡ fine)
    × (table_in (1 ∷ 0 ∷ 3 ∷ []) ≡ refused 27 0)
    -- type 2 or 3 kept, omitted, stored as 0
    × (table_in (1 ∷ 2 ∷ 0 ∷ []) ≡ fine)
    × (table_in (1 ∷ 2 ∷ 1 ∷ []) ≡ refused 27 0)
    × (table_in (1 ∷ 2 ∷ 2 ∷ []) ≡ refused 27 0)
    × (table_in (1 ∷ 3 ∷ 0 ∷ []) ≡ fine)
    × (table_in (1 ∷ 3 ∷ 1 ∷ []) ≡ refused 27 0)
    × (table_in (1 ∷ 3 ∷ 2 ∷ []) ≡ refused 27 0)
    -- type 5 kept, omitted, stored as 0; type 6 omitted, stored as 0
    × (table_in (1 ∷ 5 ∷ 0 ∷ []) ≡ refused 27 0)
    × (table_in (1 ∷ 5 ∷ 1 ∷ []) ≡ fine)
    × (table_in (1 ∷ 5 ∷ 2 ∷ []) ≡ fine)
    × (table_in (1 ∷ 6 ∷ 1 ∷ []) ≡ fine)
    × (table_in (1 ∷ 6 ∷ 2 ∷ []) ≡ refused 27 0)

-- "it follows 26"
abbrev pub Order : Type 0
Order =
    (choices_in (record { unit = 8; table = 1 ∷ 4 ∷ 0 ∷ []; share = false; photos = false }) ≡ fine)
    × (choices_in (record { unit = 8; table = 0 ∷ []; share = false; photos = false }) ≡ refused 27 0)
    × (choices_in (record { unit = 12; table = 0 ∷ []; share = false; photos = false }) ≡ refused 26 0)

-- types 0 to 6 by a table
abbrev treatments : List ℕ → List ℕ
treatments table =
    treatment table 0 ∷ treatment table 1 ∷ treatment table 2 ∷ treatment table 3 ∷ treatment table 4 ∷ treatment table 5 ∷ treatment table 6 ∷ []

-- "Types not listed keep the built-in treatment"; "Omissions made by a table carry reason 8"
abbrev pub Treatments : Type 0
Treatments =
    -- built in; type 4 kept; types 4 and 1 omitted; type 1 stored as 0; all seven types
    (treatments [] ≡ 0 ∷ 0 ∷ 0 ∷ 0 ∷ 4 ∷ 2 ∷ 0 ∷ [])
    × (treatments (1 ∷ 4 ∷ 0 ∷ []) ≡ 0 ∷ 0 ∷ 0 ∷ 0 ∷ 0 ∷ 2 ∷ 0 ∷ [])
    × (treatments (2 ∷ 4 ∷ 1 ∷ 1 ∷ 1 ∷ []) ≡ 0 ∷ 8 ∷ 0 ∷ 0 ∷ 8 ∷ 2 ∷ 0 ∷ [])
    × (treatments (1 ∷ 1 ∷ 2 ∷ []) ≡ 0 ∷ 2 ∷ 0 ∷ 0 ∷ 4 ∷ 2 ∷ 0 ∷ [])
    × (treatments (7 ∷ 0 ∷ 1 ∷ 2 ∷ 3 ∷ 4 ∷ 5 ∷ 6 ∷ 2 ∷ 2 ∷ 0 ∷ 0 ∷ 0 ∷ 2 ∷ 1 ∷ []) ≡ 2 ∷ 2 ∷ 0 ∷ 0 ∷ 0 ∷ 2 ∷ 8 ∷ [])

pub tables : Sizes × Entries × Order × Treatments
unfolding
    if_lt if_eq count_in type_at treated_at entry_of is_sized is_allowed is_entry are_entries table_in built_in_for chosen_by treatment is_among unit_in choices_in
tables = (
  (refl, refl, refl, refl, refl, refl, refl),
  (refl, refl, refl, refl, refl, refl, refl, refl, refl, refl, refl, refl, refl, refl, refl, refl, refl, refl, refl),
  (refl, refl, refl),
  (refl, refl, refl, refl, refl),
)
