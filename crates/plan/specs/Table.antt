-- A cell's own treatment of channel types (document 02, request 6): the table that a call lends, its refusal, and how it treats a type.
use Rattle.std.specs.Prelude.{ℕ, zero, suc, ◌+◌, ◌*◌, List, Bool, true, false, eqb, leb, ltb, length, get_or}
use Rattle.base.specs.Choice.{pick, if_lt, if_eq}
use Rattle.base.specs.Checked.{refused, Verdict, fine}

-- "a count byte n from 1 to 7, then n type bytes, then n treatment bytes": the count, 0 of a table of length 0; type and treatment of entry k
unfoldable pub count_in : List ℕ → ℕ
count_in table = get_or table 0 0

unfoldable pub type_at : List ℕ → ℕ → ℕ
type_at table k = get_or table (1 + k) 0

unfoldable pub treated_at : List ℕ → ℕ → ℕ
treated_at table k = get_or table (1 + count_in table + k) 0

-- bookkeeping: the first of n entries from entry k on that lists type t, k + n where none does
unfoldable pub entry_of : List ℕ → ℕ → ℕ → ℕ → ℕ
entry_of table t k zero = k
entry_of table t k (suc n) = let later = entry_of table t (suc k) n in if_eq (type_at table k) t k later

-- ---- 27

-- "the count or length is wrong"; "a table of length 0 leaves all to it"
unfoldable pub is_sized : List ℕ → Bool
is_sized table =
    if_eq (length table) 0 true
    (pick (ltb 0 (count_in table)) (pick (leb (count_in table) 7) (eqb (length table) (1 + 2 * count_in table)) false) false)

-- "type 2 or 3 isn't kept, type 5 is kept, or type 6 is stored as 0": whether type t may have treatment v
unfoldable pub is_allowed : ℕ → ℕ → Bool
is_allowed t v =
    if_eq t 2 (eqb v 0)
    (if_eq t 3 (eqb v 0)
    (if_eq t 5 (if_eq v 0 false true)
    (if_eq t 6 (if_eq v 2 false true) true)))

-- "a type repeats or exceeds 6, a treatment exceeds 2": whether entry k is none of these, n entries behind it
unfoldable pub is_entry : List ℕ → ℕ → ℕ → Bool
is_entry table k n =
    if_lt (entry_of table (type_at table k) (suc k) n) (suc k + n) false
    (if_lt 6 (type_at table k) false (if_lt 2 (treated_at table k) false (is_allowed (type_at table k) (treated_at table k))))

-- bookkeeping: n entries from entry k on
unfoldable pub are_entries : List ℕ → ℕ → ℕ → Bool
are_entries table k zero = true
are_entries table k (suc n) = let later = are_entries table (suc k) n in pick (is_entry table k n) later false

-- "27 when .."
unfoldable pub table_in : List ℕ → Verdict
table_in table =
    let entries = are_entries table 0 (count_in table) in
    pick (is_sized table) (pick entries fine (refused 27 0)) (refused 27 0)

-- ---- how a type is treated, a number: 0 keep, 2 store as type 0, any other omit for that reason

-- "Built in: type 4 is omitted, 5 becomes 0, others are kept"; 01: "4 type 4"
unfoldable pub built_in_for : ℕ → ℕ
built_in_for t = if_eq t 4 4 (if_eq t 5 2 0)

-- "0 keep, 1 omit, 2 store as type 0"; "Omissions made by a table carry reason 8"
unfoldable pub chosen_by : ℕ → ℕ
chosen_by v = if_eq v 1 8 v

-- "Types not listed keep the built-in treatment"
unfoldable pub treatment : List ℕ → ℕ → ℕ
treatment table t =
    if_lt (entry_of table t 0 (count_in table)) (count_in table)
    (chosen_by (treated_at table (entry_of table t 0 (count_in table)))) (built_in_for t)
