-- One clock for many groups (document 02, request 8): which master's time column stands for which, and what is read to know it.
use Rattle.std.specs.Prelude.{ℕ, ◌+◌, ◌-◌, List, [], ◌∷◌, ◌++◌, Bool, true, false, eqb, ltb, length, replicate}
use Rattle.base.specs.Choice.{pick, if_eq}
use Rattle.base.specs.Field.{le_at}
use Rattle.base.specs.Blit.{part}
use Rattle.base.specs.Checked.{Checked, ok, refused, and_then, Verdict, fine}
use Rattle.mdf.specs.Block.{kind_tx, kind_md, kind_at, size_at, link_at, data_at}
use Rattle.mdf.specs.Name.{name_at}
use Rattle.mdf.specs.Chain.{Kind.dt, Fragment}
use Rattle.mdf.specs.Group.{DataGroup, addresses, samples, inval_bytes}
use Rattle.mdf.specs.Records.{any_dv, ranges_in, record_size, runs, runs_whole, unsorted_frames}
use Rattle.plan.specs.Channel.{channel_type, bit_offset, bit_count, channel_flags, channel_bytes, keeps_inval, both}
use Rattle.plan.specs.Columns.{SrcGroup, master_of, on_master}
use Rattle.result.specs.Payload.{records_of, cells}

-- bookkeeping: equal lists of numbers
unfoldable pub same : List ℕ → List ℕ → Bool
same [] [] = true
same [] (y ∷ ys) = false
same (x ∷ xs) [] = false
same (x ∷ xs) (y ∷ ys) = let more = same xs ys in if_eq x y more false

-- ---- the key

-- "the unit texts (read as names are: kind and all bytes after 24, none equal only to none)": the text at a, [] for none
unfoldable pub text_at : List ℕ → ℕ → List ℕ
text_at s a =
    let text = kind_at s a ∷ part (a + 24) (size_at s a - 24) s in
    if_eq a 0 [] (if_eq (kind_at s a) kind_tx text (if_eq (kind_at s a) kind_md text []))

-- fields of the CN at c (ASAM MDF 4.2, CNBLOCK): sync type, data type; its conversion and its unit (01: CN links 5 and 7)
unfoldable pub sync_type : List ℕ → ℕ → ℕ
sync_type s c = le_at 1 s (data_at s c + 1)

unfoldable pub data_type : List ℕ → ℕ → ℕ
data_type s c = le_at 1 s (data_at s c + 2)

unfoldable pub conversion_of : List ℕ → ℕ → ℕ
conversion_of s c = link_at s c 4

unfoldable pub unit_of : List ℕ → ℕ → ℕ
unit_of s c = link_at s c 6

-- "the same key as `merge_identical_time`": of the master at m of the group at g, which has n records. The count; type and sync type, "data[..2]"; data type;
-- bit offset; bits; bytes; flags; the conversion's address; whether the invalidation byte is kept; the unit's text
unfoldable pub key_of : List ℕ → ℕ → ℕ → ℕ → List ℕ
key_of s n g m =
    n ∷ channel_type s m ∷ sync_type s m ∷ data_type s m ∷ bit_offset s m ∷ bit_count s m ∷ channel_bytes s m ∷ channel_flags s m ∷ conversion_of s m
    ∷ pick (keeps_inval s g m) 1 0 ∷ text_at s (unit_of s m)

unfoldable pub time_key : List ℕ → SrcGroup → ℕ → List ℕ
time_key s g m = key_of s g.records g.at m

-- ---- "Planning starts with the unit texts the Rust reads (4)": of every group with a master, in file order
unfoldable pub units_in : List ℕ → List SrcGroup → Verdict
units_in s [] = fine
units_in s (g ∷ gs) = and_then (on_master (master_of s g) fine (λ m. name_at s (unit_of s m))) (λ _. units_in s gs)

-- ---- "then, DG by DG, the compared groups' data, omitted masters' too, checked as for a nonempty column where `stream_records` reads it"

-- of the group at g that is alone in the DG at d: `stream_records` refuses DV with invalidation bytes (14); it reads nothing where there is DV and a
-- record has no samples, or where a record in DT has no bytes; else the ranges, then whole records
unfoldable pub stream_in : List ℕ → ℕ → ℕ → List Fragment → Verdict
stream_in s d g fs =
    let read = and_then (ranges_in s fs) (λ _. runs_whole s d g (runs fs)) in
    pick (any_dv fs) (if_eq (inval_bytes s g) 0 (if_eq (samples s g) 0 fine read) (refused 14 d)) (if_eq (record_size s d g dt) 0 fine read)

-- of a DG, by the number of its groups; "Such a DG's data is always read to the end" (01, counting)
abbrev pub streams_in : List ℕ → ℕ → List ℕ → List Fragment → Verdict
streams_in s d [] fs = fine
streams_in s d (g ∷ []) fs = stream_in s d g fs
streams_in s d (g ∷ h ∷ gs) fs = and_then (unsorted_frames s d (g ∷ h ∷ gs) fs) (λ rs. fine)

-- bookkeeping: how many of the groups have a master with this key
unfoldable pub with_key : List ℕ → List ℕ → List SrcGroup → ℕ
with_key s key [] = 0
with_key s key (g ∷ gs) = on_master (master_of s g) 0 (λ m. pick (same (time_key s g m) key) 1 0) + with_key s key gs

-- "the compared groups": those with a master whose key another group's master has too; VLSD storage groups and users of a remote master have none
unfoldable pub is_compared : List ℕ → List SrcGroup → SrcGroup → Bool
is_compared s all g = on_master (master_of s g) false (λ m. ltb 1 (with_key s (time_key s g m) all))

-- bookkeeping: one of the groups gs is of the DG at d and compared
unfoldable pub any_compared : List ℕ → List SrcGroup → ℕ → List SrcGroup → Bool
any_compared s all d [] = false
any_compared s all d (g ∷ gs) =
    let more = any_compared s all d gs in pick (both (eqb g.data_group.at d) (is_compared s all g)) true more

-- "DG by DG"
unfoldable pub compared_in : List ℕ → List SrcGroup → List DataGroup → Verdict
compared_in s all [] = fine
compared_in s all (d ∷ ds) =
    let read = streams_in s d.at (addresses d.groups) d.fragments in
    and_then (pick (any_compared s all d.at all) read fine) (λ _. compared_in s all ds)

-- ---- which stands

-- "the columns' bytes": of the time column of group g, made of its master m
unfoldable pub time_cells : List ℕ → SrcGroup → ℕ → List ℕ
time_cells s g m = cells s g.at m (records_of s g)

-- "its equals": the key and "the columns' bytes" are those of group h with its master k
unfoldable pub is_equal : List ℕ → SrcGroup → ℕ → SrcGroup → ℕ → Bool
is_equal s g m h k = both (same (time_key s g m) (time_key s h k)) (same (time_cells s g m) (time_cells s h k))

-- "The first group in file order whose master isn't omitted stands for its equals": the CG of the first of the groups hs that equals g with its master m, 0
-- for none; a group's master is never omitted
unfoldable pub first_equal : List ℕ → SrcGroup → ℕ → List SrcGroup → ℕ
first_equal s g m [] = 0
first_equal s g m (h ∷ hs) =
    let later = first_equal s g m hs in on_master (master_of s h) later (λ k. pick (is_equal s g m h k) h.at later)

-- bookkeeping: the CG of the group that stands for g, which comes after the groups hs; 0 for none
unfoldable pub stands_for : List ℕ → List SrcGroup → SrcGroup → ℕ
stands_for s hs g = on_master (master_of s g) 0 (λ m. first_equal s g m hs)

-- bookkeeping: the same of the groups gs, which come after the groups hs
unfoldable pub stands_from : List ℕ → List SrcGroup → List SrcGroup → List ℕ
stands_from s hs [] = []
stands_from s hs (g ∷ gs) = stands_for s hs g ∷ stands_from s (hs ++ (g ∷ [])) gs

-- "exactly one earlier column": for each group in file order the CG of the earlier group whose master stands for its own, 0 for none
unfoldable pub shared_times : List ℕ → List SrcGroup → List ℕ
shared_times s gs = stands_from s [] gs

-- "Add the crate's sharing as an option": what planning starts with, and which master stands for which; without the option none does
unfoldable pub sharing : Bool → List ℕ → List DataGroup → List SrcGroup → Checked (List ℕ)
sharing on s ds gs =
    let shared = and_then (units_in s gs) (λ _. and_then (compared_in s gs ds) (λ _. ok (shared_times s gs))) in
    pick on shared (ok (replicate (length gs) 0))
