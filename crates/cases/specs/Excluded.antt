-- What document 01's c excludes, at the worked example: each wrong converter gives something else than the definitions do.
use Rattle.std.specs.Prelude.{ℕ, List, [], ◌∷◌, ◌++◌, ◌≡◌, refl, replicate, length, get_or, take, set}
use Rattle.std.proofs.Math.Option.{Option, none, some}
use Rattle.base.specs.Checked as base_checked
use Rattle.result.specs.Result as result_result
use Rattle.result.specs.Links as result_links
use Rattle.result.specs.Due as result_due
use Rattle.cases.specs.Evaluated.{evaluated}
use Rattle.cases.specs.Starred.{image, args}

-- of an answer: whether it is a refusal, its number and place
abbrev answered : base_checked.Checked result_result.Decided → List ℕ
answered (base_checked.ok d) = []
answered (base_checked.refused number place) = number ∷ place ∷ []

-- what is left in an output of just the file's bytes
abbrev pub file_in : result_result.Args → base_checked.Checked result_result.Decided → List ℕ
file_in x (base_checked.ok d) = result_result.file_of x d.laid_out
file_in x (base_checked.refused number place) = []

abbrev report_in : result_result.Args → base_checked.Checked result_result.Decided → List ℕ
report_in x (base_checked.ok d) =
    let r = result_result.report x d in
    r.source_groups_lem ∷ r.time_groups_lem ∷ r.signal_groups_lem ∷ r.shared_time_groups_lem ∷ r.data_blocks ∷ r.metadata_size_lem ∷ r.file_size_lem ∷ []
report_in x (base_checked.refused number place) = []

-- the number of columns and of omissions
abbrev plan_in : base_checked.Checked result_result.Decided → List ℕ
plan_in (base_checked.ok d) = length d.planned.columns ∷ length d.planned.omissions ∷ []
plan_in (base_checked.refused number place) = []

-- the bytes of a payload, none where its data chain is stopped
abbrev bytes_in : base_checked.Checked (List ℕ) → Option ℕ
bytes_in (base_checked.ok bs) = some (length bs)
bytes_in (base_checked.refused number place) = none

abbrev payloads_in : List result_links.Shown → List (Option ℕ)
payloads_in [] = []
payloads_in (c ∷ cs) = bytes_in c.payload ∷ payloads_in cs

-- what links are to show
abbrev due_in : result_result.Args → base_checked.Checked result_result.Decided → List result_links.Shown
due_in x (base_checked.ok d) = result_due.due_all (result_result.rules_of x) x.image x.block_size d.laid_out.placed d.laid_out.placed
due_in x (base_checked.refused number place) = []

-- the recording with its first sample changed
abbrev pub other : result_result.Args
other = record { image = set image 192 9; block_size = args.block_size; ident = args.ident; text = args.text; time = args.time; unit = args.unit; table = args.table; share = args.share; photos = args.photos }

abbrev pub Excluded : Type 0
Excluded =
    -- one that refuses every recording: this one is accepted
    (answered (result_result.answer args 1288 1) ≡ [])
    -- "too small" before anything was measured: the size stands in 20, the words needed in 21
    × (answered (result_result.answer args 0 0) ≡ 20 ∷ 1288 ∷ [])
    × (answered (result_result.answer args 1288 0) ≡ 21 ∷ 1 ∷ [])
    -- a list written on 20: it is as it was
    × ((result_result.convert args [] (7 ∷ []) []).list ≡ 7 ∷ [])
    -- a report of invented blocks: there are four
    × (report_in args (result_result.decided args) ≡ 1 ∷ 1 ∷ 1 ∷ 0 ∷ 4 ∷ 1048 ∷ 1288 ∷ [])
    -- one that omits each channel: there are two columns and no omission
    × (plan_in (result_result.decided args) ≡ 2 ∷ 0 ∷ [])
    -- the file shows just what is due
    × (result_links.shown (file_in args (result_result.decided args)) 3 ≡ due_in args (result_result.decided args))
    -- that is two columns with 80 and 60 bytes of payload
    × (payloads_in (result_links.shown (file_in args (result_result.decided args)) 3) ≡ some 80 ∷ some 60 ∷ [])
    -- one that accepts and writes nothing: zeros show no column
    × (payloads_in (result_links.shown (replicate 1288 0) 3) ≡ [])
    -- one that fills only the first column: the second column's blocks are no blocks
    × (payloads_in (result_links.shown (take 1176 (file_in args (result_result.decided args)) ++ replicate 112 0) 3) ≡ some 80 ∷ none ∷ [])
    -- one that gives every recording one stock file: another sample is another byte of the file
    × (get_or (file_in args (result_result.decided args)) 1072 0 ≡ 0)
    × (get_or (file_in other (result_result.decided other)) 1072 0 ≡ 9)

pub excluded : Excluded
unfolding evaluated
excluded = (refl, refl, refl, refl, refl, refl, refl, refl, refl, refl, refl, refl)
