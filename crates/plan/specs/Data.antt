-- The data stage: "DG by DG data of a group with a nonempty column (14, ranges, records), then the DG's signal data ranges; block counts (19)"
use Rattle.std.specs.Prelude.{ℕ, List, [], ◌∷◌, Bool, true, false, eqb, ltb}
use Rattle.base.specs.Choice.{pick, if_lt, if_eq}
use Rattle.base.specs.Checked.{refused, and_then, Verdict, fine}
use Rattle.mdf.specs.Chain.{Fragment}
use Rattle.mdf.specs.Group.{DataGroup, addresses}
use Rattle.mdf.specs.Records.{ranges_in, sorted_in, unsorted_frames}
use Rattle.plan.specs.Channel.{width, both}
use Rattle.plan.specs.Columns.{Signal, no_signal, signal_data, Column}
use Rattle.plan.specs.Geometry.{block_count}

-- "A column of width 0 or without records has no blocks": a column with blocks
unfoldable pub is_nonempty : List ℕ → Column → Bool
is_nonempty s c = both (ltb 0 (width s c.group.at c.channel)) (ltb 0 c.group.records)

-- "a group with a nonempty column": some column from the DG at d is nonempty
unfoldable pub any_nonempty : List ℕ → ℕ → List Column → Bool
any_nonempty s d [] = false
any_nonempty s d (c ∷ cs) =
    let more = any_nonempty s d cs in pick (both (eqb c.group.data_group.at d) (is_nonempty s c)) true more

-- "(14, ranges, records)" of a DG, by the number of its groups
abbrev pub records_in : List ℕ → ℕ → List ℕ → List Fragment → Verdict
records_in s d [] fs = fine
records_in s d (g ∷ []) fs = sorted_in s d g fs
records_in s d (g ∷ h ∷ gs) fs = and_then (unsorted_frames s d (g ∷ h ∷ gs) fs) (λ rs. fine)

-- "signal data ranges" of one column
abbrev pub signal_in : List ℕ → Signal → Verdict
signal_in s no_signal = fine
signal_in s (signal_data fs) = ranges_in s fs

-- "then the DG's signal data ranges": those of every planned column from the DG at d
unfoldable pub signals_in : List ℕ → ℕ → List Column → Verdict
signals_in s d [] = fine
signals_in s d (c ∷ cs) =
    and_then (if_eq c.group.data_group.at d (signal_in s c.signal_of) fine) (λ _. signals_in s d cs)

-- "data of a group with a nonempty column .., then the DG's signal data ranges", of one DG
unfoldable pub data_in : List ℕ → List Column → DataGroup → Verdict
data_in s cs d =
    let read = records_in s d.at (addresses d.groups) d.fragments in
    and_then (pick (any_nonempty s d.at cs) read fine) (λ _. signals_in s d.at cs)

-- "DG by DG"
unfoldable pub all_data_in : List ℕ → List Column → List DataGroup → Verdict
all_data_in s cs [] = fine
all_data_in s cs (d ∷ ds) = and_then (data_in s cs d) (λ _. all_data_in s cs ds)

-- "19: a column (its CN) has over 4,294,967,295 blocks"
unfoldable pub blocks_in : List ℕ → ℕ → List Column → Verdict
blocks_in s size [] = fine
blocks_in s size (c ∷ cs) =
    let more = blocks_in s size cs in
    if_lt 4294967295 (block_count size (width s c.group.at c.channel) c.group.records) (refused 19 c.channel) more
