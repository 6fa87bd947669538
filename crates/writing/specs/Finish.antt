-- What a conversion does once all is decided.
use Rattle.std.specs.Prelude.{◌≡◌, ℕ, ◌-◌, ◌<◌, ◌≤◌, List, length, Result}
use Rattle.result.specs.Result.{Args, answer, outcome}
use Rattle.placing.specs.declared.layout.Numbers.{Numbers}
use Rattle.writing.specs.declared.convert.Report.{Report}
use Rattle.fields.specs.declared.refusal.Refusal.{Refusal}
use Rattle.writing.specs.Sum.{sum_of}
use Rattle.writing.specs.Counted.{group_at, time_at, data_blocks_at, blocks_at}
use Rattle.placing.specs.Decision.{DecidedIn}
use Rattle.writing.specs.Answer.{left}

-- what was decided stands in the words, over some words that were there before
pub record Stands (x : Args) (items fragments columns omissions : ℕ) (n : Numbers) (source' fragments' columns' copies' : List ℕ) : Type 0 where
  pub a : List ℕ
  pub b : List ℕ
  pub c : List ℕ
  pub d : List ℕ
  pub by : DecidedIn x items fragments columns omissions n a b c d source' fragments' columns' copies'

-- numbers small enough to count with
pub record Counts (s : List ℕ) (size : ℕ) (w : List ℕ) (items n : ℕ) : Type 0 where
  pub few_items : items ≤ 1536
  pub few_columns : n ≤ 512
  pub few_blocks : (k : ℕ) → k < n → data_blocks_at s size w k ≤ 4294967295

pub record Reported (s : List ℕ) (size : ℕ) (v w : List ℕ) (items n shared metadata file : ℕ) (r : Report) : Type 0 where
  pub source_groups_lem : r.source_groups ≡ sum_of (group_at s v) 0 items
  pub time_groups_lem : r.time_groups ≡ sum_of (time_at w) 0 n
  pub signal_groups_lem : r.signal_groups ≡ n - sum_of (time_at w) 0 n
  pub shared_time_groups_lem : r.shared_time_groups ≡ shared
  pub data_blocks : r.data_blocks ≡ sum_of (blocks_at s size w) 0 n
  pub metadata_size_lem : r.metadata_size ≡ metadata
  pub file_size_lem : r.file_size ≡ file

-- answer, output and list, for any work words
pub record Finished (x : Args) (out list : List ℕ) (r : Result Report Refusal) (out' list' : List ℕ) : Type 0 where
  pub is : (work : List (List ℕ)) → left r out' list' work ≡ outcome x out list work (answer x (length out) (length list))
