-- The report's counts out of the words of reading and planning.
use Rattle.std.specs.Prelude.{◌≡◌, ℕ, ◌+◌, ◌*◌, ◌≤◌, List, slice_index}
use Rattle.base.specs.Choice.{pick, if_eq}
use Rattle.mdf.specs.Group.{is_storage}
use Rattle.work_words.specs.Words.{marks_at}
use Rattle.plan.specs.Channel.{width}
use Rattle.plan.specs.Geometry.{block_count}

-- 1 where item i is a CG that is not VLSD storage
unfoldable pub group_at : List ℕ → List ℕ → ℕ → ℕ
group_at s w i = if_eq (slice_index w (marks_at + i)) 1 (pick (is_storage s (slice_index w i)) 0 1) 0

-- 1 where column k is a time column
unfoldable pub time_at : List ℕ → ℕ → ℕ
time_at w k = if_eq (slice_index w (8 * k + 4)) 1 1 0

-- the data blocks of column k, and 1 where it has signal data
unfoldable pub data_blocks_at : List ℕ → ℕ → List ℕ → ℕ → ℕ
data_blocks_at s size w k = block_count size (width s (slice_index w (8 * k + 1)) (slice_index w (8 * k))) (slice_index w (8 * k + 3))

unfoldable pub signal_at : List ℕ → ℕ → ℕ
signal_at w k = if_eq (slice_index w (8 * k + 6)) 0 0 1

unfoldable pub blocks_at : List ℕ → ℕ → List ℕ → ℕ → ℕ
blocks_at s size w k = data_blocks_at s size w k + signal_at w k

-- r is the number v, at most b
pub record Few (b v r : ℕ) : Type 0 where
  pub is : r ≡ v
  pub few : r ≤ b
