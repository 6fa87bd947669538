-- A kept column's numbers, as lent words give them.
use Rattle.std.specs.Prelude.{ℕ, ◌+◌, ◌*◌, ◌-◌, ◌≤◌, ◌<◌, List, Bool, true, false, length, get_or}
use Rattle.base.specs.Choice.{if_lt, if_eq}
use Rattle.mdf.specs.Block.{link_at}
use Rattle.plan.specs.Photos.{photo_count}
use Rattle.work_words.specs.CopyWords.{placed_at}
use Rattle.file.specs.Form.{equal_length}
use Rattle.ranges.specs.Blocks.{links_of}
use Rattle.thinning.specs.declared.column.KeptColumn.{KeptColumn}

-- the words hold the places of n columns, all near
pub record Near (memo : List ℕ) (n : ℕ) : Type 0 where
  pub few : n ≤ 512
  pub long : 8192 ≤ length memo
  pub below : (m : ℕ) → m < n → get_or memo (placed_at + 3 * m) 0 < 9223372036854775808

unfoldable pub is_set : ℕ → Bool
is_set w = if_eq w 0 false true

-- the CG of the master, by its word: 0 for none, else the master's column and 1
unfoldable pub master_place : List ℕ → ℕ → ℕ → ℕ
master_place memo n w = if_eq w 0 0 (if_lt (w - 1) n (get_or memo (placed_at + 3 * (w - 1)) 0 + 64) 0)

-- the next column's DG, 0 for the last
unfoldable pub next_place : List ℕ → ℕ → ℕ → ℕ
next_place memo n k = if_lt (k + 1) n (get_or memo (placed_at + 3 * (k + 1)) 0) 0

-- column number k of n
unfoldable pub column_by : List ℕ → List ℕ → List ℕ → ℕ → ℕ → KeptColumn
column_by s columns memo n k = record {
  channel = get_or columns (8 * k) 0;
  group = get_or columns (8 * k + 1) 0;
  parent = get_or columns (8 * k + 2) 0;
  remote = is_set (get_or columns (8 * k + 5) 0);
  master = master_place memo n (get_or columns (8 * k + 5) 0);
  dg = get_or memo (placed_at + 3 * k) 0;
  cn = get_or memo (placed_at + 3 * k) 0 + 64 + if_eq (get_or columns (8 * k + 5) 0) 0 104 112;
  first = get_or memo (placed_at + 3 * k + 1) 0;
  sd = if_eq (get_or columns (8 * k + 6) 0) 0 0 (get_or memo (placed_at + 3 * k + 2) 0);
  blocks = links_of s (link_at s (get_or columns (8 * k + 2) 0) 2) - 1;
  photos = photo_count s (get_or columns (8 * k) 0);
  payload = equal_length s (link_at s (get_or columns (8 * k + 2) 0) 2);
}

-- its places are near, its references few
pub record Bounded (h : KeptColumn) : Type 0 where
  pub dg : h.dg < 9223372036854775808
  pub cn : h.cn ≤ h.dg + 176
  pub photos : h.photos ≤ 65535
