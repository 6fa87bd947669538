-- What the first call planned a placed column as, with built-in types: all that planning it again rests on.
use Rattle.std.specs.Prelude.{ℕ, zero, suc, ◌<◌, List, [], ◌∷◌, true, ◌≡◌}
use Rattle.std.proofs.Math.Option.{Option, none, some}
use Rattle.mdf.specs.Chain.{Fragment}
use Rattle.plan.specs.Channel.{channel_type, is_master_type}
use Rattle.plan.specs.Columns.{signal_data}
use Rattle.plan.specs.Layout.{Placed}

-- column number k
unfoldable pub placed_number : ℕ → List Placed → Option Placed
placed_number k [] = none
placed_number zero (p ∷ ps) = some p
placed_number (suc k) (p ∷ ps) = placed_number k ps

-- column number k of all is a time column with as many records as p
pub record Names (all : List Placed) (k : ℕ) (p : Placed) : Type 0 where
  pub master : Placed
  pub there : placed_number k all ≡ some master
  pub timed : master.column.is_time_lem ≡ true
  pub as_many : master.column.group.records ≡ p.column.group.records

-- column number j of all
pub record Origin (s : List ℕ) (all : List Placed) (j : ℕ) (p : Placed) : Type 0 where
  -- it is a time column if and only if its channel is of type 2 or 3; no channel of type 4 is a column
  pub kind : is_master_type s p.column.channel ≡ p.column.is_time_lem
  pub type : channel_type s p.column.channel ≡ 4 → ⊥
  -- a time column names none; any other names an earlier time column
  pub alone : p.column.is_time_lem ≡ true → p.column.master ≡ none
  pub named : (k : ℕ) → p.column.master ≡ some k → Names all k p
  pub earlier : (k : ℕ) → p.column.master ≡ some k → k < j
  -- only a type 1 channel has signal data
  pub signal : (fs : List Fragment) → p.column.signal_of ≡ signal_data fs → channel_type s p.column.channel ≡ 1
