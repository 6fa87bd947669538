-- Placed columns as the words of planning and of placing give them.
use Rattle.std.specs.Prelude.{ℕ, zero, suc, ◌+◌, ◌*◌, Bool, true, false, List, [], ◌∷◌, slice_index}
use Rattle.std.proofs.Math.Option.{Option, none, some}
use Rattle.plan.specs.Photos.{photos_of}
use Rattle.plan.specs.Columns.{Column, Signal, no_signal, signal_data}
use Rattle.plan.specs.Layout.{Placed}
use Rattle.work_words.specs.CopyWords.{placed_at}

unfoldable pub time_in : ℕ → Bool
time_in zero = false
time_in (suc n) = true

-- 0 for none, else the master's column and 1
unfoldable pub master_in : ℕ → Option ℕ
master_in zero = none
master_in (suc m) = some m

-- 0 for none; which fragments is left out
unfoldable pub signal_in : ℕ → Signal
signal_in zero = no_signal
signal_in (suc n) = signal_data []

-- the column whose words begin at i: of its group's DG only the address; its references from the recording s
unfoldable pub column_in : Bool → List ℕ → List ℕ → ℕ → Column
column_in ph s w i = record {
  group = record {
    data_group = record { at = slice_index w (i + 2); fragments = []; groups = [] };
    number = 0;
    at = slice_index w (i + 1);
    channels = [];
    records = slice_index w (i + 3);
  };
  channel = slice_index w i;
  is_time_lem = time_in (slice_index w (i + 4));
  master = master_in (slice_index w (i + 5));
  signal_of = signal_in (slice_index w (i + 6));
  photos = photos_of ph s (slice_index w i);
}

-- column number k
unfoldable pub placed_one : Bool → List ℕ → List ℕ → List ℕ → ℕ → Placed
placed_one ph s columns memo k = record {
  column = column_in ph s columns (8 * k);
  dg = slice_index memo (placed_at + 3 * k);
  first = slice_index memo (placed_at + 3 * k + 1);
  sd = slice_index memo (placed_at + 3 * k + 2);
}

-- n columns from number k on
unfoldable pub placed_in : Bool → List ℕ → List ℕ → List ℕ → ℕ → ℕ → List Placed
placed_in ph s columns memo k zero = []
placed_in ph s columns memo k (suc n) = placed_one ph s columns memo k ∷ placed_in ph s columns memo (k + 1) n
