-- Bookkeeping: a place between runs of fragments, in the data of a group that is alone in its DG.
use Rattle.std.specs.Prelude.{ℕ, ◌≤◌, List, ◌≡◌, length, drop}
use Rattle.base.specs.Checked.{fine}
use Rattle.mdf.specs.Records.{joined, runs, sorted_records, sorted_in}
use Rattle.work_words.specs.Words.{fragments_of}
use Rattle.places.specs.declared.stretch.Scan.{Scan}

-- the fragments whose words begin at the place's index were checked, and hold the rest of the data and the records from its number on
pub record SortedScan (s : List ℕ) (d g : ℕ) (ws : List ℕ) (c : Scan) : Type 0 where
  pub checked : sorted_in s d g (fragments_of (drop c.at ws)) ≡ fine
  pub rest : joined s (fragments_of (drop c.at ws)) ≡ drop c.offset (joined s (fragments_of ws))
  pub within : c.offset ≤ length (joined s (fragments_of ws))
  pub records : sorted_records s d g (runs (fragments_of (drop c.at ws))) ≡ drop c.number (sorted_records s d g (runs (fragments_of ws)))
  pub few : c.number ≤ length (sorted_records s d g (runs (fragments_of ws)))
