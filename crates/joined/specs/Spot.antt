-- Bookkeeping: a place in the joined data of fragments.
use Rattle.std.specs.Prelude.{ℕ, ◌≤◌, List, ◌≡◌, drop}
use Rattle.base.specs.Checked.{fine}
use Rattle.mdf.specs.Records.{ranges_in, joined, size_of}
use Rattle.work_words.specs.Words.{fragments_of}
use Rattle.joined.specs.declared.spot.Spot.{Spot}
use Rattle.joined.specs.Ahead.{ahead}

-- before all bytes
abbrev pub front : Spot
front = record { cursor = record { at = 0; position = 0; left = 0 }; offset = 0 }

-- what is ahead of its cursor is the data from its offset on; the words ws give the fragments
pub record SpotOf (s ws : List ℕ) (p : Spot) : Type 0 where
  pub ranges : ranges_in s (ahead ws p.cursor) ≡ fine
  pub rest : joined s (ahead ws p.cursor) ≡ drop p.offset (joined s (fragments_of ws))
  pub within : p.offset ≤ size_of (fragments_of ws)
