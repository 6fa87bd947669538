-- The state of a plot, entry by entry, and the code's answer for `Plot.antt`'s outcome.
use Rattle.std.specs.Prelude.{ℕ, true, false, List, [], ◌∷◌}
use Rattle.base.specs.Choice.{pick, if_lt, if_le}
use Rattle.base.specs.Checked.{Checked, ok, refused, Verdict}
use Rattle.file.specs.Form.{FileColumn}
use Rattle.file.specs.Opened.{opened}
use Rattle.file.specs.Range.{Copied}
use Rattle.file.specs.Plot.{Entry, single, Outcome, served, stopped, Plotted}
use Rattle.ranges.specs.declared.plot.Request.{Request}
use Rattle.ranges.specs.declared.plot.Plotting.{Plotting}

-- bookkeeping: the code's entries
abbrev pub entry_of : Request → Entry
entry_of r = record { column = r.column; first = r.first; count = r.count; place = r.place }

abbrev pub entries_of : List Request → List Entry
entries_of [] = []
entries_of (r ∷ rs) = entry_of r ∷ entries_of rs

-- bookkeeping: the state and the destination
pub record Laid : Type 0 where
  pub state : Plotting
  pub bytes : List ℕ

abbrev pub laid : Plotting → List ℕ → Laid
laid state bytes = record { state = state; bytes = bytes }

-- bookkeeping: the code's answers: none refused, and entry number i refused
abbrev pub clear : Plotting
clear = record { accepted = true; number = 0; place = 0; position = 0 }

abbrev pub ended : ℕ → ℕ → ℕ → Plotting
ended number place i = record { accepted = false; number = number; place = place; position = i }

abbrev pub answer_of : Outcome → Plotting
answer_of served = clear
answer_of (stopped number place i) = ended number place i

abbrev pub answered : Plotted → Laid
answered x = laid (answer_of x.outcome) x.destination

-- bookkeeping: the state after entry number i
abbrev pub state_after : ℕ → Plotting → Verdict → Plotting
state_after i p (ok t) = p
state_after i p (refused number place) = ended number place i

abbrev pub after_entry : ℕ → Plotting → Copied → Laid
after_entry i p r = laid (state_after i p r.answered) r.buffer

-- bookkeeping: entry number i, where none before it was refused
unfoldable pub turn_of : List ℕ → ℕ → Request → Laid → Laid
turn_of s i r x = pick x.state.accepted (after_entry i x.state (single s (entry_of r) x.bytes)) x

-- bookkeeping: how many entries of n are served
unfoldable pub turns_of : ℕ → ℕ
turns_of n = if_le n 256 n 0

-- bookkeeping: the image's faults come with entry 0
abbrev pub open_state : Checked (List FileColumn) → Plotting
open_state (ok cs) = clear
open_state (refused number place) = ended number place 0

-- bookkeeping: before the first of n entries
unfoldable pub start_of : List ℕ → ℕ → Plotting
start_of s n = if_lt 256 n (ended 25 0 0) (if_lt 0 n (open_state (opened s)) clear)
