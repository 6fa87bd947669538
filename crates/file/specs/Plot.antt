-- Many ranges fetched in one call (document 02, request 2).
use Rattle.std.specs.Prelude.{ℕ, suc, ◌+◌, List, [], ◌∷◌, length}
use Rattle.base.specs.Choice.{if_lt}
use Rattle.base.specs.Blit.{part, blit}
use Rattle.base.specs.Checked.{Checked, ok, refused, and_then, Verdict}
use Rattle.file.specs.Range.{asked, bytes_of, Copied, read_into}

-- "entries, each with column, first record, count and place in the destination"
pub record Entry : Type 0 where
  pub column : ℕ
  pub first : ℕ
  pub count : ℕ
  pub place : ℕ

-- how many bytes an entry fetches into a destination of n bytes: "25 when .. an entry's place and length leave the destination, tested after
-- its 22 and 23"
unfoldable pub fetched : List ℕ → Entry → ℕ → Checked ℕ
fetched s e n =
    and_then (asked s e.column e.first e.count) (λ c.
    if_lt n (e.place + bytes_of s c e.count) (refused 25 0) (ok (bytes_of s c e.count)))

-- the single read of an entry, its buffer being the m bytes of the destination from the entry's place on
abbrev pub read_at : List ℕ → Entry → List ℕ → ℕ → Copied
read_at s e d m = read_into s e.column e.first e.count (part e.place m d)

-- bookkeeping: its buffer laid over the destination
abbrev pub laid_over : ℕ → List ℕ → Copied → Copied
laid_over p d r = record { answered = r.answered; buffer = blit p r.buffer d }

-- bookkeeping: a refused entry leaves the destination
abbrev pub read_entry : List ℕ → Entry → List ℕ → Checked ℕ → Copied
read_entry s e d (ok m) = laid_over e.place d (read_at s e d m)
read_entry s e d (refused number place) = record { answered = refused number place; buffer = d }

-- one entry, and the destination after it
unfoldable pub single : List ℕ → Entry → List ℕ → Copied
single s e d = read_entry s e d (fetched s e (length d))

-- what a call answers: all entries are served, or the number and place of a refusal and the entry's position
pub data Outcome : Type 0 where
  served : Outcome
  stopped : ℕ → ℕ → ℕ → Outcome

-- and the destination that it leaves
pub record Plotted : Type 0 where
  pub outcome : Outcome
  pub destination : List ℕ

-- "The first refused entry ends the call and its position, from 0, is returned; earlier entries' bytes stand": entry number i answers and
-- leaves the destination d, and the entries after it
abbrev pub entry_then : ℕ → Verdict → List ℕ → Plotted → Plotted
entry_then i (ok t) d after = after
entry_then i (refused number place) d after = record { outcome = stopped number place i; destination = d }

-- "The outcome equals single reads made in table order", from entry number i on. "An empty table succeeds."
unfoldable pub plot_from : List ℕ → ℕ → List Entry → List ℕ → Plotted
plot_from s i [] d = record { outcome = served; destination = d }
plot_from s i (e ∷ es) d =
    let r = single s e d in
    let after = plot_from s (suc i) es r.buffer in
    entry_then i r.answered r.buffer after

-- "25 when the table has over 256 entries, tested before all else with position 0"
unfoldable pub plotted : List ℕ → List Entry → List ℕ → Plotted
plotted s es d = if_lt 256 (length es) (record { outcome = stopped 25 0 0; destination = d }) (plot_from s 0 es d)
