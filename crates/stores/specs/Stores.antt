-- A conversion in steps (document 02, request 11): the stores of a finished file, positions and their names, and what calls leave.
use Rattle.std.specs.Prelude.{ℕ, zero, suc, ◌+◌, ◌*◌, ◌-◌, ◌/◌, max, List, [], ◌∷◌, length, replicate}
use Rattle.std.proofs.Math.Option.{Option, none, some}
use Rattle.base.specs.Choice.{if_lt, if_le, if_eq}
use Rattle.base.specs.Blit.{part, blit}
use Rattle.base.specs.Checked.{Checked, ok, refused}

-- ---- stores

-- "one store of 1 to 4,096 bytes": its first byte's place in the file, and its bytes
pub record Store : Type 0 where
  pub at : ℕ
  pub bytes : List ℕ

-- bookkeeping: the bytes from a up to e of the finished file f, in their place
abbrev pub between : List ℕ → ℕ → ℕ → Store
between f a e = record { at = a; bytes = part a (e - a) f }

-- bookkeeping: the pages of 4,096 bytes that a file of so many bytes takes
unfoldable pub pages : ℕ → ℕ
pages size = (size + 4095) / 4096

-- "the number of steps is known before the first": the first, one a page, the last
unfoldable pub steps_of : ℕ → ℕ
steps_of size = pages size + 2

-- "The first store clears the file's first eight bytes"; then page after page but for these eight; "the last one writes them": store number k of
-- the finished file f
unfoldable pub store_of : List ℕ → ℕ → Store
store_of f zero = record { at = 0; bytes = replicate 8 0 }
store_of f (suc k) = if_lt k (pages (length f)) (between f (max 8 (4096 * k)) (4096 * k + 4096)) (between f 0 8)

-- "each making one store": number k, made over out
unfoldable pub stored : List ℕ → ℕ → List ℕ → List ℕ
stored f k out = blit (store_of f k).at (store_of f k).bytes out

-- those before number k, one after the other
unfoldable pub stored_to : List ℕ → ℕ → List ℕ → List ℕ
stored_to f zero out = out
stored_to f (suc k) out = stored f k (stored_to f k out)

-- ---- positions

-- "positions may be named, each by a 64-bit number": a position is the number of the next store
pub record Named : Type 0 where
  pub called : ℕ
  pub at : ℕ

abbrev pub named : ℕ → ℕ → Named
named n k = record { called = n; at = k }

-- "the state last returned": the number of the next store, and the names held
pub record State : Type 0 where
  pub next : ℕ
  pub held : List Named

-- "a name given again moves": the names held once n is given to position k
unfoldable pub given : ℕ → ℕ → List Named → List Named
given n k [] = named n k ∷ []
given n k (h ∷ hs) = let more = h ∷ given n k hs in if_eq h.called n (named n k ∷ hs) more

-- the position that is called n
unfoldable pub sought : ℕ → List Named → Option ℕ
sought n [] = none
sought n (h ∷ hs) = let more = sought n hs in if_eq h.called n (some h.at) more

-- "30 when a fifth name is given or when a position is named .. after the last store", of so many steps
unfoldable pub naming : ℕ → ℕ → State → Checked State
naming steps n s =
    if_le steps s.next (refused 30 0)
    (if_lt 4 (length (given n s.next s.held)) (refused 30 0) (ok (record { next = s.next; held = given n s.next s.held })))

-- "29 when a position is recalled that was never named"
abbrev pub returned : State → Option ℕ → Checked State
returned s none = refused 29 0
returned s (some k) = ok (record { next = k; held = s.held })

-- "30 .. when a position is .. recalled after the last store; 30 is tested first"
unfoldable pub recalling : ℕ → ℕ → State → Checked State
recalling steps n s = if_le steps s.next (refused 30 0) (returned s (sought n s.held))

-- ---- calls

-- what may be asked for after the beginning
pub data Op : Type 0 where
  step : Op
  name : ℕ → Op
  recall : ℕ → Op

-- bookkeeping: state, file and omission list after a call; and the furthest position reached, which no call reads
pub record Running : Type 0 where
  pub state : State
  pub file : List ℕ
  pub list : List ℕ
  pub high : ℕ

-- nothing stored, nothing named: out is the file, which "gets its final length beforehand"
abbrev pub begun : List ℕ → List ℕ → Running
begun out list = record { state = record { next = 0; held = [] }; file = out; list = list; high = 0 }

-- "the last one writes them, and its step the list": the list after the step of store number k, of so many steps
unfoldable pub listed : ℕ → List ℕ → ℕ → List ℕ → List ℕ
listed steps words k list = if_eq (k + 1) steps (blit 0 words list) list

-- bookkeeping: a step that stores
abbrev pub onward : List ℕ → List ℕ → Running → Running
onward f words r =
    record {
      state = record { next = r.state.next + 1; held = r.state.held };
      file = stored f r.state.next r.file;
      list = listed (steps_of (length f)) words r.state.next r.list;
      high = max r.high (r.state.next + 1);
    }

-- "neither changes anything", 29 and 30; naming and recalling store nothing
abbrev pub moved : Running → Checked State → Running
moved r (refused number place) = r
moved r (ok s) = record { state = s; file = r.file; list = r.list; high = r.high }

-- one call, for the finished file f and the words of its omission list; "a further one stores nothing", after the last
unfoldable pub does : List ℕ → List ℕ → Op → Running → Running
does f words step r = if_lt r.state.next (steps_of (length f)) (onward f words r) r
does f words (name n) r = moved r (naming (steps_of (length f)) n r.state)
does f words (recall n) r = moved r (recalling (steps_of (length f)) n r.state)

-- calls one after the other, "and each call gets the state last returned"
unfoldable pub run : List ℕ → List ℕ → List Op → Running → Running
run f words [] r = r
run f words (o ∷ os) r = run f words os (does f words o r)
