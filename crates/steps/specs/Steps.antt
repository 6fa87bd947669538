-- A conversion in steps: what stands in state and words between two calls, and what each call leaves. The definitions of stores, positions and calls
-- are those of `stores`.
use Rattle.std.specs.Prelude.{ℕ, ◌+◌, ◌*◌, ◌≤◌, ◌<◌, List, [], ◌≡◌, length, take, replicate, Result, Ok, Err}
use Rattle.base.specs.Blit.{blit}
use Rattle.base.specs.Checked.{Checked, ok, refused}
use Rattle.plan.specs.Columns.{omission_words}
use Rattle.result.specs.Result.{Args, Decided, decided}
use Rattle.stores.specs.Stores.{steps_of, stored, Running, State, step, does}
use Rattle.placing.specs.Decision.{four}
use Rattle.fields.specs.declared.refusal.Refusal.{Refusal}
use Rattle.fields.specs.Answer.{number_of, place_of}
use Rattle.positions.specs.Held.{state_of, at_first}
use Rattle.writing.specs.Answer.{file_for}
use Rattle.writing.specs.Data.{Kept}
use Rattle.choices.specs.declared.Choices.{Choices}
use Rattle.writing.specs.declared.begin.Beginning.{Beginning}
use Rattle.writing.specs.Beginning.{RefusedCall, AcceptedCall}
use Rattle.window_file.specs.Window.{StandsAs}
use Rattle.steps.specs.declared.conversion.Conversion.{Conversion}
use Rattle.steps.specs.declared.begin.Started.{Started}
use Rattle.steps.specs.declared.position.Position.{Position}
use Rattle.steps.specs.Conversion.{numbers_of, held_of, positions_of, call_of, at_positions, at_next, begun_as}

-- bookkeeping: every word zero
abbrev pub cleared : List ℕ → List ℕ
cleared w = replicate (length w) 0

-- the words of the omission list of a call, none for a refusal
abbrev pub list_for : Checked Decided → List ℕ
list_for (ok d) = omission_words d.planned.omissions
list_for (refused number place) = []

-- ---- "Lent words may hold the plan meanwhile"

-- what was decided of the call stands in the words v, f, w, m; the places of records that are kept in p and q are right; "the number of steps is known"
pub record Holds (x : Args) (k : Conversion) (v f w m p q : List ℕ) : Type 0 where
  pub stands : StandsAs x (held_of k) v f w m
  pub kept : Kept x.image v k.items (take 3072 f) k.pieces p q
  pub steps : k.steps ≡ steps_of k.file_size

-- ---- begun

-- bookkeeping: what was decided, as the state before the first store
abbrev pub started_as : ℕ → ℕ → Choices → Result Beginning Refusal → Result Started Refusal
started_as size time chosen (Err r) = Err r
started_as size time chosen (Ok b) = Ok (record { conversion = begun_as size time chosen b.items b.fragments b.columns b.omissions b.numbers; report = b.report })

-- an accepted call: nothing stored, nothing named; its report
pub record Begins (x : Args) (out list : ℕ) (ws : List (List ℕ)) (k : Conversion) (v f w m p q : List ℕ) : Type 0 where
  pub call : call_of k x.image x.ident x.text x.table ≡ x
  pub first : state_of (positions_of k) ≡ at_first
  pub holds : Holds x k v f w m p q
  pub file_fits : k.file_size ≤ out
  pub list_fits : 2 * k.omissions + 1 ≤ list

-- a refusal leaves what the conversion in one go would leave in its four slices; the two that keep places are cleared whatever is answered
abbrev pub Starts : Args → ℕ → ℕ → List ℕ → List ℕ → List ℕ → List ℕ → List ℕ → List ℕ → Result Started Refusal → List ℕ → List ℕ → List ℕ → List ℕ → List ℕ → List ℕ → Type 0
Starts x out list a b c d p q (Err r) a' b' c' d' p' q' =
    RefusedCall x out list (number_of r) (place_of r) (four a b c d) (four a' b' c' d') × (p' ≡ cleared p) × (q' ≡ cleared q)
Starts x out list a b c d p q (Ok s) a' b' c' d' p' q' =
    AcceptedCall x out list s.conversion.items s.conversion.pieces s.conversion.columns s.conversion.omissions (numbers_of s.conversion) s.report (four a b c d) a' b' c' d'
    × Begins x out list (four a b c d) s.conversion a' b' c' d' p' q' × (p' ≡ cleared p) × (q' ≡ cleared q)

-- ---- a step

-- bookkeeping: state, file and list as the definition has them
abbrev pub running_of : Conversion → List ℕ → List ℕ → ℕ → Running
running_of k file list high = record { state = state_of (positions_of k); file = file; list = list; high = high }

-- bookkeeping: one step of the call x by the definition
abbrev pub stepped : Args → Conversion → List ℕ → List ℕ → ℕ → Running
stepped x k file list high = does (file_for x (decided x)) (list_for (decided x)) step (running_of k file list high)

-- the store of a step, and the places kept
abbrev pub Stores : Args → Conversion → List ℕ → List ℕ → List ℕ → List ℕ → List ℕ → List ℕ → List ℕ → List ℕ → List ℕ → List ℕ → Type 0
Stores x k v f w m p last-p q last-q file last =
    Holds x k v f w m p q → k.next < k.steps → k.file_size ≤ length file
    → Kept x.image v k.items (take 3072 f) k.pieces last-p last-q × (last ≡ stored (file_for x (decided x)) k.next file)

-- where the plan stands and file and list have room, the step is the definition's, and until the last store the plan stands
pub record Steps (x : Args) (k : Conversion) (file list : List ℕ) (r : Conversion) (v f w m p q file' list' : List ℕ) : Type 0 where
  pub runs : (high : ℕ) → running_of r file' list' (stepped x k file list high).high ≡ stepped x k file list high
  pub holds : k.next + 1 < k.steps → Holds x r v f w m p q

-- ---- of any state and any words

-- at most one run of at most 4,096 bytes changed
pub record OneStore (old new : List ℕ) : Type 0 where
  pub at : ℕ
  pub bytes : List ℕ
  pub few : length bytes ≤ 4096
  pub is : new ≡ blit at bytes old

-- the words of a conversion
pub record Lent : Type 0 where
  pub source : List ℕ
  pub fragments : List ℕ
  pub columns : List ℕ
  pub copies : List ℕ
  pub stretches : List ℕ
  pub offsets : List ℕ

abbrev pub lent : List ℕ → List ℕ → List ℕ → List ℕ → List ℕ → List ℕ → Lent
lent v f w m p q = record { source = v; fragments = f; columns = w; copies = m; stretches = p; offsets = q }

abbrev pub all_cleared : Lent → Lent
all_cleared l = lent (cleared l.source) (cleared l.fragments) (cleared l.columns) (cleared l.copies) (cleared l.stretches) (cleared l.offsets)

-- "a further one stores nothing": nor does it change list, words or state; any other goes on by one, changes the list and the plan only with the last
-- store, and clears all words then
pub record Bounded (k r : Conversion) (file file' list list' : List ℕ) (l l' : Lent) : Type 0 where
  pub further : k.steps ≤ k.next → (r ≡ k) × (file' ≡ file) × (list' ≡ list) × (l' ≡ l)
  pub onward : k.next < k.steps → r ≡ at_next k (k.next + 1)
  pub store : OneStore file file'
  pub before : k.next + 1 < k.steps → (list' ≡ list) × (l' ≡ lent l.source l.fragments l.columns l.copies l'.stretches l'.offsets)
  pub last : k.next + 1 ≡ k.steps → l' ≡ all_cleared l

-- ---- positions

-- what naming or recalling answers, and what it leaves: "neither changes anything", of refusals
abbrev pub PositionAs : Checked State → Conversion → Position → Type 0
PositionAs (ok s) k r = (r.number ≡ 0) × (state_of (positions_of r.conversion) ≡ s) × (r.conversion ≡ at_positions k (positions_of r.conversion))
PositionAs (refused number place) k r = (r.number ≡ number) × (r.conversion ≡ k)
