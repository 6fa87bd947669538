-- Calls of a conversion in steps, one after the other, each as its contract says (document 02, request 11: "while nobody else changes recording,
-- arguments, lent words or file, and each call gets the state last returned").
use Rattle.std.specs.Prelude.{ℕ, ◌+◌, ◌*◌, ◌≤◌, ◌<◌, List, [], ◌∷◌, ◌≡◌, length}
use Rattle.base.specs.Checked.{Checked, ok, refused, fine}
use Rattle.result.specs.Result.{Args, Decided, decided, answer, work_in, convert}
use Rattle.stores.specs.Stores.{State, naming, recalling, Op, step, name, recall}
use Rattle.positions.specs.Held.{state_of}
use Rattle.steps.specs.declared.conversion.Conversion.{Conversion}
use Rattle.steps.specs.declared.position.Position.{Position}
use Rattle.steps.specs.Conversion.{positions_of, call_of}
use Rattle.steps.specs.Steps.{Holds, Begins, Steps, Lent, Bounded, PositionAs}

-- what stands between two calls: the state last returned, the lent words, file and list
pub record Between : Type 0 where
  pub conversion : Conversion
  pub words : Lent
  pub file : List ℕ
  pub list : List ℕ

-- bookkeeping: the state, as the definition has it
abbrev pub state_in : Between → State
state_in a = state_of (positions_of a.conversion)

-- bookkeeping: the call that a state is of, with the slices of the call x
abbrev pub call_in : Args → Conversion → Args
call_in x k = call_of k x.image x.ident x.text x.table

-- bookkeeping: the plan of the call x stands
abbrev pub HoldsIn : Args → Conversion → Lent → Type 0
HoldsIn x k l = Holds x k l.source l.fragments l.columns l.copies l.stretches l.offsets

-- after the last store
abbrev pub Finished : Between → Type 0
Finished a = a.conversion.steps ≤ a.conversion.next

-- before it
abbrev pub Unfinished : Between → Type 0
Unfinished a = a.conversion.next < a.conversion.steps

-- ---- one call

-- `begin` accepted the call x, for a file and a list of these lengths and some words
pub record Begun (x : Args) (a : Between) : Type 0 where
  pub work : List (List ℕ)
  pub accepted : Begins x (length a.file) (length a.list) work a.conversion a.words.source a.words.fragments a.words.columns
      a.words.copies a.words.stretches a.words.offsets

-- what was decided of it
abbrev pub told_of : {x : Args} {a : Between} → Begun x a → Decided
told_of g = g.accepted.holds.stands.by.told

-- what `step` ensures of a state and the slices of the call x
abbrev pub StepsIn : Args → Between → Between → Type 0
StepsIn x a b =
    HoldsIn x a.conversion a.words → a.conversion.file_size ≤ length a.file → 2 * a.conversion.omissions + 1 ≤ length a.list
    → Steps x a.conversion a.file a.list b.conversion b.words.source b.words.fragments b.words.columns b.words.copies
    b.words.stretches b.words.offsets b.file b.list

pub record Stepped (x : Args) (a b : Between) : Type 0 where
  pub right : StepsIn (call_in x a.conversion) a b
  pub bounded : Bounded a.conversion b.conversion a.file b.file a.list b.list a.words b.words

-- `name` and `recall` get nothing but the state, so words, file and list are as they were; the state is the one answered
pub record Moves (v : Checked State) (a b : Between) : Type 0 where
  pub answered : Position
  pub right : PositionAs v a.conversion answered
  pub conversion : b.conversion ≡ answered.conversion
  pub words : b.words ≡ a.words
  pub file : b.file ≡ a.file
  pub list : b.list ≡ a.list

-- one call after the beginning
abbrev pub Call : Args → Op → Between → Between → Type 0
Call x step a b = Stepped x a b
Call x (name n) a b = Moves (naming a.conversion.steps n (state_in a)) a b
Call x (recall n) a b = Moves (recalling a.conversion.steps n (state_in a)) a b

-- ---- calls

-- one after the other, each given what the one before left
pub data Calls (x : Args) : List Op → Between → Between → Type 0 where
  no_call : {a : Between} → Calls x [] a a
  call : {o : Op} {os : List Op} {a c : Between} (b : Between) → Call x o a b → Calls x os b c → Calls x (o ∷ os) a c

-- bookkeeping: the number that naming or recalling answers, 0 where it is no refusal
abbrev pub number_of : Checked State → ℕ
number_of (ok s) = 0
number_of (refused number place) = number

-- "refuses with 5": the call y, whatever output and list it is given and whatever work slices that pass 1
pub record Refuses (y : Args) : Type 0 where
  pub decides : decided y ≡ refused 5 0
  pub answers : (bytes spaces : ℕ) → answer y bytes spaces ≡ refused 5 0
  pub converts : (out list : List ℕ) (work : List (List ℕ)) → work_in work ≡ fine → (convert y out list work).answered ≡ refused 5 0
