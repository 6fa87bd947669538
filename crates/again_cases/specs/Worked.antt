-- Document 01's example meets all premises of document 02's request 14, and what it says holds of it: its file, at the front of a longer output, is
-- converted again with another identification, text and time, and gives the same columns.
use Rattle.std.specs.Prelude.{ℕ, List, [], ◌∷◌, false, ◌≡◌, refl, length, replicate, set}
use Rattle.std.proofs.Math.Option.{Option, none, some}
use Rattle.base.specs.Blit.{blit}
use Rattle.base.specs.Checked.{Checked, ok, refused}
use Rattle.plan.specs.Columns.{omission_words}
use Rattle.result.specs.Links.{Shown, shown}
use Rattle.result.specs.Result.{Args, Decided, answer}
use Rattle.cases.specs.Evaluated.{evaluated}
use Rattle.cases.specs.Starred.{args}
use Rattle.cases.specs.Excluded.{file_in}
use Rattle.again.specs.Same as same
use Rattle.again.specs.Again.{Repeats}
use Rattle.again_cases.specs.Closed.{all-bytes, repeats}

-- an output longer than the file's 1288 bytes, none of them 0, and a list of one word
abbrev pub out : List ℕ
out = replicate 1300 7

abbrev pub list : List ℕ
list = 9 ∷ []

-- what the first call leaves
abbrev pub result : List ℕ
result = blit 0 (file_in args (answer args (length out) (length list))) out

-- the second call: another identification, text and time
abbrev pub again : Args
again =
    record {
      image = result;
      block_size = 64;
      ident = set args.ident 40 1;
      text = 97 ∷ 103 ∷ 97 ∷ 105 ∷ 110 ∷ [];
      time = 5;
      unit = 8;
      table = [];
      share = false;
      photos = false;
    }

-- the premises
pub worked : (d : Decided) × Repeats args again out list d
unfolding evaluated
worked =
    repeats args again out list (answer args (length out) (length list)) refl refl refl (all-bytes args.image refl) (all-bytes args.ident refl)
    (all-bytes args.text refl) (all-bytes out refl) refl (record { types = refl; block_size = refl; unit = refl; photos = refl; unshared = refl }) refl

-- number and place of a refusal, or the file's size and the omission list
abbrev answered : Checked Decided → List ℕ
answered (ok d) = d.laid_out.file_size_lem ∷ omission_words d.planned.omissions
answered (refused number place) = number ∷ place ∷ []

-- what the second call leaves in an output of just as many bytes
abbrev pub second : List ℕ
second = file_in again (answer again 1376 1)

-- it is accepted, with 1376 bytes and an empty omission list
pub converted : answered (answer again 1376 1) ≡ 1376 ∷ 0 ∷ []
unfolding evaluated
converted = refl

-- with less lent it meets 20 and 21
pub short_output : answered (answer again 1375 1) ≡ 20 ∷ 1376 ∷ []
unfolding evaluated
short_output = refl

pub short-list : answered (answer again 1376 0) ≡ 21 ∷ 1 ∷ []
unfolding evaluated
short-list = refl

-- of a file's columns: payload, and the number of the master
abbrev payloads_of : List Shown → List (Checked (List ℕ))
payloads_of [] = []
payloads_of (c ∷ cs) = c.payload ∷ payloads_of cs

abbrev masters_of : List Shown → List Shown → List (Option ℕ)
masters_of all [] = []
masters_of all (c ∷ cs) = same.master_number all c ∷ masters_of all cs

-- the 20 times, and the 20 values, each with its invalidation bit
abbrev times : List ℕ
times =
    0 ∷ 0 ∷ 0 ∷ 0 ∷ 1 ∷ 0 ∷ 0 ∷ 0 ∷ 2 ∷ 0 ∷ 0 ∷ 0 ∷ 3 ∷ 0 ∷ 0 ∷ 0 ∷ 4 ∷ 0 ∷ 0 ∷ 0 ∷ 5 ∷ 0 ∷ 0 ∷ 0 ∷ 6 ∷ 0 ∷ 0 ∷ 0 ∷
    7 ∷ 0 ∷ 0 ∷ 0 ∷ 8 ∷ 0 ∷ 0 ∷ 0 ∷ 9 ∷ 0 ∷ 0 ∷ 0 ∷ 10 ∷ 0 ∷ 0 ∷ 0 ∷ 11 ∷ 0 ∷ 0 ∷ 0 ∷ 12 ∷ 0 ∷ 0 ∷ 0 ∷ 13 ∷ 0 ∷ 0 ∷
    0 ∷ 14 ∷ 0 ∷ 0 ∷ 0 ∷ 15 ∷ 0 ∷ 0 ∷ 0 ∷ 16 ∷ 0 ∷ 0 ∷ 0 ∷ 17 ∷ 0 ∷ 0 ∷ 0 ∷ 18 ∷ 0 ∷ 0 ∷ 0 ∷ 19 ∷ 0 ∷ 0 ∷ 0 ∷ []

abbrev values : List ℕ
values =
    232 ∷ 3 ∷ 0 ∷ 233 ∷ 3 ∷ 1 ∷ 234 ∷ 3 ∷ 0 ∷ 235 ∷ 3 ∷ 1 ∷ 236 ∷ 3 ∷ 0 ∷ 237 ∷ 3 ∷ 1 ∷ 238 ∷ 3 ∷ 0 ∷ 239 ∷ 3 ∷ 1 ∷
    240 ∷ 3 ∷ 0 ∷ 241 ∷ 3 ∷ 1 ∷ 242 ∷ 3 ∷ 0 ∷ 243 ∷ 3 ∷ 1 ∷ 244 ∷ 3 ∷ 0 ∷ 245 ∷ 3 ∷ 1 ∷ 246 ∷ 3 ∷ 0 ∷ 247 ∷ 3 ∷ 1 ∷
    248 ∷ 3 ∷ 0 ∷ 249 ∷ 3 ∷ 1 ∷ 250 ∷ 3 ∷ 0 ∷ 251 ∷ 3 ∷ 1 ∷ []

-- "the same payloads"
pub payloads-first : payloads_of (shown result 3) ≡ ok times ∷ ok values ∷ []
unfolding evaluated
payloads-first = refl

pub payloads-second : payloads_of (shown second 3) ≡ ok times ∷ ok values ∷ []
unfolding evaluated
payloads-second = refl

-- "and masters": the second column's is the first
pub masters-first : masters_of (shown result 3) (shown result 3) ≡ none ∷ some 0 ∷ []
unfolding evaluated same.master_number same.number_of
masters-first = refl

pub masters-second : masters_of (shown second 3) (shown second 3) ≡ none ∷ some 0 ∷ []
unfolding evaluated same.master_number same.number_of
masters-second = refl
