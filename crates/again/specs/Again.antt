-- "Ask 14. Converting a result again. .. Show that an accepted result made with built-in types, in which every column with records has width above 0,
-- converted again with these, the same block size, unit and photo choice, and sharing off, gives the same columns in the same order with the same
-- payloads, signal data and masters, and an empty omission list, provided the second run meets none of refusals 1, 3, 9, 16, 19, 20 and 21."
-- (document 02, request 14). The statement.
use Rattle.std.specs.Prelude.{ℕ, ◌≤◌, ◌<◌, List, [], ◌∷◌, false, ◌≡◌, length}
use Rattle.base.specs.Blit.{blit}
use Rattle.base.specs.Checked.{ok, refused}
use Rattle.plan.specs.Columns.{Column}
use Rattle.plan.specs.Layout.{column_width}
use Rattle.result.specs.Member.{In}
use Rattle.result.specs.Links.{shown}
use Rattle.result.specs.Result.{Args, Report, Decided, file_of, answer, Outcome, convert}
use Rattle.guarantee.specs.Theorem.{AllBytes}
use Rattle.again.specs.Same.{SameColumns}

-- "made with built-in types": "a table of length 0 leaves all to" what is built in
abbrev pub BuiltIn : Args → Type 0
BuiltIn x = x.table ≡ []

-- "in which every column with records has width above 0": of the columns cs planned for an image s
abbrev pub Wide : List ℕ → List Column → Type 0
Wide s cs = (c : Column) → In c cs → 0 < c.group.records → 0 < column_width s c

-- "converted again with these, the same block size, unit and photo choice, and sharing off": y after x. Identification, text and time are free
pub record SameChoices (x y : Args) : Type 0 where
  pub types : BuiltIn y
  pub block_size : y.block_size ≡ x.block_size
  pub unit : y.unit ≡ x.unit
  pub photos : y.photos ≡ x.photos
  pub unshared : y.share ≡ false

-- "an accepted result": what was lent for it are bytes, as the archive's guarantee asks of the image; d was decided; the file is laid over out
pub record Result (x : Args) (out list : List ℕ) (d : Decided) : Type 0 where
  pub image_bytes : AllBytes x.image
  pub ident_bytes : AllBytes x.ident
  pub text_bytes_lem : AllBytes x.text
  pub out_bytes : AllBytes out
  pub accepted : answer x (length out) (length list) ≡ ok d

-- "converted again": y is given the first call's output, with the file at its front
pub record Repeats (x y : Args) (out list : List ℕ) (d : Decided) : Type 0 where
  pub first : Result x out list d
  pub types : BuiltIn x
  pub wide : Wide x.image d.planned.columns
  pub choices : SameChoices x y
  pub image : y.image ≡ blit 0 (file_of x d.laid_out) out

-- "refusals 1, 3, 9, 16, 19, 20 and 21"
abbrev pub may_meet : List ℕ
may_meet = 1 ∷ 3 ∷ 9 ∷ 16 ∷ 19 ∷ 20 ∷ 21 ∷ []

-- "gives the same columns in the same order with the same payloads, signal data and masters, and an empty omission list": e was decided in the second
-- call, its file is laid over out, and one looks as far as there are columns
pub record SameAgain (y : Args) (d e : Decided) (out : List ℕ) : Type 0 where
  pub omissions : e.planned.omissions ≡ []
  pub columns : (k : ℕ) → length d.planned.columns ≤ k → SameColumns (shown y.image k) (shown (blit 0 (file_of y e.laid_out) out) k)

-- the theorem: any refusal of the second call is one of these, and if it accepts, it gives the same; nothing else is asked of the second call
abbrev pub Again : Type 0
Again =
    (x y : Args) (out list : List ℕ) (d : Decided) → Repeats x y out list d → (out2 list2 : List ℕ)
    → ((n p : ℕ) → answer y (length out2) (length list2) ≡ refused n p → In n may_meet)
    × ((e : Decided) → answer y (length out2) (length list2) ≡ ok e → SameAgain y d e out2)

-- the same of whole calls, work slices lent too: "1: a work slice too short" is the only refusal that comes before the answer. An accepted call leaves
-- the same columns in its output, and the one word 0 at the front of its list
pub record SameLeft (y : Args) (d : Decided) (list2 : List ℕ) (left : Outcome) : Type 0 where
  pub omitted : left.list ≡ blit 0 (0 ∷ []) list2
  pub columns : (k : ℕ) → length d.planned.columns ≤ k → SameColumns (shown y.image k) (shown left.output k)

abbrev pub AgainConverted : Type 0
AgainConverted =
    (x y : Args) (out list : List ℕ) (d : Decided) → Repeats x y out list d → (out2 list2 : List ℕ) (work2 : List (List ℕ))
    → ((n p : ℕ) → (convert y out2 list2 work2).answered ≡ refused n p → In n may_meet)
    × ((report : Report) → (convert y out2 list2 work2).answered ≡ ok report → SameLeft y d list2 (convert y out2 list2 work2))
