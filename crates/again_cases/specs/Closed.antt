-- Premises of document 02's request 14 at closed examples: by tests that evaluate.
use Prim.{tt}
use Rattle.std.specs.Prelude.{ℕ, zero, suc, ◌<◌, List, [], ◌∷◌, Bool, true, false, ◌≡◌, refl, ltb, length}
use Rattle.std.proofs.lemmas.Bool.{false≢true}
use Rattle.std.proofs.Common.{lit<, ltb-true, lt-ltb}
use Rattle.base.specs.Choice.{pick}
use Rattle.base.specs.Blit.{blit}
use Rattle.base.specs.Checked.{Checked, ok, refused}
use Rattle.plan.specs.Columns.{Column}
use Rattle.plan.specs.Layout.{column_width}
use Rattle.result.specs.Member.{here, there}
use Rattle.result.specs.Result.{Args, Decided, answer}
use Rattle.guarantee.specs.Theorem.{AllBytes}
use Rattle.cases.specs.Excluded.{file_in}
use Rattle.again.specs.Again.{BuiltIn, Wide, SameChoices, Repeats}

-- both of two tests
test_first : (t u : Bool) → pick t u false ≡ true → t ≡ true
test_first true u e = refl
test_first false u e = absurd (false≢true e)

test_rest : (t u : Bool) → pick t u false ≡ true → u ≡ true
test_rest true u e = e
test_rest false u e = absurd (false≢true e)

-- every element is a byte
abbrev pub are_bytes : List ℕ → Bool
are_bytes [] = true
are_bytes (b ∷ bs) = pick (ltb b 256) (are_bytes bs) false

pub all-bytes : (s : List ℕ) → are_bytes s ≡ true → AllBytes s
all-bytes [] e i = lit< tt
all-bytes (b ∷ bs) e zero = ltb-true b 256 (test_first (ltb b 256) (are_bytes bs) e)
all-bytes (b ∷ bs) e (suc i) = all-bytes bs (test_rest (ltb b 256) (are_bytes bs) e) i

-- a column with records has width above 0
abbrev is_wide : List ℕ → Column → Bool
is_wide s c = pick (ltb 0 c.group.records) (ltb 0 (column_width s c)) true

-- every column
abbrev pub are_wide : List ℕ → List Column → Bool
are_wide s [] = true
are_wide s (c ∷ cs) = pick (is_wide s c) (are_wide s cs) false

wide_one : (n w : ℕ) → pick (ltb 0 n) (ltb 0 w) true ≡ true → 0 < n → 0 < w
wide_one n w e h = ltb-true 0 w (go (ltb 0 n) (lt-ltb 0 n h) e)
  where
    go : (t : Bool) → t ≡ true → pick t (ltb 0 w) true ≡ true → ltb 0 w ≡ true
    go true q e = e
    go false q e = absurd (false≢true q)

pub all_wide : (s : List ℕ) (cs : List Column) → are_wide s cs ≡ true → Wide s cs
all_wide s [] e c x3 h = elim x3 [ ]
all_wide s (k ∷ cs) e c here h = wide_one c.group.records (column_width s c) (test_first (is_wide s c) (are_wide s cs) e) h
all_wide s (k ∷ cs) e c (there i) h = all_wide s cs (test_rest (is_wide s k) (are_wide s cs) e) c i h

-- what an accepted call decided
abbrev pub is_accepted : Checked Decided → Bool
is_accepted (ok d) = true
is_accepted (refused number place) = false

abbrev pub columns_in : Checked Decided → List Column
columns_in (ok d) = d.planned.columns
columns_in (refused number place) = []

-- all premises, of a call and of one that is given its output
pub repeats : (x y : Args) (out list : List ℕ) (v : Checked Decided) → answer x (length out) (length list) ≡ v → is_accepted v ≡ true
    → are_wide x.image (columns_in v) ≡ true → AllBytes x.image → AllBytes x.ident → AllBytes x.text → AllBytes out → BuiltIn x
    → SameChoices x y → y.image ≡ blit 0 (file_in x v) out → (d : Decided) × Repeats x y out list d
repeats x y out list (refused number place) e t w image ident text bytes types choices again = absurd (false≢true t)
repeats x y out list (ok d) e t w image ident text bytes types choices again = (
  d,
  record {
    first = record { image_bytes = image; ident_bytes = ident; text_bytes_lem = text; out_bytes = bytes; accepted = e };
    types = types;
    wide = all_wide x.image d.planned.columns w;
    choices = choices;
    image = again;
  },
)
