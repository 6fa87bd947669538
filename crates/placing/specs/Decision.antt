-- What is decided before anything is written, and how it stands in the work words.
use Rattle.std.specs.Prelude.{ℕ, ◌≤◌, List, [], ◌∷◌, ◌++◌, ◌≡◌, length, Result, Ok, Err}
use Rattle.base.specs.Blit.{blit}
use Rattle.base.specs.Choice.{if_lt, if_eq}
use Rattle.base.specs.Checked.{Checked, ok, refused, and_then, fine}
use Rattle.mdf.specs.Walk.{Source, walk}
use Rattle.mdf.specs.Group.{data_groups}
use Rattle.mdf.specs.Count.{counts}
use Rattle.work_words.specs.Words.{counts_at, laid_items, fragment_words}
use Rattle.plan.specs.Columns.{src_groups}
use Rattle.plan.specs.Rules.{Rules, choices_in}
use Rattle.plan.specs.Layout.{layout}
use Rattle.work_words.specs.PlanWords.{signal_fragments, laid_plan}
use Rattle.result.specs.Result.{Args, shared_groups, Decided, lent_in, decided, work_in, work_left}
use Rattle.planning.specs.Answer.{planned_of}
use Rattle.placing.specs.declared.layout.Numbers.{Numbers}
use Rattle.placing.specs.Laying.{on_unit, Numbered}
use Rattle.placing.specs.declared.decide.Decision.{Decision}
use Rattle.fields.specs.declared.refusal.Refusal.{Refusal}
use Rattle.fields.specs.Answer.{number_of, place_of}

-- a call's arguments but the time
abbrev pub untimed : List ℕ → ℕ → List ℕ → List ℕ → Rules → Args
untimed image size ident text rs = record { image = image; block_size = size; ident = ident; text = text; time = 0; unit = rs.unit; table = rs.table; share = rs.share; photos = rs.photos }

-- the four work slices
abbrev pub four : List ℕ → List ℕ → List ℕ → List ℕ → List (List ℕ)
four a b c d = a ∷ b ∷ c ∷ d ∷ []

-- all but the first: what is decided of the image, by what is chosen, for a block size and a history text of n bytes
unfoldable pub rest : Rules → List ℕ → ℕ → ℕ → Checked Decided
rest rs s size n =
    and_then (if_eq size 0 (refused 2 0) fine) (λ _.
    and_then (choices_in rs) (λ _.
    and_then (if_lt 4294967296 (length s) (refused 3 0) fine) (λ _.
    and_then (planned_of rs s size) (λ a.
    and_then (layout (on_unit rs.unit) s size n a.planned.columns) (λ l.
    ok (record { groups = src_groups (data_groups a.source) a.numbers; stands = a.stands; planned = a.planned; laid_out = l }))))))

-- what was decided stands in the words: of reading, of the fragments, of the plan and of the layout (the numbers have the last), each laid over what they were
pub record DecidedIn (x : Args) (i f k o : ℕ) (n : Numbers) (a b c d a' b' c' d' : List ℕ) : Type 0 where
  pub told : Decided
  pub is : decided x ≡ ok told
  pub source : Source
  pub walked : walk x.image ≡ ok source
  pub numbers : List ℕ
  pub counted : counts x.image (data_groups source) ≡ ok numbers
  pub items : i ≡ length source.items
  pub fragments : f ≡ length source.fragments
  pub columns : k ≡ length told.planned.columns
  pub omissions : o ≡ length told.planned.omissions
  pub numbered : Numbered told.laid_out d d' n
  pub long_a : 8192 ≤ length a
  pub long_b : 8192 ≤ length b
  pub long_c : 8192 ≤ length c
  pub long_d : 8192 ≤ length d
  pub in_source : a' ≡ blit counts_at numbers (laid_items source.items a)
  pub in_fragments : b' ≡ blit 0 (fragment_words (source.fragments ++ signal_fragments told.planned.columns)) b
  pub in_columns : c' ≡ laid_plan (length source.fragments) told.planned c

-- the same of all but the first
pub record RestIn (rs : Rules) (s : List ℕ) (size text : ℕ) (i f k o : ℕ) (n : Numbers) (a b c d a' b' c' d' : List ℕ) : Type 0 where
  pub told : Decided
  pub is : rest rs s size text ≡ ok told
  pub source : Source
  pub walked : walk s ≡ ok source
  pub numbers : List ℕ
  pub counted : counts s (data_groups source) ≡ ok numbers
  pub items : i ≡ length source.items
  pub fragments : f ≡ length source.fragments
  pub columns : k ≡ length told.planned.columns
  pub omissions : o ≡ length told.planned.omissions
  pub numbered : Numbered told.laid_out d d' n
  pub in_source : a' ≡ blit counts_at numbers (laid_items source.items a)
  pub in_fragments : b' ≡ blit 0 (fragment_words (source.fragments ++ signal_fragments told.planned.columns)) b
  pub in_columns : c' ≡ laid_plan (length source.fragments) told.planned c

-- so many groups have a master that another stands for
abbrev pub Shares : Checked Decided → ℕ → Type 0
Shares v h = (d : Decided) → v ≡ ok d → h ≡ shared_groups d.stands

-- a refusal, and the words that it leaves
pub record RefusedIn (x : Args) (number place : ℕ) (ws ws' : List (List ℕ)) : Type 0 where
  pub is : and_then (work_in ws) (λ _. decided x) ≡ refused number place
  pub words : ws' ≡ work_left (and_then (work_in ws) (λ _. lent_in x)) ws

abbrev pub Decides : Args → List ℕ → List ℕ → List ℕ → List ℕ → Result Decision Refusal → List ℕ → List ℕ → List ℕ → List ℕ → Type 0
Decides x a b c d (Err r) a' b' c' d' = RefusedIn x (number_of r) (place_of r) (four a b c d) (four a' b' c' d')
Decides x a b c d (Ok r) a' b' c' d' =
    DecidedIn x r.items r.fragments r.columns r.omissions r.numbers a b c d a' b' c' d' × Shares (decided x) r.shared

-- of all but the first; after a refusal the words are not said
abbrev pub DecidesRest : Rules → List ℕ → ℕ → ℕ → List ℕ → List ℕ → List ℕ → List ℕ → Result Decision Refusal → List ℕ → List ℕ → List ℕ → List ℕ → Type 0
DecidesRest rs s size text a b c d (Err r) a' b' c' d' = rest rs s size text ≡ refused (number_of r) (place_of r)
DecidesRest rs s size text a b c d (Ok r) a' b' c' d' =
    RestIn rs s size text r.items r.fragments r.columns r.omissions r.numbers a b c d a' b' c' d' × Shares (rest rs s size text) r.shared
