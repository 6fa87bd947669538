-- What is decided before anything is written, and how it stands in the work words.
use Rattle.std.specs.Prelude.{ℕ, ◌≤◌, List, [], ◌∷◌, ◌≡◌, length, Result, Ok, Err}
use Rattle.base.specs.Checked.{ok, refused, and_then}
use Rattle.base.specs.Blit.{blit}
use Rattle.plan.specs.Layout.{Layout}
use Rattle.result.specs.Result.{work_in, work_left}
use Rattle.work_words.specs.Words.{fragment_words}
use Rattle.work_words.specs.PlanWords.{columns_words, signal_fragments}
use Rattle.work_words.specs.CopyWords.{laid_copies}
use Rattle.file.specs.Form.{FileColumn}
use Rattle.file.specs.Opened.{opened}
use Rattle.thin.specs.Kept.{kept_columns}
use Rattle.thin.specs.TakenOut.{answer}
use Rattle.fields.specs.declared.refusal.Refusal.{Refusal}
use Rattle.fields.specs.Answer.{number_of, place_of}
use Rattle.arranging.specs.declared.decide.Numbers.{Numbers}

-- the four work slices
abbrev pub four : List ℕ → List ℕ → List ℕ → List ℕ → List (List ℕ)
four a b c d = a ∷ b ∷ c ∷ d ∷ []

-- the numbers are those of the layout, and the words at exit are those at entry with the layout laid over them
pub record Numbered (l : Layout) (m m' : List ℕ) (r : Numbers) : Type 0 where
  pub columns : r.columns ≡ length l.placed
  pub history : r.history ≡ length l.past.made.memo
  pub chain : r.chain ≡ length l.past.chain
  pub metadata : r.metadata ≡ length l.metadata.memo
  pub copies : r.copies ≡ length l.attached.made.memo
  pub attachments : r.attachments ≡ length l.attached.attachments
  pub metadata_end_lem : r.metadata_end ≡ l.metadata_end_lem
  pub file_size_lem : r.file_size ≡ l.file_size_lem
  pub words : m' ≡ laid_copies l m

-- what was decided of the file s stands in the words: the kept columns with their signal data's fragments, and the layout, each laid over what they were;
-- the first slice is as it was
pub record ArrangedIn (u : ℕ) (s numbers : List ℕ) (out : ℕ) (n : Numbers) (a b c d a' b' c' d' : List ℕ) : Type 0 where
  pub told : Layout
  pub is : answer u s numbers out ≡ ok told
  pub all : List FileColumn
  pub is_all : opened s ≡ ok all
  pub columns : n.columns ≡ length (kept_columns s numbers all)
  pub numbered : Numbered told d d' n
  pub long_a : 8192 ≤ length a
  pub long_b : 8192 ≤ length b
  pub long_c : 8192 ≤ length c
  pub long_d : 8192 ≤ length d
  pub in_source : a' ≡ a
  pub in_fragments : b' ≡ blit 0 (fragment_words (signal_fragments (kept_columns s numbers all))) b
  pub in_columns : c' ≡ blit 0 (columns_words 0 (kept_columns s numbers all)) c

-- a refusal, and the words that it leaves
pub record RefusedIn (u : ℕ) (s numbers : List ℕ) (out number place : ℕ) (ws ws' : List (List ℕ)) : Type 0 where
  pub is : and_then (work_in ws) (λ _. answer u s numbers out) ≡ refused number place
  pub words : ws' ≡ work_left (work_in ws) ws

abbrev pub Arranges : ℕ → List ℕ → List ℕ → ℕ → List ℕ → List ℕ → List ℕ → List ℕ → Result Numbers Refusal → List ℕ → List ℕ → List ℕ → List ℕ → Type 0
Arranges u s numbers out a b c d (Err x) a' b' c' d' = RefusedIn u s numbers out (number_of x) (place_of x) (four a b c d) (four a' b' c' d')
Arranges u s numbers out a b c d (Ok n) a' b' c' d' = ArrangedIn u s numbers out n a b c d a' b' c' d'

-- the same of lent slices that are long enough; after a refusal the words are not said
pub record RestIn (u : ℕ) (s numbers : List ℕ) (out : ℕ) (n : Numbers) (b c d b' c' d' : List ℕ) : Type 0 where
  pub told : Layout
  pub is : answer u s numbers out ≡ ok told
  pub all : List FileColumn
  pub is_all : opened s ≡ ok all
  pub columns : n.columns ≡ length (kept_columns s numbers all)
  pub numbered : Numbered told d d' n
  pub in_fragments : b' ≡ blit 0 (fragment_words (signal_fragments (kept_columns s numbers all))) b
  pub in_columns : c' ≡ blit 0 (columns_words 0 (kept_columns s numbers all)) c

abbrev pub ArrangesRest : ℕ → List ℕ → List ℕ → ℕ → List ℕ → List ℕ → List ℕ → Result Numbers Refusal → List ℕ → List ℕ → List ℕ → Type 0
ArrangesRest u s numbers out b c d (Err x) b' c' d' = answer u s numbers out ≡ refused (number_of x) (place_of x)
ArrangesRest u s numbers out b c d (Ok n) b' c' d' = RestIn u s numbers out n b c d b' c' d'
