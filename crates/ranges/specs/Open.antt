-- The columns that the walk's words give.
use Prim.{Unit}
use Rattle.std.specs.Prelude.{ℕ, zero, suc, ◌+◌, ◌*◌, ◌≤◌, List, [], ◌∷◌, Bool, ◌≡◌, length, get_or, eqb, ltb}
use Rattle.base.specs.Choice.{pick, if_lt}
use Rattle.base.specs.Checked.{Checked, ok, refused, and_then, Verdict, fine}
use Rattle.mdf.specs.Block.{link_at}
use Rattle.work_words.specs.Words.{marks_at}
use Rattle.std.specs.Prelude.{Result, Ok, Err, ⊤}
use Rattle.fields.specs.declared.refusal.Refusal.{Refusal}
use Rattle.fields.specs.Answer.{number_of, place_of}
use Rattle.file.specs.Form.{FileColumn, holds, formed}
use Rattle.file.specs.Opened.{opened}
use Rattle.ranges.specs.Blocks.{column_of}
use Rattle.ranges.specs.Ranged.{chain_ranges}

-- the ranges of a DG's chain; a mark over 1 is a DG's
unfoldable pub item_range : List ℕ → ℕ → ℕ → Verdict
item_range s a mark = if_lt 1 mark (chain_ranges s 258 (link_at s a 2)) fine

-- of so many blocks from number i on
unfoldable pub word_ranges : List ℕ → List ℕ → ℕ → ℕ → Verdict
word_ranges s w zero i = fine
word_ranges s w (suc k) i = and_then (item_range s (get_or w i 0) (get_or w (marks_at + i) 0)) (λ _. word_ranges s w k (i + 1))

-- column j: a DG, a CG and a CN
abbrev pub column_at : List ℕ → List ℕ → ℕ → FileColumn
column_at s w j = column_of s (get_or w (3 * j) 0) (get_or w (3 * j + 1) 0) (get_or w (3 * j + 2) 0)

unfoldable pub column_formed : List ℕ → List ℕ → ℕ → Bool
column_formed s w j =
    holds (ltb 1 (get_or w (marks_at + 3 * j) 0) ∷ eqb (get_or w (marks_at + 3 * j + 1) 0) 1 ∷ eqb (get_or w (marks_at + 3 * j + 2) 0) 0
    ∷ formed s (column_of s (get_or w (3 * j) 0) (get_or w (3 * j + 1) 0) 0) ∷ [])

-- the columns of n blocks from column j on
unfoldable pub form_from : List ℕ → List ℕ → ℕ → ℕ → Checked (List FileColumn)
form_from s w zero j = ok []
form_from s w (suc zero) j = refused 24 0
form_from s w (suc (suc zero)) j = refused 24 0
form_from s w (suc (suc (suc n))) j =
    let rest = form_from s w n (j + 1) in
    pick (column_formed s w j) (and_then rest (λ cs. ok (column_at s w j ∷ cs))) (refused 24 0)

unfoldable pub columns_of : List ℕ → List ℕ → ℕ → ℕ → List FileColumn
columns_of s w zero j = []
columns_of s w (suc k) j = column_at s w j ∷ columns_of s w k (j + 1)

-- no more columns than DG
abbrev pub few : Result ℕ Refusal → Type 0
few (Ok count) = count ≤ 512
few (Err e) = Unit {0}

-- bookkeeping: there are as many words as before
abbrev pub lasting : Result ℕ Refusal → List ℕ → Type 0
lasting (Ok count) w = length w ≡ 4096
lasting (Err e) w = Unit {0}

-- the code's answer
abbrev pub opened_as : List ℕ → List ℕ → Result ℕ Refusal → Checked (List FileColumn)
opened_as s w (Ok count) = ok (columns_of s w count 0)
opened_as s w (Err e) = refused (number_of e) (place_of e)

-- bookkeeping: the words hold the columns of the opened file, their number at the last word
pub record Holds (s w : List ℕ) : Type 0 where
  pub most : get_or w 4095 0 ≤ 512
  pub columns : ok (columns_of s w (get_or w 4095 0) 0) ≡ opened s

-- bookkeeping: the code's answer where it leaves the columns in the words
abbrev pub opening : List ℕ → List ℕ → Result ⊤ Refusal → Type 0
opening s w (Ok x) = Holds s w
opening s w (Err e) = refused (number_of e) (place_of e) ≡ opened s
