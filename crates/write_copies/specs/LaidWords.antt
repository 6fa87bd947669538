-- Layouts whose copies, history chain and attachments lent words can hold, and how many of each there are.
use Rattle.std.specs.Prelude.{ℕ, ◌+◌, ◌*◌, ◌≤◌, ◌<◌, List, ◌++◌, ◌≡◌, length, get_or}
use Rattle.plan.specs.Copies.{Copy}
use Rattle.plan.specs.Layout.{Placed, Layout}
use Rattle.work_words.specs.CopyWords.{placed_at}
use Rattle.copies_laws.specs.AttachLaws.{own_copies}

-- the copies of the HD comment and of the history chain come first, then those of the columns, then those of the attachments
pub record Worded (l : Layout) : Type 0 where
  pub few : length l.attached.made.memo ≤ 2050
  pub chained : length l.past.chain ≤ 2051
  pub most : length l.attached.attachments ≤ 64
  pub new : List Copy
  pub columns : l.metadata.memo ≡ l.past.made.memo ++ new
  pub all : l.attached.made.memo ≡ l.metadata.memo ++ own_copies l.attached.attachments

-- the numbers of all copies, of those of the HD comment and the history, of those and the columns', of the chain's blocks and of the attachments
pub record Numbers (l : Layout) (used past metadata chain count : ℕ) : Type 0 where
  pub all : used ≡ length l.attached.made.memo
  pub first : past ≡ length l.past.made.memo
  pub next : metadata ≡ length l.metadata.memo
  pub blocks : chain ≡ length l.past.chain
  pub moved : count ≡ length l.attached.attachments

-- the words from i on are those of a list
abbrev pub Words : List ℕ → ℕ → List ℕ → Type 0
Words w i l = (j : ℕ) → j < length l → get_or w (i + j) 0 ≡ get_or l j 0

-- column number k is placed as p
pub record PlaceWords (w : List ℕ) (k : ℕ) (p : Placed) : Type 0 where
  pub dg : get_or w (placed_at + 3 * k) 0 ≡ p.dg
  pub first : get_or w (placed_at + 3 * k + 1) 0 ≡ p.first
  pub sd : get_or w (placed_at + 3 * k + 2) 0 ≡ p.sd
