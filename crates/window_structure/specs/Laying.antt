-- Columns of the words laid over a window, one after the other: what is left of them.
use Rattle.std.specs.Prelude.{ℕ, ◌+◌, ◌-◌, ◌*◌, ◌≤◌, ◌<◌, List, Bool, ◌⊎◌, ◌≡◌, get_or}
use Rattle.plan.specs.Rules.{Rules}
use Rattle.plan.specs.Copies.{Copy, Attachment}
use Rattle.work_words.specs.CopyWords.{placed_at}
use Rattle.copier.specs.Standing.{copies_in}
use Rattle.result.specs.Fill.{Block, structure_blocks}
use Rattle.result.specs.Ordered.{Ordered}
use Rattle.windows.specs.Windowed.{over_all}
use Rattle.window_copies.specs.Attachments.{attachments_in}
use Rattle.writing.specs.PlacedIn.{placed_in}
use Rattle.writing.specs.Structure.{on_table}

-- the blocks of n columns
abbrev pub structure_in : Bool → List ℕ → List ℕ → ℕ → List ℕ → List ℕ → ℕ → ℕ → ℕ → ℕ → List Block
structure_in ph table s size columns memo n used metadata attached =
    structure_blocks (on_table table) s size (copies_in memo used) (attachments_in memo metadata attached) (placed_in ph s columns memo 0 n) (placed_in ph s columns memo 0 n)

-- column k is the first, or its DG begins by index a
abbrev pub Begun : List ℕ → ℕ → ℕ → ℕ → Type 0
Begun memo n a k = (k ≡ 0) ⊎ ((k < n) × (get_or memo (placed_at + 3 * k) 0 ≤ a))

module _ (ph : Bool) (rs : Rules) (s : List ℕ) (size : ℕ) (columns memo : List ℕ) (n : ℕ) (m : List Copy) (ats : List Attachment) where
  -- the blocks of the columns from number k on, of n
  abbrev pub left : ℕ → List Block
  left k = structure_blocks rs s size m ats (placed_in ph s columns memo 0 n) (placed_in ph s columns memo k (n - k))

-- they stand in order and, laid over w, give g
module _ (ph : Bool) (rs : Rules) (s : List ℕ) (size : ℕ) (columns memo : List ℕ) (n a : ℕ) (m : List Copy) (ats : List Attachment) (g : List ℕ) (k : ℕ) (w : List ℕ) where
  pub record Laying : Type 0 where
    pub room : ℕ
    pub ordered : Ordered 0 (left ph rs s size columns memo n m ats k) room
    pub rest : over_all a (left ph rs s size columns memo n m ats k) w ≡ g
