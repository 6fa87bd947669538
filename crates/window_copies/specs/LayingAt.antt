-- Attachments of the words laid over a window, one after the other: what is left of them.
use Prim.{Unit}
use Rattle.std.specs.Prelude.{ℕ, ◌+◌, ◌-◌, ◌*◌, ◌≤◌, List, [], ◌∷◌, ◌≡◌, length}
use Rattle.plan.specs.Copies.{Attachment}
use Rattle.copier.specs.Standing.{copies_in}
use Rattle.result.specs.Fill.{attachment_blocks}
use Rattle.copies_laws.specs.AttachLaws.{Moved, own_copies}
use Rattle.windows.specs.Windowed.{over_all}
use Rattle.window_copies.specs.Attachments.{attachments_from}
use Rattle.window_copies.specs.Laying.{Wholes}

-- each of the attachments passed its checks, and its own copies are made of whole blocks
unfoldable pub AllMoved : List ℕ → List Attachment → Type 0
AllMoved s [] = Unit
AllMoved s (t ∷ ts) = Wholes s t.own × Moved s t.from × AllMoved s ts

-- the attachments number i up to count, the first one's copies from copy number k on, laid over w, give g
module _ (s words chain : List ℕ) (used fh a count : ℕ) (g : List ℕ) (i k : ℕ) (w : List ℕ) where
  pub record LayingAt : Type 0 where
    pub few : k + length (own_copies (attachments_from words (4100 + 3 * i) k (count - i))) ≤ used
    pub moved : AllMoved s (attachments_from words (4100 + 3 * i) k (count - i))
    pub rest : over_all a (attachment_blocks s chain (copies_in words used) fh (attachments_from words (4100 + 3 * i) k (count - i))) w ≡ g
