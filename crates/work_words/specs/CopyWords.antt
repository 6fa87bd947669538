-- Bookkeeping: how placing keeps copies, attachments, the history chain and the places of columns in lent words.
use Rattle.std.specs.Prelude.{ℕ, List, [], ◌∷◌, length}
use Rattle.base.specs.Blit.{blit}
use Rattle.plan.specs.Copies.{Copy, Attachment}
use Rattle.plan.specs.Layout.{Placed, Layout}

-- two words for a copy: where it stood, where it is placed
unfoldable pub copy_words : List Copy → List ℕ
copy_words [] = []
copy_words (c ∷ cs) = c.from ∷ c.to ∷ copy_words cs

-- three words for an attachment: where it stood, where it is placed, how many copies were made for it
unfoldable pub attachment_words : List Attachment → List ℕ
attachment_words [] = []
attachment_words (t ∷ ts) = t.from ∷ t.to ∷ length t.own ∷ attachment_words ts

-- copies from 0 on; attachments from here on
abbrev pub attachments_at : ℕ
attachments_at = 4100

-- the history chain
abbrev pub history_at : ℕ
history_at = 4352

-- three words for a placed column, from here on: the places of its DG, of its first data block and of its SD
abbrev pub placed_at : ℕ
placed_at = 6656

-- of all columns
unfoldable pub placed_words : List Placed → List ℕ
placed_words [] = []
placed_words (p ∷ ps) = p.dg ∷ p.first ∷ p.sd ∷ placed_words ps

-- all of it laid over words
unfoldable pub laid_copies : Layout → List ℕ → List ℕ
laid_copies l w =
    blit placed_at (placed_words l.placed) (blit history_at l.past.chain
    (blit attachments_at (attachment_words l.attached.attachments) (blit 0 (copy_words l.attached.made.memo) w)))
