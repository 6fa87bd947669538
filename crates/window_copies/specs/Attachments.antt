-- The attachments that stand in lent words, three words each: where an AT stood, where it is placed, how many copies were made for it.
use Rattle.std.specs.Prelude.{ℕ, zero, suc, ◌+◌, ◌-◌, ◌*◌, List, [], ◌∷◌, ◌≡◌, get_or}
use Rattle.plan.specs.Copies.{Attachment}
use Rattle.work_words.specs.CopyWords.{attachments_at}
use Rattle.copier.specs.Standing.{copies_from}
use Rattle.result.specs.Fill.{next_attachment}

abbrev pub attachment : List ℕ → ℕ → ℕ → Attachment
attachment w p k = record { from = get_or w p 0; to = get_or w (p + 1) 0; own = copies_from w (2 * k) (get_or w (p + 2) 0) }

-- so many attachments from word p on, the first one's copies from copy number k on
unfoldable pub attachments_from : List ℕ → ℕ → ℕ → ℕ → List Attachment
attachments_from w p k zero = []
attachments_from w p k (suc n) = attachment w p k ∷ attachments_from w (p + 3) (k + get_or w (p + 2) 0) n

-- the attachments of the words, the first one's copies from copy number k on
abbrev pub attachments_in : List ℕ → ℕ → ℕ → List Attachment
attachments_in w k n = attachments_from w attachments_at k n

-- r is the place of attachment number i of n, 0 past the last
pub record NextPlace (w : List ℕ) (i n r : ℕ) : Type 0 where
  pub is : (k : ℕ) → r ≡ next_attachment (attachments_from w (4100 + 3 * i) k (n - i))
