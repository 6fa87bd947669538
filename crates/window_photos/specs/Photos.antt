-- Bookkeeping: a channel's references to attachments from one of them on.
use Rattle.std.specs.Prelude.{ℕ, ◌+◌, ◌*◌, ◌-◌, List}
use Rattle.plan.specs.Copies.{Attachment}
use Rattle.plan.specs.Photos.{links_from}
use Rattle.result.specs.Fill.{words, photo_links}

-- those of the CN at c, which has n, from number i on, led to the moved ones
unfoldable pub photos_from : List ℕ → List Attachment → ℕ → ℕ → ℕ → List ℕ
photos_from s ats c i n = words (photo_links ats (links_from s (n - i) (c + 88 + 8 * i)))
