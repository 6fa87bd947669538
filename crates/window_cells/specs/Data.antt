-- Bookkeeping: joined data over a window.
use Rattle.std.specs.Prelude.{ℕ, ◌+◌, ◌≤◌, List, ◌≡◌}
use Rattle.base.specs.Blit.{part}
use Rattle.base.specs.Checked.{fine}
use Rattle.mdf.specs.Records.{most64, ranges_in, joined, size_of}
use Rattle.work_words.specs.Words.{fragments_of}
use Rattle.stores.specs.Over.{over}

-- n bytes from an offset on are laid at index at, if the fragments lie in the image and have them
abbrev pub LaysJoined : List ℕ → List ℕ → ℕ → ℕ → ℕ → ℕ → List ℕ → List ℕ → Type 0
LaysJoined s ws a at offset n w last =
    ranges_in s (fragments_of ws) ≡ fine → size_of (fragments_of ws) ≤ most64 → offset + n ≤ size_of (fragments_of ws)
    → last ≡ over a at (part offset n (joined s (fragments_of ws))) w
