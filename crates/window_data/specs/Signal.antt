-- Bookkeeping: signal data over a window.
use Rattle.std.specs.Prelude.{ℕ, ◌+◌, ◌≤◌, List, ◌≡◌}
use Rattle.base.specs.Checked.{fine}
use Rattle.mdf.specs.Block.{kind_sd}
use Rattle.mdf.specs.Records.{most64, ranges_in, joined, size_of}
use Rattle.work_words.specs.Words.{fragments_of}
use Rattle.result.specs.Fill.{block_of}
use Rattle.stores.specs.Over.{over}

-- the SD block is laid at index at, if the fragments lie in the image and its bytes can be counted
abbrev pub LaysSignal : List ℕ → List ℕ → ℕ → ℕ → List ℕ → List ℕ → Type 0
LaysSignal s ws a at w last =
    ranges_in s (fragments_of ws) ≡ fine → at + 24 + size_of (fragments_of ws) ≤ most64
    → last ≡ over a at (block_of kind_sd (joined s (fragments_of ws))) w
