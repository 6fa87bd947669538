-- Bookkeeping: the data blocks and signal data of columns over a window.
use Rattle.std.specs.Prelude.{ℕ, ◌+◌, ◌-◌, ◌*◌, ◌≤◌, ◌<◌, Option, Some, None, List, ◌⊎◌, ◌≡◌, length}
use Rattle.base.specs.Checked.{fine}
use Rattle.mdf.specs.Records.{most64, ranges_in}
use Rattle.work_words.specs.Words.{fragments_of}
use Rattle.result.specs.Ordered.{Ordered}
use Rattle.stores.specs.Over.{over}
use Rattle.windows.specs.Windowed.{over_all}
use Rattle.writing.specs.declared.data.Entry.{Entry}
use Rattle.writing.specs.Data.{entry_in, entry_count, entry_bytes, entry_blocks, signal_words, entry_signal, data_from, EntryReady, DataReady, Kept}

-- the blocks of a column are laid over a window that begins at index a of them, and the places that are kept stay right
abbrev pub LaysOwn : List ℕ → ℕ → List ℕ → ℕ → List ℕ → ℕ → Entry → ℕ → List ℕ → List ℕ → List ℕ → List ℕ → List ℕ → List ℕ → Type 0
LaysOwn s size w n fs nf e a p last-p q last-q v last =
    EntryReady s w n fs nf e → length (entry_bytes s size w n fs nf e) ≤ most64 → Kept s w n fs nf p q
    → Kept s w n fs nf last-p last-q × (last ≡ over a 0 (entry_bytes s size w n fs nf e) v)

-- how many bytes b blocks have that hold x bytes of each of n records, or that it is no number
abbrev pub SizeOf : ℕ → ℕ → ℕ → Option ℕ → Type 0
SizeOf b x n (Some m) = m ≡ 24 * b + x * n
SizeOf b x n None = most64 < 24 * b + x * n

-- the blocks of a column are laid over a window that begins at a
abbrev pub LaysEntry : List ℕ → ℕ → List ℕ → ℕ → List ℕ → ℕ → Entry → ℕ → List ℕ → List ℕ → List ℕ → List ℕ → List ℕ → List ℕ → Type 0
LaysEntry s size w n fs nf e a p last-p q last-q v last =
    EntryReady s w n fs nf e → Ordered 0 (entry_blocks s size w n fs nf e) most64 → Kept s w n fs nf p q
    → Kept s w n fs nf last-p last-q × (last ≡ over_all a (entry_blocks s size w n fs nf e) v)

-- its SD is
abbrev pub LaysSD : List ℕ → List ℕ → Entry → ℕ → List ℕ → List ℕ → Type 0
LaysSD s fs e a v last =
    ((e.signal ≡ 0 → ⊥) → (3 * (e.signal - 1) + 3 * e.pieces ≤ length fs) × (ranges_in s (fragments_of (signal_words fs e)) ≡ fine))
    → Ordered 0 (entry_signal s fs e) most64 → last ≡ over_all a (entry_signal s fs e) v

-- the fragments of each column's signal data lie in the image
abbrev pub SignalsIn : List ℕ → List ℕ → List ℕ → List ℕ → ℕ → Type 0
SignalsIn s fs cs m number =
    (k : ℕ) → k < number → ((entry_in cs m k).signal ≡ 0 → ⊥) → ranges_in s (fragments_of (signal_words fs (entry_in cs m k))) ≡ fine

-- the data of all columns is laid over a window that begins at a, and the places that are kept stay right
abbrev pub LaysData : List ℕ → ℕ → List ℕ → ℕ → List ℕ → ℕ → List ℕ → List ℕ → ℕ → ℕ → List ℕ → List ℕ → List ℕ → List ℕ → List ℕ → List ℕ → Type 0
LaysData s size w n fs nf cs m number a p last-p q last-q v last =
    (at room : ℕ) → DataReady s size w n fs nf cs m number at room → room ≤ most64 → SignalsIn s fs cs m number → Kept s w n fs nf p q
    → Kept s w n fs nf last-p last-q × (last ≡ over_all a (data_from s size w n fs nf cs m 0 number) v)

-- ---- columns that are passed over

-- a column has data blocks
abbrev pub HasBlocks : List ℕ → ℕ → Entry → Type 0
HasBlocks s size e = entry_count s size e ≡ 0 → ⊥

-- column k is the first, or it has data blocks and they begin by index a
abbrev pub Begun : List ℕ → ℕ → List ℕ → List ℕ → ℕ → ℕ → ℕ → Type 0
Begun s size cs m number a k = (k ≡ 0) ⊎ ((k < number) × ((entry_in cs m k).first ≤ a) × HasBlocks s size (entry_in cs m k))
