-- A window of the file, of what was decided and stands in words.
use Rattle.std.specs.Prelude.{ℕ, ◌+◌, ◌-◌, ◌≤◌, List, [], ◌∷◌, ◌++◌, ◌≡◌, length, get_or, take}
use Rattle.base.specs.Blit.{part}
use Rattle.base.specs.Choice.{if_eq}
use Rattle.mdf.specs.Block.{link_at}
use Rattle.copier.specs.Standing.{copies_in}
use Rattle.placing.specs.declared.layout.Numbers.{Numbers}
use Rattle.work_words.specs.CopyWords.{history_at}
use Rattle.result.specs.Fill.{Block, block, new_link, hd_bytes, copied_blocks}
use Rattle.result.specs.Ordered.{Ordered}
use Rattle.result.specs.Result.{Args, decided}
use Rattle.windows.specs.Windowed.{over_all}
use Rattle.window_copies.specs.Laying.{Wholes}
use Rattle.writing.specs.Data.{Kept}
use Rattle.writing.specs.Finish.{Stands}
use Rattle.writing.specs.FileLaws as file
use Rattle.choices.specs.Chosen.{rules}
use Rattle.writing.specs.Answer.{args, file_for}
use Rattle.window_file.specs.declared.Held.{Held}
use Rattle.window_file.specs.declared.Call.{Call}

-- bookkeeping: what a call lends and chooses
abbrev pub args_of : Call → Args
args_of c = args c.image.now c.size c.ident.now c.text.now c.time (rules c.choices c.table.now)

-- what was decided stands in these words
abbrev pub StandsAs : Args → Held → List ℕ → List ℕ → List ℕ → List ℕ → Type 0
StandsAs x h v f w m = Stands x h.items h.pieces h.columns h.omissions h.numbers v f w m

-- bookkeeping: the place of the first attachment that the words m have, of so many
abbrev pub first_at : List ℕ → ℕ → ℕ
first_at m count = if_eq count 0 0 (get_or m 4101 0)

-- bookkeeping: the identification and the HD by the words, of n columns
abbrev pub front_in : List ℕ → List ℕ → List ℕ → ℕ → Numbers → List Block
front_in s ident m n z =
    block 0 ident
    ∷ block 64 (hd_bytes s (if_eq n 0 0 (get_or m 6656 0)) (if_eq z.chain 0 z.fh (new_link (copies_in m z.copies) (get_or m 4352 0))) (first_at m z.attachments)
    (new_link (copies_in m z.copies) (link_at s 64 5)))
    ∷ []

-- the blocks before the data
module _ {x : Args} {h : Held} {v f w m : List ℕ} (st : StandsAs x h v f w m) where
  abbrev pub metadata_of : List Block
  metadata_of = file.part_front st ++ (file.part_history st ++ (file.part_new st ++ (file.part_columns st ++ file.part_structure st)))

-- bookkeeping: the blocks copied of the history, by the words
abbrev pub history_in : List ℕ → List ℕ → Numbers → List Block
history_in s m z = copied_blocks s (part history_at z.chain m) (copies_in m z.copies) z.fh (part 0 (z.history - 0) (copies_in m z.copies))

-- they are laid over a window that begins at a
abbrev pub LaysHistory : List ℕ → List ℕ → Numbers → ℕ → List ℕ → List ℕ → Type 0
LaysHistory s m z a u last =
    z.history ≤ z.copies → z.history ≤ 2050 → 4100 ≤ length m → Wholes s (part 0 (z.history - 0) (copies_in m z.copies))
    → Ordered 168 (history_in s m z) z.md → last ≡ over_all a (history_in s m z) u

-- all blocks before the data are
abbrev pub LaysMetadata : Args → Held → List ℕ → List ℕ → ℕ → List ℕ → List ℕ → Type 0
LaysMetadata x h w m a u last = (v f : List ℕ) (st : StandsAs x h v f w m) → last ≡ over_all a (metadata_of st) u

-- the window that begins at a is that part of the file, and the places that are kept, of stretches in p and of each record in q, stay right
abbrev pub WritesWindow : Args → Held → List ℕ → List ℕ → List ℕ → List ℕ → ℕ → List ℕ → List ℕ → List ℕ → List ℕ → List ℕ → List ℕ → Type 0
WritesWindow x h v f w m a p last-p q last-q u last =
    StandsAs x h v f w m → a + length u ≤ h.numbers.file_size → Kept x.image v h.items (take 3072 f) h.pieces p q
    → Kept x.image v h.items (take 3072 f) h.pieces last-p last-q × (last ≡ part a (length u) (file_for x (decided x)))
