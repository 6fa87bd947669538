-- The final bytes of an accepted call: what the guarantee says of blocks and of reading by links, from the order of the blocks.
use Rattle.std.specs.Prelude.{◌≡◌, List, ℕ, ◌≤◌, length}
use Rattle.base.specs.Blit.{blit, part}
use Rattle.plan.specs.Layout.{Layout, Placed}
use Rattle.result.specs.Fill.{Block}
use Rattle.result.specs.Ordered.{Ordered}
use Rattle.result.specs.Result.{Args, rules_of, blocks_of, file_of}
use Rattle.result.specs.Links.{shown}
use Rattle.result.specs.Due.{due_all}
use Rattle.result.specs.Guarantee.{Stands, In, AllApart}
use Rattle.shown_laws.specs.Flat.{final_stands, final_keeps, ordered_apart}
use Rattle.shown_laws.specs.ColumnShown.{ColumnSound, Refers}
use Rattle.shown_laws.specs.AllShown.{shows_due}

module _ (x : Args) (l : Layout) (out : List ℕ) (order : Ordered 0 (blocks_of x l) l.file_size_lem) where
  -- "no two blocks share a byte"
  pub file_apart : AllApart (blocks_of x l)
  file_apart = ordered_apart (blocks_of x l) 0 l.file_size_lem order

  -- "output bytes past the result .. keep their value"
  pub file_keeps : (j n : ℕ) → l.file_size_lem ≤ j → part j n (blit 0 (file_of x l) out) ≡ part j n out
  unfolding file_of
  file_keeps j n h = final_keeps (blocks_of x l) l.file_size_lem j n out order h

  module _ (room : l.file_size_lem ≤ length out) where
    -- every block is written as planned
    pub file-filled : (b : Block) → In b (blocks_of x l) → Stands (blit 0 (file_of x l) out) b.at b.bytes
    unfolding file_of
    file-filled b i = final_stands (blocks_of x l) l.file_size_lem out order room i

    -- read by links it shows exactly what is due
    pub file_shows : ((p : Placed) → In p l.placed → ColumnSound x.image x.block_size p)
        → ((p : Placed) → In p l.placed → Refers (rules_of x) x.image p.column) → (k : ℕ) → length l.placed ≤ k
        → shown (blit 0 (file_of x l) out) k ≡ due_all (rules_of x) x.image x.block_size l.placed l.placed
    file_shows columns refers k h = shows_due x l (record { stands = file-filled; columns = columns; refers = refers }) k h
