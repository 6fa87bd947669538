-- The final bytes: every block of a file with columns taken out is written as placed, no two share a byte.
use Rattle.std.specs.Prelude.{ℕ, ◌≤◌, List, ◌≡◌, length}
use Rattle.base.specs.Blit.{blit, part}
use Rattle.plan.specs.Layout.{Layout}
use Rattle.result.specs.Fill.{Block}
use Rattle.result.specs.Ordered.{Ordered}
use Rattle.result.specs.Guarantee.{Stands, In, AllApart}
use Rattle.shown_laws.specs.Flat.{length-flat, final_stands, final_keeps, ordered_apart}
use Rattle.thin.specs.Fill.{blocks_kept, file_kept}

module _ (s : List ℕ) (l : Layout) (order : Ordered 0 (blocks_kept s l) l.file_size_lem) where
  -- it has as many bytes as its size says
  pub length-file_kept : length (file_kept s l) ≡ l.file_size_lem
  unfolding file_kept
  length-file_kept = length-flat (blocks_kept s l) l.file_size_lem order

  -- "no two blocks share a byte"
  pub kept_apart : AllApart (blocks_kept s l)
  kept_apart = ordered_apart (blocks_kept s l) 0 l.file_size_lem order

  -- "output bytes past the result .. keep their value"
  pub kept_keeps : (out : List ℕ) (j n : ℕ) → l.file_size_lem ≤ j → part j n (blit 0 (file_kept s l) out) ≡ part j n out
  unfolding file_kept
  kept_keeps out j n h = final_keeps (blocks_kept s l) l.file_size_lem j n out order h

  -- every block is written as placed
  pub kept-filled : (out : List ℕ) → l.file_size_lem ≤ length out → (b : Block) → In b (blocks_kept s l)
      → Stands (blit 0 (file_kept s l) out) b.at b.bytes
  unfolding file_kept
  kept-filled out room b i = final_stands (blocks_kept s l) l.file_size_lem out order room i
