-- The kept columns in words, eight a column, and the fragments of their signal data, three words each.
use Rattle.std.specs.Prelude.{ℕ, ◌+◌, ◌*◌, ◌≤◌, List, ◌≡◌, length}
use Rattle.base.specs.Blit.{blit}
use Rattle.plan.specs.Columns.{Column, size_of_signal}
use Rattle.work_words.specs.Words.{fragment_words}
use Rattle.work_words.specs.PlanWords.{column_words, columns_words, fragments_in, signal_fragments}
use Rattle.thin.specs.Kept.{signal_place, signal_kept}

-- the header of the SD of the CN at c lies in the file
pub record SoundSignal (s : List ℕ) (c : ℕ) : Type 0 where
  pub inside : (signal_place s c ≡ 0 → ⊥) → signal_place s c + 24 ≤ length s

-- the signal data of the CN at c, with n fragments before it
pub record SignalPut (s : List ℕ) (n c r : ℕ) (b b' : List ℕ) : Type 0 where
  pub count : r ≡ size_of_signal (signal_kept s c)
  pub few : r ≤ 1
  pub words : b' ≡ blit (3 * n) (fragment_words (fragments_in (signal_kept s c))) b

-- a column as number j, with n fragments before its own and r after it
pub record ColumnPut (k : Column) (j n r : ℕ) (b b' c c' : List ℕ) : Type 0 where
  pub count : r ≡ n + size_of_signal k.signal_of
  pub fragments : b' ≡ blit (3 * n) (fragment_words (fragments_in k.signal_of)) b
  pub words : c' ≡ blit (8 * j) (column_words n k) c

-- all columns
pub record ColumnsPut (ks : List Column) (r : ℕ) (b b' c c' : List ℕ) : Type 0 where
  pub count : r ≡ length ks
  pub fragments : b' ≡ blit 0 (fragment_words (signal_fragments ks)) b
  pub words : c' ≡ blit 0 (columns_words 0 ks) c
