-- One column's part of `columnsSound`.
use Rattle.std.specs.Prelude.{ℕ, List}
use Rattle.base.specs.Checked.{and_then, Verdict}
use Rattle.file.specs.Form.{FileColumn}
use Rattle.ranges.specs.Open.{column_at}
use Rattle.thin.specs.Kept.{signal_sound, master_sound}

-- of column k, which stands in words
unfoldable pub sound_at : List ℕ → List ℕ → List FileColumn → ℕ → Verdict
sound_at s w all k = and_then (signal_sound s (column_at s w k).cn) (λ _. master_sound s all (column_at s w k).cg)
