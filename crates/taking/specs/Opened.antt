-- The columns of an opened file.
use Rattle.std.specs.Prelude.{ℕ, List}
use Rattle.file.specs.Form.{FileColumn}
use Rattle.ranges.specs.Open.{column_at, columns_of}
use Rattle.taking.specs.declared.opened.File.{File}

abbrev pub columns_in : File → List FileColumn
columns_in f = columns_of f.image.now f.source.now f.count 0

-- column k
abbrev pub column_in : File → ℕ → FileColumn
column_in f k = column_at f.image.now f.source.now k
