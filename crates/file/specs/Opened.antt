-- The columns of a column file, or why it is none (document 02, request 1): "Faults of 01's identification, HD and walk and of every fragment's
-- range keep their numbers and come first, but 3, 9 for a DL or a data block and the limit on fragments don't apply. .. 24 when the image lacks
-- any of that form .. Their place is 0".
use Rattle.std.specs.Prelude.{ℕ, List, [], ◌∷◌}
use Rattle.std.proofs.Math.Option.{Option, none, some}
use Rattle.base.specs.Choice.{pick}
use Rattle.base.specs.Checked.{Checked, ok, refused, and_then}
use Rattle.mdf.specs.Identification.{identified}
use Rattle.mdf.specs.Chain.{file_limits}
use Rattle.mdf.specs.Walk.{walk_of}
use Rattle.mdf.specs.Group.{DataGroup, data_groups}
use Rattle.mdf.specs.Records.{ranges_in}
use Rattle.file.specs.Form.{FileColumn, alone, formed}

-- bookkeeping: the answer where there is no column, and by the one that there is
abbrev pub on_column : {A : Type 0} → Option FileColumn → Checked A → (FileColumn → Checked A) → Checked A
on_column none a f = a
on_column (some c) a f = f c

-- the column that a DG holds, in the form
unfoldable pub column_in : List ℕ → DataGroup → Checked FileColumn
column_in s d = on_column (alone d) (refused 24 0) (λ c. pick (formed s c) (ok c) (refused 24 0))

-- "each DG"
unfoldable pub columns_in : List ℕ → List DataGroup → Checked (List FileColumn)
columns_in s [] = ok []
columns_in s (d ∷ ds) = and_then (column_in s d) (λ c. and_then (columns_in s ds) (λ cs. ok (c ∷ cs)))

-- identification, HD and walk, every fragment's range, then the form
unfoldable pub opened : List ℕ → Checked (List FileColumn)
opened s =
    and_then (identified s) (λ _.
    and_then (walk_of file_limits s) (λ st.
    and_then (ranges_in s st.fragments) (λ _.
    columns_in s (data_groups st))))
