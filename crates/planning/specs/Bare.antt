-- Groups whose DG is only its address: planning reads no more of it.
use Rattle.std.specs.Prelude.{List, [], ◌∷◌}
use Rattle.std.proofs.Math.Option.{Option, none, some}
use Rattle.base.specs.Checked.{Checked, ok, refused}
use Rattle.plan.specs.Columns.{SrcGroup, Column, Plan, TimeOf, time, untimed, differs}
use Rattle.planning.specs.Items.{group_of}

abbrev pub bare : SrcGroup → SrcGroup
bare g = group_of g.data_group.at g.at g.channels g.records

unfoldable pub bares : List SrcGroup → List SrcGroup
bares [] = []
bares (g ∷ gs) = bare g ∷ bares gs

abbrev pub bare_column : Column → Column
bare_column c = record { group = bare c.group; channel = c.channel; is_time_lem = c.is_time_lem; master = c.master; signal_of = c.signal_of; photos = c.photos }

unfoldable pub bare_columns : List Column → List Column
bare_columns [] = []
bare_columns (c ∷ cs) = bare_column c ∷ bare_columns cs

abbrev pub bare_plan : Plan → Plan
bare_plan p = record { columns = bare_columns p.columns; omissions = p.omissions; fragments = p.fragments }

abbrev pub bare_checked : Checked Plan → Checked Plan
bare_checked (ok p) = ok (bare_plan p)
bare_checked (refused x p) = refused x p

abbrev pub bare_group : Option SrcGroup → Option SrcGroup
bare_group none = none
bare_group (some g) = some (bare g)

abbrev pub bare_time : TimeOf → TimeOf
bare_time (time t m) = time (bare t) m
bare_time untimed = untimed
bare_time differs = differs
