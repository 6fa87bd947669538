-- A dash without a column, else the number.
use Rattle.std.proofs.Common.{arith}
use Rattle.sheets.specs.LineLaws.{master_nothing, master_column}
use Rattle.sheets.proofs.line.put_master.Goals as goal

pub returns-in-None : goal.returns-in-None
returns-in-None c = master_nothing _ _ _ (c.master_of.ensures (omega arith)) c.in-None.is c.put_dash.ensures

pub returns-in-Some : goal.returns-in-Some
returns-in-Some c = master_column _ _ _ (c.master_of.ensures (omega arith)) c.in-Some.is c.put_right.ensures
