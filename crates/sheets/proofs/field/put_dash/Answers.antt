-- A dash, then blanks.
use native.Mathlib.Omega.{arith}
use Rattle.sheets.specs.FieldLaws.{dash_put}
use Rattle.sheets.proofs.field.put_dash.Goals as goal

pub returns : goal.returns
returns c = dash_put _ (omega arith) c.put_u8.ensures c.fill.ensures
