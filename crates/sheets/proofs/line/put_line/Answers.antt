-- The fields, one after the other.
use mathlib.Core.Path.{refl}
use native.Mathlib.Omega.{arith}
use Rattle.sheets.specs.LineLaws.{line_put}
use Rattle.sheets.proofs.line.put_line.Goals as goal

pub overflow_add-at-6 : goal.overflow_add-at-6
overflow_add-at-6 c = omega
    (arith, c.requires.0)

pub returns : goal.returns
returns c = line_put _ _ _ _ refl refl
    c.put_front.ensures
    c.put_name.ensures
    c.put_u8.ensures
    c.put_sizes.ensures
    c.put_u8-2.ensures
    c.put_master.ensures c.put_u8-3.ensures
