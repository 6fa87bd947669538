-- Each number of bytes by its own way.
use Rattle.cells.proofs.cell.copy_within.Goals as goal

pub returns-then-n-eq8 : goal.returns-then-n-eq8
returns-then-n-eq8 c = cc

pub returns-then-n-eq4 : goal.returns-then-n-eq4
returns-then-n-eq4 c = cc

pub returns-then-n-eq2 : goal.returns-then-n-eq2
returns-then-n-eq2 c = cc

pub returns-then-n-eq1 : goal.returns-then-n-eq1
returns-then-n-eq1 c = cc
