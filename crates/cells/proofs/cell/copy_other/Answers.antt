-- Each number of bytes by its own way.
use Rattle.cells.proofs.cell.copy_other.Goals as goal

pub returns-then-n-eq3 : goal.returns-then-n-eq3
returns-then-n-eq3 c = cc

pub returns-then-n-eq5 : goal.returns-then-n-eq5
returns-then-n-eq5 c = cc

pub returns-then-n-eq6 : goal.returns-then-n-eq6
returns-then-n-eq6 c = cc

pub returns-then-n-eq7 : goal.returns-then-n-eq7
returns-then-n-eq7 c = cc

pub returns-then-n-eq16 : goal.returns-then-n-eq16
returns-then-n-eq16 c = cc
