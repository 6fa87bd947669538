-- Nothing changes, or stretches are added.
use Rattle.data_blocks.proofs.column.prepare.Goals as goal

pub returns-then-first-ne0 : goal.returns-then-first-ne0
returns-then-first-ne0 c = λ gs_of ws_of a b e q. q

pub returns : goal.returns
returns c = c.fill.ensures
