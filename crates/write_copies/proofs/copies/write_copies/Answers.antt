-- By indices made for them.
use native.Mathlib.Omega.{arith}
use Rattle.write_copies.proofs.copies.write_copies.Goals as goal

pub returns-then-to-gt2050 : goal.returns-then-to-gt2050
returns-then-to-gt2050 c = λ h l f k m. absurd (omega arith)

pub returns : goal.returns
returns c = λ h l f k m. c.write_copies_by.ensures h l m c.index_copies-index.ensures c.index_chain-chained.ensures
