-- The records' bytes and those of the signal data's fragments.
use native.Mathlib.Omega.{arith}
use borrow.Author.Rules.{rules}
use Rattle.listing.specs.LinesLaws.{payload_fits, bytes-by, bytes_fit}
use Rattle.listing.proofs.lines.bytes_of.Goals as goal

pub overflow_mul-payload : goal.overflow_mul-payload
overflow_mul-payload c = let x = payload_fits _ _ _ c.word-cn.ensures c.word-cg.ensures c.word-records.ensures c.width_of.ensures.is c.args.plan.fragments.now c.requires.1 in omega (arith, x)

pub overflow_add-result : goal.overflow_add-result
overflow_add-result c = let x = bytes_fit _ _ _ c.word-cn.ensures c.word-cg.ensures c.word-records.ensures c.width_of.ensures.is c.args.plan.fragments.now c.requires.1
    c.word-first.ensures c.word-n.ensures c.signal_size.ensures in omega (arith, x)

pub returns : goal.returns
returns c = bytes-by _ _ _ c.word-cn.ensures c.word-cg.ensures c.word-records.ensures c.width_of.ensures.is c.args.plan.fragments.now c.requires.1
    c.word-first.ensures c.word-n.ensures c.signal_size.ensures
