-- By the place in the chain; what has no index is sought.
use Rattle.copying.specs.ChainIndexLaws.{first-none, first_last, first_next}
use native.Mathlib.Omega.{arith}
use Rattle.copying.proofs.first_link.Goals as goal

pub returns-then-chain-gt2048 : goal.returns-then-chain-gt2048
returns-then-chain-gt2048 c = λ t x. c.sought_link.ensures t

pub returns-then-left-eq0 : goal.returns-then-left-eq0
returns-then-left-eq0 c = λ t x.
    let s = c.args in
    let f = c.place_in-i.ensures.first (x (omega arith) (omega arith)) in
    first-none s.copies.image.now s.copies.memo.now _ s.history.fh s.a s.history.chain c.place_in-i.result f (omega arith) (omega arith)
    (omega arith) (c.own_link.ensures t)

pub returns-then-left-eq1 : goal.returns-then-left-eq1
returns-then-left-eq1 c = λ t x.
    let s = c.args in
    let f = c.place_in-i.ensures.first (x (omega arith) (omega arith)) in
    first_last s.copies.image.now s.copies.memo.now _ s.history.fh s.a s.history.chain c.place_in-i.result f (omega arith) (omega arith)
    (omega arith)

pub returns : goal.returns
returns c = λ t x.
    let s = c.args in
    let f = c.place_in-i.ensures.first (x (omega arith) (omega arith)) in
    first_next s.copies.image.now s.copies.memo.now _ s.history.fh s.a s.history.chain c.place_in-i.result f (omega arith)
    (omega arith) (omega arith) (c.link_by.ensures t)
