-- The words that are there are all that count.
use Rattle.std.proofs.Common.{arith, ◌≡◌, length, take, replicate, length-take-le}
use Rattle.records.specs.SeveralLaws.{zero_some}
use Rattle.records.proofs.several.clear.Goals as goal

pub returns : goal.returns
returns c =
    let e = c.min-k.ensures in
    let m : length (take c.min-k.result c.args.words.now) ≡ c.min-k.result = length-take-le c.min-k.result c.args.words.now (omega arith) in
    let is : c.fill.new.self ≡ replicate c.min-k.result 0 = rw m at (c.fill.ensures.after (λ y e. e)) in
    rw is (zero_some _ _ _ c.min-k.ensures)
