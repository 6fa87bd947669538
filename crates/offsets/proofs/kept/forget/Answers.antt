-- The first word, where there is one, is zero.
use Rattle.std.proofs.Common.{arith, ◌≡◌, length, take, replicate, length-take-le}
use Rattle.offsets.specs.OffsetsLaws.{forgets}
use Rattle.offsets.proofs.kept.forget.Goals as goal

pub returns : goal.returns
returns c =
    let e = c.min-n.ensures in
    let m : length (take c.min-n.result c.args.words.now) ≡ c.min-n.result = length-take-le c.min-n.result c.args.words.now (omega arith) in
    let is : c.fill.new.self ≡ replicate c.min-n.result 0 = rw m at (c.fill.ensures.after (λ y e. e)) in
    rw is (forgets _ _ c.min-n.ensures)
