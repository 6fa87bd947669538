use Rattle.std.proofs.Common.{arith, refl, inl}
use Rattle.window_columns.specs.PassedLaws.{begun-at}
use Rattle.window_columns.proofs.Columns.first_needed.Goals as goal

pub returns-then-begun : goal.returns-then-begun
returns-then-begun c =
    let p = c.args.self.now in
    let h = c.loop-k.invariant in
    let some = c.loop-k-test.true in
    begun-at _ _ _ _ _ _ _ _ (omega (arith, h, some)) (c.entry_of-e.ensures (omega (arith, h, p.few)) p.long p.placed) (c.begun.ensures c.if-begun.true)

pub returns : goal.returns
returns c = inl refl
