-- The bytes that are left and the room behind them, laid over the slice as it is now, give the result.
use Rattle.std.proofs.Common.{arith, refl, ap, ◌∙◌, ◌+◌, ◌-◌, ◌≡◌, length}
use Rattle.base.specs.BlitLaws.{length-blit}
use Rattle.sheets.specs.NameLaws.{name_end, name_zero, name_turn, name_piece}
use Rattle.sheets.proofs.name.put_shown.Goals as goal

pub loop-k-init : goal.loop-k-init
loop-k-init c =
    let p : c.args.at + 0 ≡ c.args.at = omega arith in
    let q : c.args.from + 0 ≡ c.args.from = omega arith in
    let m : c.args.n - 0 ≡ c.args.n = omega arith in
    (refl, rw (p, q, m))

pub returns-then-b-eq0 : goal.returns-then-b-eq0
returns-then-b-eq0 c = name_piece _ _ _ c.requires.1
    (name_zero _ _ _ _ _ _ c.loop-k.invariant.1 (omega arith) (omega arith) c.field_at-b.ensures.is c.if-b-eq0.true c.fill.ensures)

pub loop-k-preserved : goal.loop-k-preserved
loop-k-preserved c = (
  ap length c.put_u8.ensures ∙ length-blit _ _ _ ∙ c.loop-k.invariant.0,
  name_turn _ _ _ _ _ _ c.loop-k.invariant.1 (omega arith) (omega arith) c.field_at-b.ensures.is c.if-b-eq0.false c.shown.ensures c.put_u8.ensures
      (omega arith) (omega arith) (omega arith) (omega arith),
)

pub returns : goal.returns
returns c =
    let e : c.loop-k.k ≡ c.args.n = omega arith in
    name_piece _ _ _ c.requires.1 (name_end _ _ _ _ _ _ (rw e at c.loop-k.invariant.1) (omega arith) c.fill-2.ensures)
