-- What is left, laid over the slice as it is now, gives the result.
use Rattle.std.proofs.Common.{arith, refl, ap, ◌∙◌, ◌+◌, ◌-◌, ◌≡◌, length}
use lib.ListN.{length-replicate}
use Rattle.base.specs.BlitLaws.{length-blit}
use Rattle.sheets.specs.FieldLaws.{fill_turn, fill_end}
use Rattle.sheets.proofs.field.fill.Goals as goal

pub loop-p-init : goal.loop-p-init
loop-p-init c = let k : c.args.at + c.args.n - c.args.at ≡ c.args.n = omega arith in (refl, rw k)

pub loop-p-preserved : goal.loop-p-preserved
loop-p-preserved c = (
  ap length c.put_u8.ensures ∙ length-blit _ _ _ ∙ c.loop-p.invariant.0,
  fill_turn _ _ _ _ c.loop-p.invariant.1 _ (omega arith) (omega arith) (omega arith) c.put_u8.ensures,
)

pub returns : goal.returns
returns c = record { is = fill_end _ _ _ _ c.loop-p.invariant.1 (omega arith); long = length-replicate _ _ }
