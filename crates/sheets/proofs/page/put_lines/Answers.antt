-- The lines that are left, laid over the slice as it is now, give the result.
use Rattle.std.proofs.Common.{arith, refl, ap, ◌∙◌, ◌+◌, ◌-◌, ◌≡◌, length}
use Rattle.base.specs.BlitLaws.{length-blit}
use Rattle.sheets.specs.PageLaws.{lines_turn, lines_end, lines_piece}
use Rattle.sheets.proofs.page.put_lines.Goals as goal

pub loop-k-init : goal.loop-k-init
loop-k-init c = let k : c.args.first + c.args.count - c.args.first ≡ c.args.count = omega arith in (omega arith, refl, rw k)

pub loop-k-preserved : goal.loop-k-preserved
loop-k-preserved c = (
  omega arith,
  ap length c.put_line.ensures.is ∙ length-blit _ _ _ ∙ c.loop-k.invariant.1,
  lines_turn _ _ _ _ _ _ (omega arith) (omega arith) c.loop-k.invariant.2 c.put_line.ensures,
)

pub returns : goal.returns
returns c = lines_piece _ _ _ _ _ (lines_end _ _ _ _ _ _ (omega arith) c.loop-k.invariant.2)
