-- The lines of the first k omissions are laid.
use borrow.Author.Rules.{rules}
use native.Mathlib.Omega.{arith}
use Prim.Native.Nat.{◌*◌, ◌-◌, ◌≤◌}
use Rattle.texts.specs.Laid.{Laid}
use Rattle.texts.specs.LaidLaws.{laid-length}
use Rattle.listing.specs.Lines.{omissions_in}
use Rattle.listing.specs.LinesLaws.{omissions_begin, omissions_end, omissions_turn}
use Rattle.listing.proofs.lines.put_omission_lines.Goals as goal

pub loop-k-init : goal.loop-k-init
loop-k-init c = (omega arith, omissions_begin _)

pub put_omission_line-p-requires : goal.put_omission_line-p-requires
put_omission_line-p-requires c = (
  omega (arith, c.loop-k.invariant.1.past, c.loop-k.invariant.1.small),
  omega arith,
)

pub loop-k-preserved : goal.loop-k-preserved
loop-k-preserved c = (
  omega arith,
  omissions_turn _ _ c.loop-k.invariant.1
      c.put_omission_line-p.ensures,
)

pub shape_of-lines : goal.shape_of-lines
shape_of-lines c = laid-length c.loop-k.invariant.1

pub returns : goal.returns
returns c = omissions_end _ _ c.loop-k.invariant.1 _ c.loop-k.invariant.0 (omega arith)
