-- The lines of the first k columns are laid.
use borrow.Author.Rules.{rules}
use native.Mathlib.Omega.{arith}
use Prim.Native.Nat.{◌*◌, ◌-◌, ◌≤◌}
use Rattle.texts.specs.Laid.{Laid}
use Rattle.texts.specs.LaidLaws.{laid-length}
use Rattle.listing.specs.Lines.{lines_in}
use Rattle.listing.specs.LinesLaws.{lines_begin, lines_end, lines_turn}
use Rattle.listing.proofs.lines.put_column_lines.Goals as goal

pub loop-k-init : goal.loop-k-init
loop-k-init c = (omega arith, lines_begin _ _ _ _)

pub put_column_line-p-requires : goal.put_column_line-p-requires
put_column_line-p-requires c = (
  omega (arith, c.loop-k.invariant.1.past, c.loop-k.invariant.1.small),
  omega arith,
  c.requires.2.each _ (omega arith),
)

pub loop-k-preserved : goal.loop-k-preserved
loop-k-preserved c = (
  omega arith,
  lines_turn _ _ _ _ _ c.loop-k.invariant.1
      c.put_column_line-p.ensures,
)

pub shape_of-lines : goal.shape_of-lines
shape_of-lines c = laid-length c.loop-k.invariant.1

pub returns : goal.returns
returns c = lines_end _ _ _ _ _ c.loop-k.invariant.1 _ c.loop-k.invariant.0 (omega arith)
