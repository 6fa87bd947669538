use Prim.Native.Nat.{◌-◌}
use Rattle.window_cells.specs.StretchLaws.{more}
use native.Mathlib.Omega.{arith}
use Rattle.window_cells.proofs.stretch.further.Goals as goal

pub overflow_mul-result : goal.overflow_mul-result
overflow_mul-result c = omega (arith, more c.args.i c.args.r.n c.args.h.width (omega (arith, c.requires.1)), c.requires.0.place)

pub overflow_add-result : goal.overflow_add-result
overflow_add-result c = omega (arith, more c.args.i c.args.r.n c.args.h.width (omega (arith, c.requires.1)), c.requires.0.place)

pub overflow_mul-result-2 : goal.overflow_mul-result-2
overflow_mul-result-2 c = omega (arith, more c.args.i (c.args.r.n - 1) c.args.r.stride (omega (arith, c.requires.1)), c.requires.0.last)

pub overflow_add-result-2 : goal.overflow_add-result-2
overflow_add-result-2 c = omega (arith, more c.args.i (c.args.r.n - 1) c.args.r.stride (omega (arith, c.requires.1)), c.requires.0.last)
