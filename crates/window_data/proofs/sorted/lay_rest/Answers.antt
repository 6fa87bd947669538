use Prim.Native.Nat.{◌-◌}
use mathlib.Core.Path.{refl}
use Rattle.data_blocks.specs.RegionLaws.{lying_past}
use Rattle.data_blocks.specs.FilledLaws.{past_in_lem}
use Rattle.window_data.specs.FilledLaws.{rest-none, rest_all, rest_part}
use native.Mathlib.Omega.{arith}
use Rattle.window_data.proofs.sorted.lay_rest.Goals as goal

pub returns-then-t-r : goal.returns-then-t-r
returns-then-t-r c = rest-none _ _ _ _ _ _ c.if-t-r.true

pub returns-then-r-t : goal.returns-then-r-t
returns-then-r-t c = rest_all _ _ _ _ _ _ c.if-r-t.true c.lay_piece.ensures

pub overflow_mul-rest : goal.overflow_mul-rest
overflow_mul-rest c = let y = lying_past (c.args.r - c.args.t.number) c.requires.2.lying (omega arith) in omega (arith, y.within, c.requires.0.small)

pub overflow_add-rest-2 : goal.overflow_add-rest-2
overflow_add-rest-2 c = let y = lying_past (c.args.r - c.args.t.number) c.requires.2.lying (omega arith) in omega (arith, y.within, c.requires.0.small)

pub lay_piece-requires-2 : goal.lay_piece-requires-2
lay_piece-requires-2 c = (c.requires.0, c.requires.1, past_in_lem (c.args.r - c.args.t.number) c.requires.2 (omega arith))

pub returns : goal.returns
returns c = rest_part _ _ _ _ c.args.t _ (c.args.r - c.args.t.number) refl (omega arith) (omega arith) c.lay_piece-2.ensures
